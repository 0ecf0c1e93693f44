-- References to tuples, in the order in which a map of them is kept.
use Rattle.std.specs.Prelude.{ℕ, ◌+◌, ◌*◌, ◌/◌, ◌%◌, refl}
use Rattle.std.specs.Coded.{Coded, code_by, coded_ℕ}
use Rattle.std.specs.declared.cmp.Ordering.{Ordering}
use Rattle.std.specs.Ordering.{nat_cmp, on}
use Rattle.part_raw.specs.declared.TheConstants.{SLOTS}
use Rattle.part_raw.specs.declared.tuple_ref.TupleRef.{TupleRef}

-- by number, which is by partition, and within one by slot
abbrev pub ref_cmp : TupleRef → TupleRef → Ordering
ref_cmp = on (λ r. r.number) nat_cmp

-- a reference is stored as its number
abbrev pub ref_code : Coded TupleRef
ref_code = code_by ℕ coded_ℕ (λ r. r.number) (λ n. record { number = n }) (λ _. refl)

-- the reference of a slot of a partition
abbrev pub ref_to : ℕ → ℕ → TupleRef
ref_to part slot = record { number = part * SLOTS + slot }

-- the partition that a reference names, and the slot in it
abbrev pub part_of : TupleRef → ℕ
part_of r = r.number / SLOTS

abbrev pub slot_of : TupleRef → ℕ
slot_of r = r.number % SLOTS
