-- The order of references is total, and tells any two apart; a reference is told by its partition and its slot.
use Rattle.std.proofs.Common.{◌≡◌, ap, ◌∙◌, ℕ, ◌+◌, ◌*◌, ◌/◌, ◌%◌, ◌<◌, arith}
use Rattle.std.proofs.lemmas.Cmp.{on_total, nat_cmp_total}
use Rattle.std.proofs.lemmas.Map.Lookups.{exact_unsigned}
use Rattle.std.specs.Cmp.{IsTotalOrder}
use Rattle.std.specs.FinMap.{IsAntisymmetric}
use Rattle.part_raw.specs.declared.tuple_ref.TupleRef.{TupleRef}
use Rattle.part_raw.specs.TupleRefs.{ref_cmp, ref_to, part_of, slot_of}

abbrev pub numbered : ℕ → TupleRef
numbered n = record { number = n }

pub ref_cmp_total : IsTotalOrder ref_cmp
ref_cmp_total = on_total (λ (r : TupleRef). r.number) nat_cmp_total

pub ref_cmp_exact : IsAntisymmetric ref_cmp
ref_cmp_exact x y e = ap numbered (exact_unsigned x.number y.number e)

-- a reference is that of its partition and its slot
pub ref_to-itself : (r : TupleRef) → ref_to (part_of r) (slot_of r) ≡ r
ref_to-itself r = let n : r.number / 256 * 256 + r.number % 256 ≡ r.number = omega arith in ap numbered n

pub slot_of-within : (r : TupleRef) → slot_of r < 256
slot_of-within r = omega arith

pub part_of-to : (part slot : ℕ) → slot < 256 → part_of (ref_to part slot) ≡ part
part_of-to part slot within = omega arith

pub slot_of-to : (part slot : ℕ) → slot < 256 → slot_of (ref_to part slot) ≡ slot
slot_of-to part slot within = omega arith

pub ref_to-names : (r : TupleRef) (part slot : ℕ) → part ≡ part_of r → slot ≡ slot_of r → ref_to part slot ≡ r
ref_to-names r part slot names names_slot = ap (λ n. ref_to n slot) names ∙ ap (ref_to (part_of r)) names_slot ∙ ref_to-itself r
