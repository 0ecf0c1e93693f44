-- What a contract sees of a `Partitions`: two finite maps, from references to tuples and to the counts beside them, a number of
-- free slots, and whether counts are kept. The laws of the maps are in `proofs.Tuples`.
use Rattle.std.specs.Prelude.{◌≡◌, ℕ, ◌+◌, ◌<◌, ◌≤◌, Bool, List, Option, IsSome, refl, if◌then◌else◌, nat_lt, unwrap_or}
use Rattle.std.specs.Coded.{Coded, code_by, coded×, coded_bool, coded_list, coded_ℕ}
use Rattle.std.specs.FinMap as map
use Rattle.part_raw.specs.declared.TheConstants.{SLOTS}
use Rattle.part_raw.specs.TupleRefs.{ref_cmp, ref_code}
use Rattle.part_raw.specs.declared.tuple_ref.TupleRef.{TupleRef}

-- the tuples that are held, each under its reference
abbrev pub Tuples : Type 0 → Type 0
Tuples T = map.FinMap ref_cmp T

-- how many cells a tuple has; the cells of each tuple; its count; how many tuples more can be put with no memory; whether counts
-- are kept
pub record Store (T : Type 0) : Type 0 where
  pub width : ℕ
  pub tuples : Tuples (List T)
  pub counts : Tuples ℕ
  pub free : ℕ
  pub counted : Bool

-- a store is stored as its fields, one behind the other
abbrev pub store_code : {T : Type 0} → Coded T → Coded (Store T)
store_code {T} code =
    code_by (ℕ × (Tuples (List T) × (Tuples ℕ × (ℕ × Bool))))
    (coded× coded_ℕ (coded× (map.code ref_code (coded_list code)) (coded× (map.code ref_code coded_ℕ) (coded× coded_ℕ coded_bool))))
    (λ s. (s.width, (s.tuples, (s.counts, (s.free, s.counted))))) (λ p. record { width = p.0; tuples = p.1.0; counts = p.1.1.0; free = p.1.1.1.0; counted = p.1.1.1.1 }) (λ _. refl)

-- how many slots are free once room is made: where there was none, a partition is new
abbrev pub free_reserved : ℕ → ℕ
free_reserved free = if nat_lt 0 free then free else SLOTS

module _ {T : Type 0} where
  abbrev pub store : ℕ → Tuples (List T) → Tuples ℕ → ℕ → Bool → Store T
  store width tuples counts free counted = record { width = width; tuples = tuples; counts = counts; free = free; counted = counted }

  -- the cells of the tuple under a reference
  abbrev pub tuple_at : Store T → TupleRef → Option (List T)
  tuple_at s r = map.get s.tuples r

  -- the store holds a tuple under this reference
  abbrev pub IsHeld : Store T → TupleRef → Type 0
  IsHeld s r = IsSome (tuple_at s r)

  -- the count of the tuple under a reference
  abbrev pub count_of : Store T → TupleRef → ℕ
  count_of s r = unwrap_or (map.get s.counts r) 0

  -- the count of each tuple is 0
  abbrev pub HasNoCounts : Store T → Type 0
  HasNoCounts s = (r : TupleRef) → IsHeld s r → count_of s r ≡ 0

  -- the store with these as the cells of the tuple under the reference
  abbrev pub with_cells : Store T → TupleRef → List T → Store T
  with_cells s r cells = record s { tuples = map.insert s.tuples r cells }

  -- the store with this as its count
  abbrev pub with_count : Store T → TupleRef → ℕ → Store T
  with_count s r n = record s { counts = map.insert s.counts r n }

  -- so many slots there are that the last partition holds a tuple
  abbrev pub EndsHeld : Store T → Type 0
  EndsHeld s = 0 < map.len s.tuples + s.free → (r : TupleRef) × IsHeld s r × (map.len s.tuples + s.free ≤ r.number + SLOTS)
