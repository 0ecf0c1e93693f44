-- What the plain indexes are seen as.
use Rattle.std.specs.Prelude.{ℕ, List}
use Rattle.part_raw.specs.declared.tuple_ref.TupleRef.{TupleRef}

-- a list of references, and how many more there is room for
pub record HeldList : Type 0 where
  pub items : List TupleRef
  pub room : ℕ

-- pairs of a hash and a reference, and how many more there is room for
pub record HeldPairs : Type 0 where
  pub entries : List (ℕ × TupleRef)
  pub room : ℕ
