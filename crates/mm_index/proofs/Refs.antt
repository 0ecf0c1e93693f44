-- References that are equal, and the bags that hold them.
use Rattle.std.proofs.Common.{List}
use Rattle.std.specs.List.{Contains}
use Rattle.part_raw.specs.declared.tuple_ref.TupleRef.{TupleRef}
pub use Rattle.part_raw.proofs.Tuples.{same_ref, Decides-same_ref}
use Rattle.mm_index.specs.Bag.{IsSameBag}
use Rattle.mm_index.proofs.Bags.{Contains-same_bag}

-- two lists of references that are the same bag have the same members
pub Contains-same_refs : (xs ys : List TupleRef) (r : TupleRef) → IsSameBag xs ys → Contains xs r → Contains ys r
Contains-same_refs xs ys r bag h = Contains-same_bag same_ref Decides-same_ref xs ys r bag h
