-- What it is for all rows of a table to be hidden.
use Rattle.std.specs.Prelude.{◌≡◌, ◌++◌, ℕ, List}
use Rattle.part_raw.specs.declared.tuple_ref.TupleRef.{TupleRef}
use Rattle.mm_catalog.specs.Outline.{HasRowsHidden, outline_of}
use Rattle.mm_catalog.specs.State.{CatalogState}

-- rows of the table of a number are hidden now, and their references stand behind those of a list
pub record HaveGoneOut (old new : CatalogState) (n : ℕ) (before after : List TupleRef) : Type 0 where
  pub refs : List TupleRef
  pub more : HasRowsHidden (outline_of old) (outline_of new) n refs
  pub list : after ≡ before ++ refs
