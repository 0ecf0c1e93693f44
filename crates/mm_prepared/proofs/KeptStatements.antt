-- What is seen of the statements that are kept.
use Rattle.std.proofs.Common.{◌≡◌, ℕ, None}
use Rattle.std.specs.Prelude.{slice_index_or}
use Rattle.std.specs.Option.{option_map}
use Rattle.std.proofs.Math.ListN.{get_or-map}
use Rattle.mm_prepared.specs.Kept.{all_seen, named, seen}
use Rattle.mm_prepared.specs.declared.kept.Statements.{Statements}

-- by a number the statement is seen that it names
pub all_seen-at : (statements : Statements) (number : ℕ) → slice_index_or (all_seen statements) number None ≡ option_map seen (named statements number)
all_seen-at statements number = get_or-map (option_map seen) statements.kept.slots number None
