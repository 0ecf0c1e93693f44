-- What is done to a catalog, and what is answered.
use Rattle.std.specs.Prelude.{◌≡◌, ℕ, List}
use Rattle.plain_tables.specs.AnswerText.{answer_text}
use Rattle.plain_tables.specs.Effects.{Effect}
use Rattle.mm_catalog.specs.State.{CatalogState}
use Rattle.mm_catalog.specs.Seen.{database_of}

-- The effect came about, and that is its answer.
pub record HasPerformed (old new : CatalogState) (effect : Effect) (answer : List ℕ) : Type 0 where
  pub database : database_of new ≡ effect.database
  pub limits : new.limits ≡ old.limits
  pub told : answer ≡ answer_text effect.outcome
