-- An empty answer becomes what it gains.
use Rattle.std.proofs.Common.{◌≡◌, ◌∙◌, List, ℕ, [], ◌++◌, Some, refl, subst, sym, ap}
use Rattle.mm_session.specs.Sessions.{Gains}
use Rattle.mm_database.proofs.database.OpenDatabase.feed.Goals as goal

-- what an empty answer has gained is the answer
gained_all : (P : List ℕ → Type 0) (old new : List ℕ) → old ≡ [] → Gains (Some old) (Some new) P → P new
gained_all P old new empty g = subst P (sym (g.1 ∙ ap (λ (bytes : List ℕ). bytes ++ g.0) empty)) g.2

-- src/database.rt:43:5
pub returns-clause-write : goal.returns-clause-write
returns-clause-write c is = record {
  breaks_off = gained_all _ _ _ c.clear.ensures (c.feed.ensures.write is);
  over = c.feed.ensures.over is;
  limits = c.feed.ensures.limits;
  saved = c.feed.ensures.saved;
  shared = c.feed.ensures.keeps;
  statements = c.feed.ensures.statements;
  rows = record { shown = refl; queried = refl; columns = refl };
}

pub returns-clause-shared : goal.returns-clause-shared
returns-clause-shared c is =
    let same = c.feed.ensures.shared is in
    record {
      inner = record { session = same.1; shared = c.feed.ensures.keeps; statements = c.feed.ensures.statements };
      rows = record { shown = refl; queried = refl; columns = refl };
      answer = same.2 ∙ c.clear.ensures;
    }
