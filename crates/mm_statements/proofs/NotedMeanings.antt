-- Noted: the names and columns of tables that are noted, and statements that are right by them.
use Rattle.std.proofs.Common.{◌≡◌, ◌∙◌, map, subst, sym, false, true}
use Rattle.std.proofs.lemmas.Simd.{map-map}
use Rattle.plain_tables.specs.Databases.{Database}
use Rattle.plain_tables.specs.ResolvedLaws.{emptied}
use Rattle.mm_prepared.specs.declared.kept.Statements.{Statements}
use Rattle.mm_shared.specs.Noted.{noted_table, noted_tables}
use Rattle.mm_statements.specs.Right.{AreNoted, AreRight}
use Rattle.mm_shared.specs.declared.noted.NotedTables.{NotedTables}
use Rattle.mm_statements.proofs.Right.{stays-right}

-- what is noted has neither declared indexes nor rows
noted-emptied : (noted : NotedTables) → map emptied (noted_tables noted) ≡ noted_tables noted
noted-emptied noted = map-map emptied noted_table noted.tables.items

module _ (tables : Database) (noted : NotedTables) (statements : Statements) (same : noted_tables noted ≡ map emptied tables) where
  -- where the tables have the names and columns that are noted, statements are right by either
  pub right-now : AreRight (noted_tables noted) statements → AreRight tables statements
  right-now right = stays-right (noted_tables noted) tables statements (noted-emptied noted ∙ same) right

  pub right-noted : AreRight tables statements → AreRight (noted_tables noted) statements
  right-noted right = stays-right tables (noted_tables noted) statements (sym (noted-emptied noted ∙ same)) right

pub are-noted : (tables : Database) (noted : NotedTables) (statements : Statements) → noted_tables noted ≡ map emptied tables
    → AreRight tables statements → AreNoted tables noted statements
are-noted tables noted statements same right = record { right = right-noted tables noted statements same right; current = λ now. same }

-- What is noted stays so while the tables have the same names and columns.
pub noted-stays : (tables others : Database) (noted : NotedTables) (statements : Statements) → map emptied tables ≡ map emptied others
    → AreNoted tables noted statements → AreNoted others noted statements
noted-stays tables others noted statements same is = record { right = is.right; current = λ now. is.current now ∙ same }

-- What is in doubt may be noted of any tables.
pub doubted-noted : (tables others : Database) (old new : NotedTables) (statements : Statements) → new ≡ record old { current = false }
    → AreNoted tables old statements → AreNoted others new statements
doubted-noted tables others old new statements doubted is =
    subst (λ (n : NotedTables). AreNoted others n statements) (sym doubted)
    (record { right = is.right; current = λ now. let bad : false ≡ true = now in cc })
