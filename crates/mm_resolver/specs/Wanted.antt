-- Wanted: what is asked of the values of a statement, as far as it is known, and what the statement means by it.
use Rattle.std.specs.Prelude.{◌≡◌, List, [], ◌∷◌, ◌++◌, MatchResult, Option}
use Rattle.std.specs.List.{list_any}
use Rattle.plain_tables.specs.Databases.{Database}
use Rattle.plain_tables.specs.Effects.{Check}
use Rattle.plain_tables.specs.declared.refusal.Refusal.{Refusal}
use Rattle.plain_tables.specs.declared.refusal.Refusal.TheVariants.{TextTooLong, WrongType}
use Rattle.plain_statements.specs.Finishing.{is_wrong, is_past}
use Rattle.plain_statements.specs.Laws.{Refuses, Resolves}
use Rattle.plain_statements.specs.Slots.{Needed, first_refusal, is_given, opened, wants_of}
use Rattle.plain_statements.specs.StatementSpelling.{holes_of}
use Rattle.plain_statements.specs.declared.resolution.Template.{Template}
use Rattle.plain_statements.specs.declared.statement.Statement.{Statement}
use Rattle.mm_resolver.specs.declared.wanted.Wanted.{Wanted}

-- It is what these slots with their needs ask: it has the wants of those to come, and tells whether a given one is none that is
-- needed, and whether one that is to be stored is too long.
pub record IsWantedOf (needs : List Needed) (wanted : Wanted) : Type 0 where
  pub wants : wanted.wants ≡ wants_of needs
  pub wrong : wanted.given_wrong ≡ list_any (is_given is_wrong) needs
  pub past : wanted.given_past ≡ list_any (is_given is_past) needs

-- these slots are behind those that were asked before
abbrev pub Adds : List Needed → Wanted → Wanted → Type 0
Adds more before after = (needs : List Needed) → IsWantedOf needs before → IsWantedOf (needs ++ more) after

-- the checks of given values, and those that come last
abbrev pub given_checks : List Needed → List Check → List Check
given_checks needs late =
    record { refuses = list_any (is_given is_wrong) needs; refusal = WrongType }
    ∷ record { refuses = list_any (is_given is_past) needs; refusal = TextTooLong }
    ∷ late

-- What is known of a statement whose names are found, and which no check refuses that comes before those of values: what is
-- asked of its values, the refusal of the checks that come last, and what is done. Where it has no holes, no values are to come.
pub record IsFound (tables : Database) (s : Statement) (wanted : Wanted) (last : Option Refusal) (t : Template) : Type 0 where
  pub needs : List Needed
  pub late : List Check
  pub asked : IsWantedOf needs wanted
  pub behind : last ≡ first_refusal late
  pub holes : holes_of s ≡ [] → wants_of needs ≡ []
  pub means : MatchResult (opened needs late t) (Resolves tables s) (Refuses tables s)
