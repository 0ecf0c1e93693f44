-- Tables with no index declared: what is found of them, and effects on them.
use Rattle.std.proofs.Common.{◌≡◌, map, List, [], ◌∷◌, inl, inr, ap, ◌∙◌, refl, Option, Some, None}
use Rattle.std.specs.Option.{option_map, option_map_or}
use Rattle.std.proofs.lemmas.Bool.{cases_Bool}
use Rattle.plain_tables.specs.Tables.{Table}
use Rattle.plain_tables.specs.Databases.{Database}
use Rattle.plain_tables.specs.Effects.{Effect, Check, checked, Refused}
use Rattle.plain_tables.specs.ResolvedLaws.{unindexed}
use Rattle.plain_tables.specs.declared.refusal.Refusal.TheVariants.{NoSuchTable}

-- ---- effects

-- the effect on databases with no index declared
abbrev pub bare : Effect → Effect
bare e = record { database = map unindexed e.database; outcome = e.outcome }

checked_bare : (tables : Database) (checks : List Check) (e : Effect) → checked (map unindexed tables) checks (bare e) ≡ bare (checked tables checks e)
checked_bare tables [] e = refl
checked_bare tables (c ∷ checks) e =
    elim (cases_Bool c.refuses) [ inl t ↦ rw t refl | inr f ↦ rw f (checked_bare tables checks e) ]

-- an effect that is checked, with another database behind the checks that is the same but for the indexes
pub checked_as : (tables : Database) (checks : List Check) (e f : Effect) → f ≡ bare e
    → checked (map unindexed tables) checks f ≡ bare (checked tables checks e)
checked_as tables checks e f same = ap (checked (map unindexed tables) checks) same ∙ checked_bare tables checks e

pub found_bare : (tables : Database) (found : Option Table) (e f : Table → Effect) → ((t : Table) → f (unindexed t) ≡ bare (e t))
    → option_map_or f (option_map unindexed found) (record { database = map unindexed tables; outcome = Refused NoSuchTable })
    ≡ bare (option_map_or e found (record { database = tables; outcome = Refused NoSuchTable }))
found_bare tables None e f same = refl
found_bare tables (Some t) e f same = same t
