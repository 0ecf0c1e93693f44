-- A catalog of no tables.
use Rattle.std.proofs.Common.{◌≡◌, ◌≤◌, [], refl, arith}
use Rattle.std.proofs.lemmas.Option.{none-some}
use Rattle.plain_tables.specs.declared.command.Limits.{Limits}
use Rattle.mm_catalog.specs.State.{CatalogState}
use Rattle.mm_catalog.specs.Seen.{database_of}
use Rattle.mm_catalog.specs.Consistent.{IsConsistent}
use Rattle.plain_tables.proofs.Sound.{no_tables_are_sound}

abbrev pub no_tables : Limits → CatalogState
no_tables limits = record { limits = limits; names = []; relations = [] }

pub database-empty : (limits : Limits) → database_of (no_tables limits) ≡ []
unfolding database_of
database-empty limits = refl

pub empty_is_consistent : (limits : Limits) → limits.rows ≤ 16777216 → IsConsistent (no_tables limits)
unfolding database_of
empty_is_consistent limits few = record {
  named = refl;
  rows = few;
  sound = no_tables_are_sound limits;
  each = λ k d h. absurd (omega arith);
  counted = λ table s r at held. absurd (none-some s at);
}
