-- Changes: what is done by a statement leaves the names and columns of tables.
use Rattle.std.proofs.Common.{◌≡◌, map, sym, ap, ◌∙◌, refl}
use Rattle.std.proofs.lemmas.Simd.{map-map}
use Rattle.plain_tables.specs.Databases.{Database}
use Rattle.plain_tables.specs.Doing.{done}
use Rattle.plain_tables.specs.ResolvedLaws.{emptied, rowless}
use Rattle.plain_tables.specs.declared.command.Limits.{Limits}
use Rattle.plain_tables.specs.declared.resolved.Resolved.{Resolved}
use Rattle.plain_tables.specs.declared.resolved.Resolved.TheVariants as resolved
use Rattle.plain_tables.proofs.Changes.{own_rows_change}
use Rattle.mm_session.specs.Changing.{IsChange}

-- tables that are as before but for rows have the same names and columns
pub same_schemas : (old new : Database) → map rowless new ≡ map rowless old → map emptied new ≡ map emptied old
same_schemas old new same = sym (map-map emptied rowless new) ∙ ap (map emptied) same ∙ map-map emptied rowless old

pub change-schemas : (limits : Limits) (tables : Database) (r : Resolved) → IsChange r → map emptied (done limits tables r).database ≡ map emptied tables
change-schemas limits tables (resolved.Insert n row) is =
    same_schemas tables _ (own_rows_change limits tables (resolved.Insert n row) n refl).all_but_rows
change-schemas limits tables (resolved.Update n assignments tests) is =
    same_schemas tables _ (own_rows_change limits tables (resolved.Update n assignments tests) n refl).all_but_rows
change-schemas limits tables (resolved.Delete n tests) is =
    same_schemas tables _ (own_rows_change limits tables (resolved.Delete n tests) n refl).all_but_rows
change-schemas limits tables r is = absurd is
