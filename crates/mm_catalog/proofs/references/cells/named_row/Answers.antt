use Rattle.std.proofs.Common.{◌≡◌, ◌≢◌, ◌∙◌, Some, length, refl, sym}
use Rattle.std.specs.List.{slice_get}
use Rattle.std.proofs.lemmas.Bool.{false≢true}
use Rattle.std.proofs.lemmas.Option.{slice_get_read}
use Rattle.plain_tables.specs.declared.value.Value.TheVariants.{Null}
use Rattle.mm_relation.specs.State.{RelationState}
use Rattle.mm_catalog.proofs.CellRows.{names_none}
use Rattle.mm_catalog.proofs.references.cells.named_row.Goals as goal
use Rattle.mm_catalog.proofs.references.cells.named_row.Goals.{in-Null, in_default-matches}

pub returns-in-None-clause-refused : goal.returns-in-None-clause-refused
returns-in-None-clause-refused c =
    let table = c.in-Some.table in
    let s : RelationState = c.index-before-table.result in
    let there : slice_get c.args.before.now table ≡ Some s =
    slice_get_read c.args.before.now (length c.args.before.now) table s refl (c.requires table c.in-Some.is) c.index-before-table.is in
    let some : c.args.value.now ≢ Null = elim c.match-matches.branch [
      | in-Null w ↦ absurd (false≢true (sym c.if-matches.false ∙ w.matches-is))
      | in_default-matches w ↦ w.in_default-matches.not-Null
    ] in
    (refl, names_none c.args.before.now c.args.target c.args.value.now table s c.in-Some.is there some c.in-None.ensures.none)
