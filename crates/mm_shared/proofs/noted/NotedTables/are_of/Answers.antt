use Rattle.std.proofs.Common.{◌≡◌, ◌∙◌, ◌++◌, ◌∷◌, List, [], add-one, ap, length, map, refl, sym, Some}
use Rattle.std.specs.List.{slice_get}
use Rattle.std.specs.Option.{option_map}
use Rattle.std.proofs.lemmas.Option.{slice_get-map, slice_get_read}
use Rattle.plain_tables.specs.ResolvedLaws.{emptied}
use Rattle.plain_tables.specs.Tables.{Table}
use Rattle.mm_shared.specs.declared.noted.NotedTable.{NotedTable}
use Rattle.mm_shared.specs.Noted.{noted_table, noted_tables}
use Rattle.mm_catalog.specs.Seen.{database_of}
use Rattle.mm_shared.proofs.Noting.{next-taken}
use Rattle.mm_shared.proofs.noted.NotedTables.are_of.Goals as goal

pub loop-number-preserved : goal.loop-number-preserved
loop-number-preserved c =
    let tables = map emptied (database_of c.args.catalog.now) in
    let n = c.loop-number.number in
    let noted = c.noted-item.result in
    let items = c.deref-noted-items.result.now in
    let own : slice_get (noted_tables c.args.self.now) n ≡ Some (noted_table noted) =
    ap (λ (xs : List NotedTable). slice_get (map noted_table xs) n) (sym c.deref-noted-items.ensures.value)
    ∙ (slice_get-map noted_table items n ∙ ap (option_map noted_table) (slice_get_read items (length items) n noted refl c.loop-number-test.true c.noted-item.is)) in
    let its : slice_get tables n ≡ Some (noted_table noted) = c.is_of.ensures.0 c.if-not-is_of.false in
    rw add-one (next-taken (noted_tables c.args.self.now) n (noted_table noted) own ∙ ap (λ (ts : List Table). ts ++ noted_table noted ∷ []) c.loop-number.invariant ∙ sym (next-taken tables n (noted_table noted) its))
