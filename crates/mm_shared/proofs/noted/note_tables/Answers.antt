use Rattle.std.proofs.Common.{◌≡◌, ◌∙◌, ◌++◌, ◌∷◌, List, [], add-one, ap, map, suc, sym, take}
use Rattle.std.proofs.lemmas.List.{map-append}
use Rattle.plain_tables.specs.ResolvedLaws.{emptied}
use Rattle.plain_tables.specs.Tables.{Table}
use Rattle.mm_shared.specs.Noted.{noted_table}
use Rattle.mm_catalog.specs.Seen.{database_of}
use Rattle.mm_shared.proofs.Noting.{next-taken}
use Rattle.mm_shared.proofs.noted.note_tables.Goals as goal

pub loop-number-preserved : goal.loop-number-preserved
loop-number-preserved c =
    let tables = map emptied (database_of c.args.catalog.now) in
    let n = c.loop-number.number in
    let noted = c.in_ok-of.field-0 in
    let e : map noted_table c.push.new.self.items ≡ map noted_table c.loop-number.tables.items ++ noted_table noted ∷ [] =
    ap (map noted_table) c.in_ok-push.ensures.items ∙ map-append noted_table c.loop-number.tables.items (noted ∷ []) in
    let t : take (suc n) tables ≡ take n tables ++ noted_table noted ∷ [] = next-taken tables n (noted_table noted) c.in_ok-of.ensures in
    rw add-one (e ∙ ap (λ (ts : List Table). ts ++ noted_table noted ∷ []) c.loop-number.invariant ∙ sym t)
