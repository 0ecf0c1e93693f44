use Rattle.std.proofs.Common.{◌≡◌, ◌∙◌, List, [], ◌∷◌, ap, sym, subst}
use Rattle.std.specs.Prelude.{slice_get}
use Rattle.std.specs.List.{All}
use Rattle.plain_tables.specs.declared.numbers.Place.{Place}
use Rattle.mm_relation.specs.State.{RelationState}
use Rattle.temp_list.specs.Lists.{ListState, IsOver, HasPlace}
use Rattle.temp_list.specs.Reading.{passing}
use Rattle.temp_list.proofs.Lists.{same_at}
use Rattle.temp_list.proofs.Reading.{sound_at}
use Rattle.project_hash.specs.Distinct.{IsDistinctOf}
use Rattle.project_hash.specs.Known.{AreEnough, AreInOrder}
use Rattle.project_hash.specs.Shown.{references_of}
use Rattle.project_hash.specs.Table.{TableState, list_of_table}
use Rattle.project_hash.proofs.Scans.{scanned_distinct, scanned_over}
use Rattle.project_hash.proofs.Tables.{can_be_read}
use Rattle.project_hash.proofs.scanning.distinct_of_table.Goals as goal

pub known_rows-requires-clause-can_read : goal.known_rows-requires-clause-can_read
known_rows-requires-clause-can_read g c =
    can_be_read (g.R.Relations.tables c.args.tables.now) c.requires.sound c.args.table.0 c.at.result.now c.at.ensures c.as_slice.result.now
    (subst (All (HasPlace (g.R.Relations.tables c.args.tables.now) (c.args.table.0 ∷ []))) (sym c.as_slice.ensures.value) c.requires.columns)

pub in_order-requires-clause-can_read : goal.in_order-requires-clause-can_read
in_order-requires-clause-can_read g c =
    can_be_read (g.R.Relations.tables c.args.tables.now) c.requires.sound c.args.table.0 c.at.result.now c.at.ensures c.as_slice.result.now
    (subst (All (HasPlace (g.R.Relations.tables c.args.tables.now) (c.args.table.0 ∷ []))) (sym c.as_slice.ensures.value) c.requires.columns)

pub returns-clause-distinct : goal.returns-clause-distinct
returns-clause-distinct g c = λ s at.
    let relations = g.R.Relations.tables c.args.tables.now in
    let n = c.args.table.0 in
    let tests = c.args.tests.now in
    let t : TableState = record { relations = relations; table = n; relation = c.at.result.now; places = c.as_slice.result.now } in
    let rows = references_of c.as_slice-3.result.now in
    let enough : AreEnough t (passing relations c.at.result.now tests) c.as_slice-2.result.now = subst (AreEnough t (passing relations c.at.result.now tests)) (sym c.as_slice-2.ensures.value) c.in_ok-known.ensures in
    let is : AreInOrder t c.as_slice-2.result.now c.as_slice-3.result.now = subst (AreInOrder t c.as_slice-2.result.now) (sym c.as_slice-3.ensures.value) c.in_ok-rows.ensures in
    let made : c.describe.new.self ≡ record { sources = n ∷ []; rows = rows; columns = c.args.columns.items } =
    c.describe.ensures ∙ ap (λ (l : ListState). record l { columns = c.args.columns.items }) c.in_ok-list.ensures in
    let one : s ≡ c.at.result.now = same_at (slice_get relations n) s c.at.result.now at c.at.ensures in
    subst (λ (u : RelationState). IsDistinctOf relations (list_of_table n (passing relations u tests) c.args.columns.items) c.describe.new.self) (sym one)
    (subst (IsDistinctOf relations (list_of_table n (passing relations c.at.result.now tests) c.args.columns.items)) (sym made)
    (subst (λ (ps : List Place). IsDistinctOf relations (list_of_table n (passing relations c.at.result.now tests) ps) (record { sources = n ∷ []; rows = rows; columns = ps })) c.as_slice.ensures.value
    (scanned_distinct t tests c.as_slice-2.result.now enough c.as_slice-3.result.now is)))

pub returns-clause-over : goal.returns-clause-over
returns-clause-over g c =
    let relations = g.R.Relations.tables c.args.tables.now in
    let n = c.args.table.0 in
    let tests = c.args.tests.now in
    let t : TableState = record { relations = relations; table = n; relation = c.at.result.now; places = c.as_slice.result.now } in
    let rows = references_of c.as_slice-3.result.now in
    let enough : AreEnough t (passing relations c.at.result.now tests) c.as_slice-2.result.now = subst (AreEnough t (passing relations c.at.result.now tests)) (sym c.as_slice-2.ensures.value) c.in_ok-known.ensures in
    let is : AreInOrder t c.as_slice-2.result.now c.as_slice-3.result.now = subst (AreInOrder t c.as_slice-2.result.now) (sym c.as_slice-3.ensures.value) c.in_ok-rows.ensures in
    let made : c.describe.new.self ≡ record { sources = n ∷ []; rows = rows; columns = c.args.columns.items } =
    c.describe.ensures ∙ ap (λ (l : ListState). record l { columns = c.args.columns.items }) c.in_ok-list.ensures in
    let can = can_be_read relations c.requires.sound n c.at.result.now c.at.ensures c.as_slice.result.now (subst (All (HasPlace relations (n ∷ []))) (sym c.as_slice.ensures.value) c.requires.columns) in
    subst (IsOver relations) (sym made)
    (subst (λ (ps : List Place). IsOver relations (record { sources = n ∷ []; rows = rows; columns = ps })) c.as_slice.ensures.value
    (scanned_over t tests c.as_slice-2.result.now enough c.as_slice-3.result.now is can (sound_at relations c.requires.sound n c.at.result.now c.at.ensures).0 c.requires.there))
