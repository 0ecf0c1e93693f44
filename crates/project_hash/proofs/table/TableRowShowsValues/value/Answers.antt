use Rattle.std.proofs.Common.{◌≡◌, ◌∙◌, ◌<◌, [], ◌∷◌, Some, length, get_or, ap, sym, subst, arith}
use Rattle.std.specs.Prelude.{slice_get}
use Rattle.std.proofs.lemmas.List.{length-map}
use Rattle.plain_tables.specs.declared.numbers.Place.{Place}
use Rattle.temp_list.specs.Lists.{value_of}
use Rattle.temp_list.specs.Reading.{value_in}
use Rattle.project_hash.specs.Shown.{ShownState}
use Rattle.project_hash.specs.Table.{TableState}
use Rattle.project_hash.proofs.Tables.{column_there, value_there}
use Rattle.project_hash.proofs.table.TableRowShowsValues.value.Goals as goal

pub read-requires-clause-within : goal.read-requires-clause-within
read-requires-clause-within g c =
    let t = c.self.inside.table.now in
    let d : Place = record { source = 0; column = record { 0 = 0 } } in
    let long : length c.args.self.now.values ≡ length t.places =
    ap (λ (s : ShownState). length s.values) (sym c.self.view_is) ∙ length-map t.places (value_of t.relations (t.table ∷ []) (c.self.inside.reference ∷ [])) in
    let has_column : TableState → Type 0 = λ u. (get_or u.places c.args.column d).column.0 < length u.relation.schema.columns in
    subst has_column (sym c.table.view_is) (column_there t c.self.invariant.can_read c.args.column d (omega (arith, long, c.requires)))

pub returns : goal.returns
returns g c =
    let t = c.self.inside.table.now in
    let d : Place = record { source = 0; column = record { 0 = 0 } } in
    let long : length c.args.self.now.values ≡ length t.places =
    ap (λ (s : ShownState). length s.values) (sym c.self.view_is) ∙ length-map t.places (value_of t.relations (t.table ∷ []) (c.self.inside.reference ∷ [])) in
    let read : c.read.result.now ≡ value_in t.relations t.relation (get_or t.places c.args.column d).column.0 c.self.inside.reference =
    c.read.ensures ∙ ap (λ (u : TableState). value_in u.relations u.relation (get_or u.places c.args.column d).column.0 c.self.inside.reference) c.table.view_is in
    subst (λ (s : ShownState). slice_get s.values c.args.column ≡ Some c.read.result.now) c.self.view_is
    (value_there t c.self.invariant.can_read c.args.column d (omega (arith, long, c.requires)) c.self.inside.reference c.read.result.now read)
