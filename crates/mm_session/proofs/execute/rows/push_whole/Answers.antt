use Rattle.std.proofs.Common.{◌≡◌, ◌∙◌, ◌++◌, ◌∷◌, ◌<◌, [], ap, sym, get_or, subst, take, length, arith, refl}
use Rattle.std.specs.Prelude.{pos}
use Rattle.std.proofs.lemmas.List.{take_more, take_all}
use Rattle.plain_tables.specs.ResolvedLaws.{IsStorable}
use Rattle.plain_tables.specs.declared.schema.Schema.{Schema}
use Rattle.plain_tables.specs.declared.value.Value.{Value}
use Rattle.plain_tables.specs.declared.value.Value.TheVariants as value
use Rattle.mm_catalog.proofs.Among.{among_at}
use Rattle.mm_catalog.specs.Picked.{seen_values}
use Rattle.temp_list.specs.Reading.{value_in}
use Rattle.temp_list.proofs.Reading.{can_read, lent_value}
use Rattle.mm_session.specs.Sinks.{PutsValues}
use Rattle.mm_session.proofs.Dumps.{seen_long}
use Rattle.mm_session.proofs.Members.{value_seen}
use Rattle.mm_session.proofs.StorableValues.{column_storable}
use Rattle.mm_session.proofs.Sinks.{values_more}
use Rattle.mm_session.proofs.execute.rows.push_whole.Goals as goal

pub value-requires : goal.value-requires
value-requires g c =
    let lent = c.requires.lent in
    let schema = ap (λ (h : Schema). length h.columns) c.schema.ensures in
    let among = among_at c.args.catalog.now c.a_catalog_is_consistent.ensures lent.0 c.args.relation.now lent.1 in
    can_read c.args.catalog.now.relations c.args.relation.now c.args.r c.row-row.result c.row-row.ensures.row c.row-row.ensures.targets
    c.a_relation_is_kept.ensures among.current c.loop-column.column (omega (arith, c.loop-column-test.true, c.len-column-end.ensures, schema))

pub push_value-requires : goal.push_value-requires
push_value-requires g c =
    let lent = c.requires.lent in
    let schema = ap (λ (h : Schema). length h.columns) c.schema.ensures in
    let read : c.value.result.now ≡ value_in c.args.catalog.now.relations c.args.relation.now c.loop-column.column c.args.r =
    lent_value c.args.catalog.now.relations c.args.relation.now c.args.r c.row-row.result c.row-row.ensures.row c.row-row.ensures.targets c.loop-column.column c.value.result.now c.value.ensures in
    λ k. (
      (refl, tt),
      subst IsStorable (sym read)
          (column_storable c.args.catalog.now c.a_catalog_is_consistent.ensures lent.0 c.args.relation.now lent.1 c.args.r c.requires.held c.loop-column.column
          (omega (arith, c.loop-column-test.true, c.len-column-end.ensures, schema))),
    )

pub loop-column-preserved : goal.loop-column-preserved
loop-column-preserved g c =
    let catalog = c.args.catalog.now in
    let s = c.args.relation.now in
    let at = c.loop-column.column in
    let seen = seen_values catalog s c.args.r in
    let schema = ap (λ (h : Schema). length h.columns) c.schema.ensures in
    let within : at < length s.schema.columns = omega (arith, c.loop-column-test.true, c.len-column-end.ensures, schema) in
    let read : c.value.result.now ≡ get_or seen at (value.Int (pos 0)) =
    lent_value catalog.relations s c.args.r c.row-row.result c.row-row.ensures.row c.row-row.ensures.targets at c.value.result.now c.value.ensures
    ∙ value_seen catalog s c.args.r c.requires.held at within in
    subst (PutsValues g.S.RowSink.received c.args.sink.now c.push_value.new.self)
    (ap (λ (v : Value). take at seen ++ v ∷ []) read
    ∙ sym (take_more seen at (value.Int (pos 0)) (let long = seen_long catalog s c.args.r c.requires.held in omega (arith, long, within))))
    (values_more g.S.RowSink.received c.args.sink.now c.loop-column.sink c.push_value.new.self (take at seen) (c.value.result.now ∷ []) c.loop-column.invariant c.in_ok-push_value.ensures.taken)

pub returns-clause-put : goal.returns-clause-put
returns-clause-put g c =
    let seen = seen_values c.args.catalog.now c.args.relation.now c.args.r in
    let schema = ap (λ (h : Schema). length h.columns) c.schema.ensures in
    let long = seen_long c.args.catalog.now c.args.relation.now c.args.r c.requires.held in
    subst (PutsValues g.S.RowSink.received c.args.sink.now c.loop-column.sink)
    (take_all c.loop-column.column seen (omega (arith, c.loop-column-test.false, c.len-column-end.ensures, schema, long)))
    c.loop-column.invariant
