use Rattle.std.proofs.Common.{◌≡◌, ◌∙◌, ◌++◌, Bool, false, IsSome, List, append-nil, ap, filter, is_some, refl, sym}
use Rattle.std.specs.FinMap as finite
use Rattle.mm_relation.specs.Changes.{list_of}
use Rattle.part_raw.specs.declared.tuple_ref.TupleRef.{TupleRef}
use Rattle.ttree.specs.Held.{rest_of}
use Rattle.plain_tables.specs.Queries.{stands}
use Rattle.plain_tables.specs.declared.condition.Op.{Op}
use Rattle.plain_tables.specs.declared.condition.Op.TheVariants as op
use Rattle.plain_tables.specs.declared.value.Value.{Value}
use Rattle.temp_list.specs.Ranges.{place_of}
use Rattle.temp_list.specs.Reading.{row_passes, value_in}
use Rattle.temp_list.proofs.Searches.{tree_held, tree_in_order}
use Rattle.temp_list.proofs.OnlyRow.{asked_column, asked_tree, asks_equal, equals_asked, now_only, only_before, only_in_tree, seen_more, still_only, walked_next}
use Rattle.temp_list.proofs.only_row.only_by_tree.Goals as goal

pub walk_column-r-items-requires-clause-placed : goal.walk_column-r-items-requires-clause-placed
walk_column-r-items-requires-clause-placed g c =
    let s = c.args.relation.now in
    let tests = c.args.tests.now in
    let test = c.index-tests-n.result in
    tree_held (g.R.Relations.tables c.args.tables.now) s test.column.0 c.a_relation_is_kept.ensures c.requires.current (asked_column s tests c.args.n c.requires.fits.0 test c.index-tests-n.is c.requires.columns)
    (asked_tree s tests c.args.n c.requires.fits.0 test c.index-tests-n.is c.requires.fits.1)

pub walk_column-r-items-requires-clause-in_order : goal.walk_column-r-items-requires-clause-in_order
walk_column-r-items-requires-clause-in_order g c =
    let s = c.args.relation.now in
    let tests = c.args.tests.now in
    let test = c.index-tests-n.result in
    tree_in_order (g.R.Relations.tables c.args.tables.now) s test.column.0 c.a_relation_is_kept.ensures c.requires.current (asked_column s tests c.args.n c.requires.fits.0 test c.index-tests-n.is c.requires.columns)
    (asked_tree s tests c.args.n c.requires.fits.0 test c.index-tests-n.is c.requires.fits.1) op.Eq refl c.sought-sought.result

pub passes_all-requires-clause-held : goal.passes_all-requires-clause-held
passes_all-requires-clause-held g c =
    let relations = g.R.Relations.tables c.args.tables.now in
    let s = c.args.relation.now in
    let tests = c.args.tests.now in
    let test = c.index-tests-n.result in
    let within = asked_column s tests c.args.n c.requires.fits.0 test c.index-tests-n.is c.requires.columns in
    let has = asked_tree s tests c.args.n c.requires.fits.0 test c.index-tests-n.is c.requires.fits.1 in
    walked_next (λ r. IsSome (finite.get s.rows r)) (λ r. place_of op.Eq (value_in relations s test.column.0 r) test.value) (list_of s test.column.0) c.loop-r.yielded (rest_of c.loop-r.r-iterator)
    (rest_of c.next.new.self) c.in-Some.r (tree_held relations s test.column.0 c.a_relation_is_kept.ensures c.requires.current within has) c.loop-r.invariant.split c.in-Some.ensures.steps

pub read-requires-clause-held : goal.read-requires-clause-held
read-requires-clause-held g c =
    let relations = g.R.Relations.tables c.args.tables.now in
    let s = c.args.relation.now in
    let tests = c.args.tests.now in
    let test = c.index-tests-n.result in
    let within = asked_column s tests c.args.n c.requires.fits.0 test c.index-tests-n.is c.requires.columns in
    let has = asked_tree s tests c.args.n c.requires.fits.0 test c.index-tests-n.is c.requires.fits.1 in
    walked_next (λ r. IsSome (finite.get s.rows r)) (λ r. place_of op.Eq (value_in relations s test.column.0 r) test.value) (list_of s test.column.0) c.loop-r.yielded (rest_of c.loop-r.r-iterator)
    (rest_of c.next.new.self) c.in-Some.r (tree_held relations s test.column.0 c.a_relation_is_kept.ensures c.requires.current within has) c.loop-r.invariant.split c.in-Some.ensures.steps

pub loop-r-preserved-else-is_some : goal.loop-r-preserved-else-is_some
loop-r-preserved-else-is_some g c =
    let p : TupleRef → Bool = row_passes (g.R.Relations.tables c.args.tables.now) c.args.relation.now c.args.tests.now in
    record {
      split = c.loop-r.invariant.split ∙ seen_more c.loop-r.yielded (rest_of c.loop-r.r-iterator) (rest_of c.next.new.self) c.in-Some.r c.in-Some.ensures.steps;
      only = now_only p c.loop-r.yielded c.loop-r.found c.loop-r.invariant.only c.in-Some.r c.replace.new.self c.replace.ensures.after
          (ap is_some (sym c.replace.ensures.value) ∙ sym c.is_some.ensures ∙ c.if-is_some.false) (sym c.passes_all.ensures ∙ c.if-passes_all.true);
    }

pub loop-r-preserved : goal.loop-r-preserved
loop-r-preserved g c =
    let p : TupleRef → Bool = row_passes (g.R.Relations.tables c.args.tables.now) c.args.relation.now c.args.tests.now in
    record {
      split = c.loop-r.invariant.split ∙ seen_more c.loop-r.yielded (rest_of c.loop-r.r-iterator) (rest_of c.next.new.self) c.in-Some.r c.in-Some.ensures.steps;
      only = still_only p c.loop-r.yielded c.loop-r.found c.loop-r.invariant.only c.in-Some.r (sym c.passes_all.ensures ∙ c.if-passes_all.false);
    }

pub returns-in-None : goal.returns-in-None
returns-in-None g c =
    let relations = g.R.Relations.tables c.args.tables.now in
    let s = c.args.relation.now in
    let tests = c.args.tests.now in
    let test = c.index-tests-n.result in
    let within = asked_column s tests c.args.n c.requires.fits.0 test c.index-tests-n.is c.requires.columns in
    let has = asked_tree s tests c.args.n c.requires.fits.0 test c.index-tests-n.is c.requires.fits.1 in
    let equal = asks_equal s tests c.args.n c.requires.fits.0 test c.index-tests-n.is c.requires.value in
    let so = equals_asked s tests c.args.n c.requires.fits.0 test c.index-tests-n.is relations equal in
    only_in_tree relations s c.a_relation_is_kept.ensures tests test.column.0 c.requires.current within has test.value so c.loop-r.found
    (ap (filter (row_passes relations s tests)) (c.loop-r.invariant.split ∙ ap (λ (rest : List TupleRef). c.loop-r.yielded ++ rest) c.in-None.ensures.steps.0 ∙ append-nil c.loop-r.yielded)
    ∙ c.loop-r.invariant.only)

pub returns-then-not-passes : goal.returns-then-not-passes
returns-then-not-passes g c =
    let relations = g.R.Relations.tables c.args.tables.now in
    let s = c.args.relation.now in
    let tests = c.args.tests.now in
    let test = c.index-tests-n.result in
    let within = asked_column s tests c.args.n c.requires.fits.0 test c.index-tests-n.is c.requires.columns in
    let has = asked_tree s tests c.args.n c.requires.fits.0 test c.index-tests-n.is c.requires.fits.1 in
    let equal = asks_equal s tests c.args.n c.requires.fits.0 test c.index-tests-n.is c.requires.value in
    let so = equals_asked s tests c.args.n c.requires.fits.0 test c.index-tests-n.is relations equal in
    let value : Value = value_in relations s test.column.0 c.in-Some.r in
    let other : stands op.Eq value test.value ≡ false =
    ap (λ (o : Op). stands o value test.value) (sym equal) ∙ ap (λ (v : Value). stands test.op v test.value) (sym c.read.ensures) ∙ sym c.passes.ensures ∙ c.if-not-passes.true in
    only_in_tree relations s c.a_relation_is_kept.ensures tests test.column.0 c.requires.current within has test.value so c.loop-r.found
    (only_before relations s c.a_relation_is_kept.ensures tests test.column.0 c.requires.current within has test.value so c.loop-r.yielded (rest_of c.next.new.self) c.in-Some.r
    (c.loop-r.invariant.split ∙ ap (λ (rest : List TupleRef). c.loop-r.yielded ++ rest) c.in-Some.ensures.steps) other
    ∙ c.loop-r.invariant.only)
