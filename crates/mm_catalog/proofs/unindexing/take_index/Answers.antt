use Rattle.std.proofs.Common.{◌≡◌, Some, get_or, take, refl}
use Rattle.std.specs.List.{slice_get}
use Rattle.std.proofs.lemmas.Option.{slice_get-get_or}
use Rattle.mm_relation.specs.State.{RelationState, linked_keys}
use Rattle.mm_catalog.proofs.unindexing.take_index.Goals as goal

pub returns-clause-taken : goal.returns-clause-taken
returns-clause-taken c =
    let d = c.index-relations-table.result in
    let n = c.args.table.0 in
    let s : RelationState = get_or c.args.relations.now n d in
    let at : slice_get c.args.relations.now n ≡ Some s = slice_get-get_or c.args.relations.now n d c.requires.there in
    record {
      before = s;
      after = c.take_index.new.self;
      there = at;
      list = refl;
      changed = c.in_ok-index.ensures.taken;
      kept = c.a_relation_is_kept.ensures;
      current = c.in_ok-index.ensures.taken.current (linked_keys s.targets (take n c.args.relations.now)) (c.requires.current s at);
    }
