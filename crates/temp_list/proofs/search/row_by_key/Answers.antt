use Rattle.std.proofs.Common.{[], ◌∷◌, sym}
use Rattle.std.proofs.lemmas.List.{append-nil}
use Rattle.mm_index.proofs.Bags.{IsSameBag-from_same}
use Rattle.temp_list.proofs.Keys.{standing_found, standing_none}
use Rattle.temp_list.proofs.search.row_by_key.Goals as goal

pub returns-in_ok-push-clause-ok : goal.returns-in_ok-push-clause-ok
returns-in_ok-push-clause-ok g c = (
  c.in-Some.r ∷ [],
  c.in_ok-push.ensures.items,
  IsSameBag-from_same _ _ (sym (standing_found (g.R.Relations.tables c.args.tables.now) c.args.relation.now c.a_relation_is_kept.ensures c.args.key.now c.in-Some.r c.in-Some.ensures.found)),
)

pub returns-in_default-clause-ok : goal.returns-in_default-clause-ok
returns-in_default-clause-ok g c = (
  [],
  sym (append-nil c.args.out.now.items),
  IsSameBag-from_same _ _ (sym (standing_none (g.R.Relations.tables c.args.tables.now) c.args.relation.now c.a_relation_is_kept.ensures c.args.key.now c.in_default.ensures.none)),
)
