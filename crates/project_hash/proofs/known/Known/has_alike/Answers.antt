use Rattle.std.proofs.Common.{◌≡◌, ◌∙◌, ◌++◌, ◌∷◌, [], true, List, append_assoc, append-nil, sym, ap, subst}
use Rattle.std.proofs.lemmas.List.Elements.{All-nil, All-push}
use Rattle.part_raw.specs.declared.tuple_ref.TupleRef.{TupleRef}
use Rattle.mm_index.specs.Bag.{IsSameBag, with_hash}
use Rattle.lin_hash.specs.Rest.{chain_rest}
use Rattle.mm_relation.proofs.Listings.{next_listed}
use Rattle.project_hash.specs.Shown.{ShownState}
use Rattle.project_hash.specs.Table.{row_state}
use Rattle.project_hash.proofs.KnownRows.{chain_held, some_alike, none_alike}
use Rattle.project_hash.proofs.known.Known.has_alike.Goals as goal

pub loop-r-init : goal.loop-r-init
loop-r-init g c = record {
  chain = subst (λ chain. IsSameBag (chain_rest chain) (with_hash c.args.hash c.args.self.now.by_hash.entries)) (sym c.into_iter-r-iterator.ensures.into_iter_gives) c.chain-r-items.ensures;
  others = All-nil (λ r. c.args.row.now.values ≡ (row_state c.args.table.now r).values → ⊥);
}

pub new-other-requires-clause-held : goal.new-other-requires-clause-held
new-other-requires-clause-held g c =
    chain_held c.args.table.now c.args.self.now.rows.items c.args.self.now.by_hash.entries c.requires.known c.args.hash (c.loop-r.yielded ++ chain_rest c.loop-r.r-iterator) c.loop-r.invariant.chain c.in-Some.r
    (next_listed c.loop-r.yielded (chain_rest c.loop-r.r-iterator) (chain_rest c.next.new.self) c.in-Some.r c.in-Some.ensures.steps)

pub loop-r-preserved : goal.loop-r-preserved
loop-r-preserved g c = record {
  chain = subst (λ (chain : List TupleRef). IsSameBag chain (with_hash c.args.hash c.args.self.now.by_hash.entries))
      (ap (λ (rest : List TupleRef). c.loop-r.yielded ++ rest) c.in-Some.ensures.steps ∙ sym (append_assoc c.loop-r.yielded (c.in-Some.r ∷ []) (chain_rest c.next.new.self))) c.loop-r.invariant.chain;
  others = All-push (λ r. c.args.row.now.values ≡ (row_state c.args.table.now r).values → ⊥) c.loop-r.yielded c.in-Some.r c.loop-r.invariant.others
      (λ same. let yes : c.is_alike.result ≡ true = c.is_alike.ensures.1 (same ∙ ap (λ (x : ShownState). x.values) (sym c.new-other.ensures)) in cc);
}

pub returns-then-is_alike : goal.returns-then-is_alike
returns-then-is_alike g c =
    sym
    (some_alike c.args.table.now c.args.self.now.rows.items c.args.self.now.by_hash.entries c.requires.known c.args.hash (c.loop-r.yielded ++ chain_rest c.loop-r.r-iterator) c.loop-r.invariant.chain c.args.row.now c.in-Some.r
    (next_listed c.loop-r.yielded (chain_rest c.loop-r.r-iterator) (chain_rest c.next.new.self) c.in-Some.r c.in-Some.ensures.steps)
    (c.is_alike.ensures.0 c.if-is_alike.true ∙ ap (λ (x : ShownState). x.values) c.new-other.ensures))

pub returns : goal.returns
returns g c =
    sym
    (none_alike c.args.table.now c.args.self.now.rows.items c.args.self.now.by_hash.entries c.requires.known c.args.hash c.loop-r.yielded
    (subst (λ (chain : List TupleRef). IsSameBag chain (with_hash c.args.hash c.args.self.now.by_hash.entries))
    (ap (λ (rest : List TupleRef). c.loop-r.yielded ++ rest) c.in-None.ensures.steps.0 ∙ append-nil c.loop-r.yielded) c.loop-r.invariant.chain)
    c.args.row.now c.requires.hash c.loop-r.invariant.others)
