use Rattle.std.proofs.Common.{◌≡◌, ◌<◌, ◌^◌, [], length, get_or, None, ap, ◌∙◌, arith}
use Rattle.std.proofs.lemmas.List.{get_or_default}
use Rattle.lin_hash.specs.Nodes.{leads_to, head_at, no_link}
use Rattle.lin_hash.specs.RowNodes.{rows_of}
use Rattle.lin_hash.specs.RowChains.{IsRowChain}
use Rattle.lin_hash.proofs.Hanging.{hung-mark_inside, hung-mark_chain, AreHungBy-raised}
use Rattle.lin_hash.proofs.row_table.RowTable.split.Goals as goal

pub link_from-requires-clause-loose : goal.link_from-requires-clause-loose
link_from-requires-clause-loose c =
    let t = c.self.inside in
    let h = c.self.invariant.hung in
    let a = c.raised-self-inside.result in
    let is_chain = IsRowChain t.nodes.items in
    let inside = hung-mark_inside is_chain t.address.level t.address.mark t.heads.items (rows_of t.nodes.items) h in
    let first : c.replace-first.result ≡ head_at t.heads.items t.address.mark =
    c.replace-first.ensures.value ∙ c.index_mut.ensures.value ∙ get_or_default t.heads.items t.address.mark _ _ inside in
    let none : leads_to c.replace-first.new.dest ≡ None = ap leads_to (c.replace-first.ensures.after ∙ c.none.ensures) in
    let last : leads_to c.none-2.result ≡ None = ap leads_to c.none-2.ensures in
    let buckets = ap (λ v. v.buckets) c.self.view_is in
    let few : length t.heads.items < 2 ^ 32 = omega (arith, buckets, c.requires.few, t.heads.ok.0) in (
      no_link,
      (λ e. absurd (omega arith)),
      get_or h.chains t.address.mark [],
      (rw first (hung-mark_chain is_chain t.address.level t.address.mark t.heads.items (rows_of t.nodes.items) h)),
      (rw (c.deref_mut.ensures.value, c.push_reserved.ensures.items) (AreHungBy-raised is_chain t.address.level t.address.mark t.heads.items (rows_of t.nodes.items) h c.replace-first.new.dest c.none-2.result none last a.level a.mark c.raised-self-inside.ensures.next c.raised-self-inside.ensures.doubled few)),
    )
