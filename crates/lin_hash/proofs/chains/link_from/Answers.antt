use Rattle.std.proofs.Common.{◌≡◌, [], List, length, None, Some, sym, subst, ap, ◌∙◌, refl, arith}
use Rattle.std.proofs.lemmas.List.{length-set}
use Rattle.lin_hash.specs.Nodes.{leads_to, node_at, entries_of}
use Rattle.lin_hash.specs.Chains.{Placed, AreHung}
use Rattle.lin_hash.proofs.Placed.{entries-relinked}
use Rattle.lin_hash.proofs.Chaining.{IsChain-unique}
use Rattle.lin_hash.proofs.Hung.{AreHung-inside}
use Rattle.lin_hash.proofs.Linking.{Stands-loose, AreHung-step, walk-smaller}
use Rattle.lin_hash.proofs.chains.link_from.Goals as goal

pub get-requires : goal.get-requires
get-requires c =
    let l = c.loop-place in
    let i = l.invariant.loose in
    let is : leads_to l.rest ≡ Some c.in-Some.place = sym c.place.ensures ∙ c.in-Some.is in
    (Stands-loose c.args.address.level c.args.address.mark l.nodes.items l.heads l.rest i.0 i.1 i.2 c.in-Some.place is).inside

pub link-requires-clause-place : goal.link-requires-clause-place
link-requires-clause-place c =
    let l = c.loop-place in
    let i = l.invariant.loose in
    let is : leads_to l.rest ≡ Some c.in-Some.place = sym c.place.ensures ∙ c.in-Some.is in
    (Stands-loose c.args.address.level c.args.address.mark l.nodes.items l.heads l.rest i.0 i.1 i.2 c.in-Some.place is).inside

pub link-requires-clause-bucket : goal.link-requires-clause-bucket
link-requires-clause-bucket c =
    let l = c.loop-place in
    let i = l.invariant.loose in
    AreHung-inside c.args.address.level c.args.address.mark l.nodes.items l.heads i.0 i.2 (node_at l.nodes.items c.in-Some.place).hash _ refl

pub loop-place-smaller : goal.loop-place-smaller
loop-place-smaller c =
    let l = c.loop-place in
    let i = l.invariant.loose in
    let nodes_len = l.invariant.nodes_len in
    let is : leads_to l.rest ≡ Some c.in-Some.place = sym c.place.ensures ∙ c.in-Some.is in
    rw c.get.ensures (walk-smaller c.args.address.level c.args.address.mark l.nodes.items l.heads l.rest i.0 i.1 i.2 c.in-Some.place is (omega (arith, nodes_len, c.requires.few)) c.link.new.nodes.items c.link.new.heads c.link.ensures.nodes c.link.ensures.heads)

pub loop-place-preserved : goal.loop-place-preserved
loop-place-preserved c =
    let l = c.loop-place in
    let i = l.invariant.loose in
    let nodes_len = l.invariant.nodes_len in
    let is : leads_to l.rest ≡ Some c.in-Some.place = sym c.place.ensures ∙ c.in-Some.is in
    let f = c.link.ensures.nodes in
    let g = c.link.ensures.heads in
    record {
      loose = rw c.get.ensures (AreHung-step c.args.address.level c.args.address.mark l.nodes.items l.heads l.rest i.0 i.1 i.2 c.in-Some.place is (omega (arith, nodes_len, c.requires.few)) c.link.new.nodes.items c.link.new.heads f g);
      entries = ap entries_of f ∙ entries-relinked l.nodes.items c.in-Some.place _ ∙ l.invariant.entries;
      nodes_len = ap length f ∙ length-set l.nodes.items c.in-Some.place _ ∙ nodes_len;
      heads_len = ap length g ∙ length-set l.heads _ _ ∙ l.invariant.heads_len;
      memory = c.link.ensures.memory ∙ l.invariant.memory;
      listed = c.link.ensures.listed ∙ l.invariant.listed;
    }

pub returns-clause-hung : goal.returns-clause-hung
returns-clause-hung c =
    let l = c.loop-place in
    let i = l.invariant.loose in
    let none : leads_to l.rest ≡ None = sym c.place.ensures ∙ c.in_default.is in
    let empty : i.0 ≡ [] = IsChain-unique l.nodes.items l.rest i.0 [] i.1 none in
    subst (λ (ls : List Placed). AreHung c.args.address.level c.args.address.mark l.nodes.items l.heads ls) empty i.2
