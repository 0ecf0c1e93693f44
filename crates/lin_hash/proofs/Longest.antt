-- The longest chain, by the buckets that the entries belong to.
use Rattle.std.proofs.Common.{◌≡◌, ℕ, ◌<◌, ◌≤◌, Bool, ◌==◌, List, [], length, get_or, sym, ap, ◌∙◌, arith}
use Rattle.std.specs.List.{count_by, EachIndex, SomeIndex}
use Rattle.std.proofs.lemmas.Bool.{eq-eqb, ne_eqb}
use Rattle.std.proofs.lemmas.List.{length-map}
use Rattle.std.proofs.lemmas.List.Sums.{length-filter}
use Rattle.common_lemmas.proofs.Filters.{filter_all}
use Rattle.part_raw.specs.declared.tuple_ref.TupleRef.{TupleRef}
use Rattle.lin_hash.specs.declared.node.NodeLink.{NodeLink}
use Rattle.lin_hash.specs.declared.node.Node.{Node}
use Rattle.lin_hash.specs.Address.{bucket_of}
use Rattle.lin_hash.specs.Chains.{entry_in, all_placed, AreHungBy, AreHung}
use Rattle.lin_hash.specs.Nodes.{head_at, entries_of}
use Rattle.lin_hash.specs.Shape.{chain_length, IsLongestChain}
use Rattle.lin_hash.specs.Walks.{EndsWithin, walked_from}
use Rattle.lin_hash.proofs.Joined.{joined, filter-joined}
use Rattle.common_lemmas.proofs.Counts.{count_by-map}
use Rattle.lin_hash.proofs.Placed.{entries-placed}
use Rattle.lin_hash.proofs.Rehung.{hung-short}
use Rattle.lin_hash.proofs.Walks.{EndsWithin-from_chain, entries_from-chain}

module _ {A : Type 0} (is_chain : NodeLink → List (ℕ × A) → Type 0) (level mark : ℕ) (heads : List NodeLink) (all : List (ℕ × A)) (h : AreHungBy is_chain level mark heads [] all) where
  -- a chain has the entries that belong to its bucket
  bucket-hung : (i : ℕ) → i < length h.chains → count_by (λ e. bucket_of level mark e.0 == i) all ≡ length (get_or h.chains i [])
  bucket-hung i inside =
      let test : ℕ × A → Bool = λ e. bucket_of level mark e.0 == i in
      let own = filter_all test (get_or h.chains i []) (λ k d l. eq-eqb _ i (h.addressed.placed.at i inside k d l)) in
      let alone = filter-joined test h.chains i inside (λ k within ne j d l. ne_eqb _ i (λ e. ne (sym (h.addressed.placed.at k within j d l) ∙ e))) in
      sym (h.held.count test) ∙ sym (length-filter test (joined h.chains)) ∙ ap length alone ∙ ap length own

  -- a walk from each head comes to all of them, and these are the entries
  module _ (entries : List (ℕ × TupleRef)) (walked : ℕ → ℕ) (same : (i : ℕ) → chain_length level mark i entries ≡ count_by (λ e. bucket_of level mark e.0 == i) all)
      (walks : (i : ℕ) → i < length h.chains → walked i ≡ length (get_or h.chains i [])) where
    walked-hung : (i : ℕ) → i < length h.chains → walked i ≡ chain_length level mark i entries
    walked-hung i inside = walks i inside ∙ sym (same i ∙ bucket-hung i inside)

    pub longest-walked : (buckets longest : ℕ) → buckets ≡ length heads → EachIndex heads (λ i. walked i ≤ longest) → SomeIndex heads (λ i. walked i ≡ longest) → IsLongestChain buckets entries longest
    longest-walked buckets longest equal each some =
        let number = h.linked.number in
        let upper = h.addressed.number in record {
          level = level;
          mark = mark;
          number = equal ∙ number ∙ upper;
          marked = h.addressed.marked;
          within = λ i inside.
              let reached = walked-hung i (omega (arith, equal, number, inside)) in
              let most = each i (omega (arith, equal, inside)) in
              omega (arith, reached, most);
          reached =
              let inside = some.1 in
              let reached = walked-hung some.0 (omega (arith, number, inside)) in
              (some.0, omega (arith, equal, inside), sym reached ∙ some.2);
        }

module _ (level mark : ℕ) (nodes : List Node) (heads : List NodeLink) (h : AreHung level mark nodes heads []) where
  pub ends-hung : EachIndex heads (λ i. EndsWithin (length nodes) nodes (head_at heads i))
  ends-hung i inside =
      let number = h.linked.number in
      let within : i < length h.chains = omega (arith, number, inside) in
      EndsWithin-from_chain (length nodes) nodes (head_at heads i) (get_or h.chains i []) (h.linked.each i within) (hung-short level mark nodes heads h i within)

  pub longest-hung : (buckets longest : ℕ) → buckets ≡ length heads → EachIndex heads (λ i. walked_from nodes (head_at heads i) ≤ longest) → SomeIndex heads (λ i. walked_from nodes (head_at heads i) ≡ longest) → IsLongestChain buckets (entries_of nodes) longest
  longest-hung buckets longest same each some =
      longest-walked _ level mark heads (all_placed nodes) h (entries_of nodes) (λ i. walked_from nodes (head_at heads i))
      (λ i. let here : ℕ × TupleRef → Bool = λ e. bucket_of level mark e.0 == i in ap (count_by here) (sym (entries-placed 0 nodes)) ∙ count_by-map here entry_in (all_placed nodes))
      (λ i inside. ap length (entries_from-chain (length nodes) nodes (head_at heads i) (get_or h.chains i []) (h.linked.each i inside) (hung-short level mark nodes heads h i inside)) ∙ length-map (get_or h.chains i []) entry_in)
      buckets longest same each some
