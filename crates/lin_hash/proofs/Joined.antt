-- All buckets joined: what one bucket that changes does to the bag of all entries.
use Rattle.std.proofs.Common.{◌≡◌, ℕ, ◌+◌, ◌<◌, ◌≤◌, Bool, true, List, [], ◌∷◌, ◌++◌, length, get_or, refl, sym, ap, ◌∙◌, arith, set, suc, zero, ◌≢◌, false}
use Rattle.std.specs.List.{count_by, sum_by, flat_map, filter, All}
use Rattle.std.proofs.lemmas.List.Elements.{filter-append}
use Rattle.std.proofs.lemmas.List.{append-nil}
use Rattle.common_lemmas.proofs.Filters.{filter_none}
use Rattle.std.proofs.lemmas.List.Sums.{sum_by-cons, sum_by-append, sum_by-set, get_or-le-sum_by}
use Rattle.common_lemmas.proofs.Counts.{count_by-true}
use Rattle.mm_index.specs.Bag.{IsSameBag}
use Rattle.lin_hash.specs.declared.node.NodeLink.{NodeLink}
use Rattle.lin_hash.specs.Chains.{AreHungBy}
use Rattle.lin_hash.proofs.Moves.{count_by-append, count_by-cons}

abbrev pub joined : {A : Type 0} → List (List A) → List A
joined bs = flat_map (λ b. b) bs

pub count_by-joined : {A : Type 0} (test : A → Bool) (bs : List (List A)) → count_by test (joined bs) ≡ sum_by (count_by test) bs
count_by-joined test [] = refl
count_by-joined test (b ∷ bs) =
    count_by-append test b (joined bs) ∙ ap (λ n. count_by test b + n) (count_by-joined test bs) ∙ sym (sum_by-cons (count_by test) b bs)

module _ {A : Type 0} (test : A → Bool) (bs : List (List A)) where
  -- one bucket is replaced
  pub count_by-set : (i : ℕ) (new : List A) → i < length bs → count_by test (joined (set bs i new)) + count_by test (get_or bs i []) ≡ count_by test (joined bs) + count_by test new
  count_by-set i new inside =
      let moved = sum_by-set (count_by test) bs i new [] inside in
      omega (arith, moved, count_by-joined test bs, count_by-joined test (set bs i new))

  -- a bucket more at the end
  pub count_by-pushed : (last : List A) → count_by test (joined (bs ++ last ∷ [])) ≡ count_by test (joined bs) + count_by test last
  count_by-pushed last =
      let parts = sum_by-append (count_by test) bs (last ∷ []) in
      let one = sum_by-cons (count_by test) last [] in
      omega (arith, parts, one, count_by-joined test bs, count_by-joined test (bs ++ last ∷ []))

module _ {A : Type 0} (bs : List (List A)) (i : ℕ) (inside : i < length bs) where
  pub joined-added : (e : A) (new : List A) → new ≡ e ∷ get_or bs i [] → IsSameBag (joined (set bs i new)) (e ∷ joined bs)
  joined-added e new is = record {
    count = λ test.
        let grown : count_by test new ≡ count_by test (e ∷ get_or bs i []) = ap (count_by test) is in
        omega (arith, grown, count_by-cons test e (get_or bs i []), count_by-cons test e (joined bs), count_by-set test bs i new inside);
  }

  pub joined-taken : (e : A) (new : List A) → IsSameBag (get_or bs i []) (e ∷ new) → IsSameBag (joined bs) (e ∷ joined (set bs i new))
  joined-taken e new h = record {
    count = λ test.
        omega (arith, h.count test, count_by-cons test e new, count_by-cons test e (joined (set bs i new)), count_by-set test bs i new inside);
  }

-- where a test passes elements of one bucket alone, it finds the same there as in all
filter-none_joined : {A : Type 0} (test : A → Bool) (bs : List (List A)) → ((k : ℕ) → k < length bs → All (λ x. test x ≡ false) (get_or bs k [])) → filter test (joined bs) ≡ []
filter-none_joined test [] h = refl
filter-none_joined test (b ∷ bs) h =
    let front = filter_none test b (h 0 (omega arith)) in
    let rest = filter-none_joined test bs (λ k l. h (suc k) (omega arith)) in
    filter-append test b (joined bs) ∙ rw (front, rest) refl

pub filter-joined : {A : Type 0} (test : A → Bool) (bs : List (List A)) (i : ℕ) → i < length bs → ((k : ℕ) → k < length bs → k ≢ i → All (λ x. test x ≡ false) (get_or bs k [])) → filter test (joined bs) ≡ filter test (get_or bs i [])
filter-joined test [] i inside h = absurd (omega arith)
filter-joined test (b ∷ bs) zero inside h =
    let rest = filter-none_joined test bs (λ k l. h (suc k) (omega arith) (λ e. cc)) in
    filter-append test b (joined bs) ∙ rw rest (append-nil (filter test b))
filter-joined test (b ∷ bs) (suc i) inside h =
    let front = filter_none test b (h 0 (omega arith) (λ e. cc)) in
    let rest = filter-joined test bs i (omega arith) (λ k l ne. h (suc k) (omega arith) (λ e. ne (omega arith))) in
    filter-append test b (joined bs) ∙ rw front rest

-- no chain has more entries than hang on all
pub chain_length-all : {A : Type 0} (is_chain : NodeLink → List (ℕ × A) → Type 0) (level mark : ℕ) (heads : List NodeLink) (loose all : List (ℕ × A)) (h : AreHungBy is_chain level mark heads loose all)
    → (b : ℕ) → b < length h.chains → length (get_or h.chains b []) ≤ length all
chain_length-all is_chain level mark heads loose all h b inside =
    let one = get_or-le-sum_by (count_by (λ e. true)) h.chains b [] inside in
    let parts = count_by-append (λ e. true) loose (joined h.chains) in
    omega (arith, one, count_by-joined (λ e. true) h.chains, h.held.count (λ e. true), parts, count_by-true all, count_by-true (get_or h.chains b []))
