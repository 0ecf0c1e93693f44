-- The tuples in the slots of a set, and those in all others, as tuples come and go and as slots come into the set and go out.
use Rattle.std.proofs.Common.{◌≡◌, ◌≢◌, ℕ, Bool, true, false, not, cond, List, Option, Some, None, IsSome, is_some, refl, sym, ap, ◌∙◌, subst, inl, inr}
use Rattle.std.proofs.lemmas.Bool.{true≢false}
use Rattle.std.specs.FinMap.{get, insert, remove, empty, retain_keys, get-retain_keys}
use Rattle.part_raw.specs.declared.tuple_ref.TupleRef.{TupleRef}
use Rattle.part_raw.specs.TupleRefs.{ref_cmp}
use Rattle.part_raw.specs.Store.{Tuples}
use Rattle.part_raw.proofs.Lookup.{same_or_other}
use Rattle.part_raw.proofs.Refs.{ref_cmp_exact}
use Rattle.part_raw.proofs.Tuples.{get-insert_same, get-insert_other, get-remove_same, get-remove_other, same_tuples, held_at_first}
use Rattle.mm_relation.specs.Rows.{has_slot, ChangesSlot, among, outside}

-- another reference names another slot
pub other_slot : (q r : TupleRef) → q ≢ r → q.number ≢ r.number
other_slot q r differs same = differs (ap (λ (n : ℕ). record { number = n }) same)

-- nothing is found where nothing is held
nothing : {X : Type 0} (b : Bool) (o : Option X) → o ≡ None → cond b o None ≡ None
nothing true o e = e
nothing false o e = refl

module _ {X : Type 0} where
  -- what is found among the tuples whose references pass a test
  abbrev pub found : (TupleRef → Bool) → Tuples X → TupleRef → Option X
  found p tuples q = cond (p q) (get tuples q) None

  pub get-retained : (p : TupleRef → Bool) (tuples : Tuples X) (q : TupleRef) → get (retain_keys tuples p) q ≡ found p tuples q
  get-retained p tuples q = get-retain_keys tuples p q (λ x e. ap p (sym (ref_cmp_exact q x e)))

  pub retained-empty : (p : TupleRef → Bool) → retain_keys (empty {X = X} {R = ref_cmp}) p ≡ empty {X = X} {R = ref_cmp}
  retained-empty p = same_tuples _ _ (λ q. get-retained p empty q ∙ nothing (p q) (get (empty {X = X} {R = ref_cmp}) q) (held_at_first q) ∙ sym (held_at_first q))

  module _ (p p' : TupleRef → Bool) (t t' : Tuples X) where
    pub retained-same : ((q : TupleRef) → found p' t' q ≡ found p t q) → retain_keys t' p' ≡ retain_keys t p
    retained-same same = same_tuples _ _ (λ q. get-retained p' t' q ∙ same q ∙ sym (get-retained p t q))

    pub retained-insert : (r : TupleRef) (x : X) → found p' t' r ≡ Some x → ((q : TupleRef) → q ≢ r → found p' t' q ≡ found p t q) → retain_keys t' p' ≡ insert (retain_keys t p) r x
    retained-insert r x here there = same_tuples _ _ (λ q. elim (same_or_other q r) [
      | inl same ↦ ap (get (retain_keys t' p')) same ∙ get-retained p' t' r ∙ here ∙ sym (get-insert_same (retain_keys t p) r x) ∙ ap (get (insert (retain_keys t p) r x)) (sym same)
      | inr other ↦ get-retained p' t' q ∙ there q other ∙ sym (get-retained p t q) ∙ sym (get-insert_other (retain_keys t p) r q x other)
    ])

    pub retained-remove : (r : TupleRef) → found p' t' r ≡ None → ((q : TupleRef) → q ≢ r → found p' t' q ≡ found p t q) → retain_keys t' p' ≡ remove (retain_keys t p) r
    retained-remove r here there = same_tuples _ _ (λ q. elim (same_or_other q r) [
      | inl same ↦ ap (get (retain_keys t' p')) same ∙ get-retained p' t' r ∙ here ∙ sym (get-remove_same (retain_keys t p) r) ∙ ap (get (remove (retain_keys t p) r)) (sym same)
      | inr other ↦ get-retained p' t' q ∙ there q other ∙ sym (get-retained p t q) ∙ sym (get-remove_other (retain_keys t p) r q other)
    ])

-- the tests of the two parts
abbrev pub in_set : List ℕ → TupleRef → Bool
in_set words r = has_slot words r.number

abbrev pub not_in : List ℕ → TupleRef → Bool
not_in words r = not (has_slot words r.number)

pub not_both : (b : Bool) → b ≡ true → b ≡ false → ⊥
not_both b is_in is_out = true≢false (sym is_in ∙ is_out)

module _ {X : Type 0} (words : List ℕ) (tuples : Tuples X) (r : TupleRef) where
  -- a reference finds its tuple in the part that its slot is in
  pub get-outside : has_slot words r.number ≡ false → get (outside words tuples) r ≡ get tuples r
  get-outside is_out = get-retained (not_in words) tuples r ∙ ap (λ b. cond (not b) (get tuples r) None) is_out

  pub get-among : has_slot words r.number ≡ true → get (among words tuples) r ≡ get tuples r
  get-among is_in = get-retained (in_set words) tuples r ∙ ap (λ b. cond b (get tuples r) None) is_in

  pub outside-slot : IsSome (get (outside words tuples) r) → has_slot words r.number ≡ false
  outside-slot held = elim (has_slot words r.number) as (λ b. IsSome (cond (not b) (get tuples r) None) → b ≡ false) [
    | true ↦ λ h. absurd (true≢false (sym h))
    | false ↦ λ h. refl
  ] (subst IsSome (get-retained (not_in words) tuples r) held)

  pub among-slot : IsSome (get (among words tuples) r) → has_slot words r.number ≡ true
  among-slot held = elim (has_slot words r.number) as (λ b. IsSome (cond b (get tuples r) None) → b ≡ true) [
    | true ↦ λ h. refl
    | false ↦ λ h. absurd (true≢false (sym h))
  ] (subst IsSome (get-retained (in_set words) tuples r) held)

  pub outside-held : IsSome (get (outside words tuples) r) → IsSome (get tuples r)
  outside-held held = subst IsSome (get-outside (outside-slot held)) held

  pub among-held : IsSome (get (among words tuples) r) → IsSome (get tuples r)
  among-held held = subst IsSome (get-among (among-slot held)) held

  -- whether it is in the part outside is told by both
  pub is_outside : is_some (get (outside words tuples) r) ≡ cond (is_some (get tuples r)) (not (has_slot words r.number)) false
  is_outside = ap is_some (get-retained (not_in words) tuples r) ∙ both (has_slot words r.number) (get tuples r)
    where
      both : (b : Bool) (o : Option X) → is_some (cond (not b) o None) ≡ cond (is_some o) (not b) false
      both true None = refl
      both true (Some x) = refl
      both false None = refl
      both false (Some x) = refl

  -- a tuple under a reference whose slot isn't in the set
  module _ (is_out : has_slot words r.number ≡ false) where
    pub outside-insert : (x : X) → outside words (insert tuples r x) ≡ insert (outside words tuples) r x
    outside-insert x = retained-insert (not_in words) (not_in words) tuples (insert tuples r x) r x
        (ap (λ b. cond (not b) (get (insert tuples r x) r) None) is_out ∙ get-insert_same tuples r x)
        (λ q other. ap (λ o. cond (not_in words q) o None) (get-insert_other tuples r q x other))

    pub among-insert : (x : X) → among words (insert tuples r x) ≡ among words tuples
    among-insert x = retained-same (in_set words) (in_set words) tuples (insert tuples r x) (λ q. elim (same_or_other q r) [
      | inl same ↦ away q (insert tuples r x) same ∙ sym (away q tuples same)
      | inr other ↦ ap (λ o. cond (in_set words q) o None) (get-insert_other tuples r q x other)
    ])
      where
        away : (q : TupleRef) (t : Tuples X) → q ≡ r → found (in_set words) t q ≡ None
        away q t same = ap (λ b. cond b (get t q) None) (ap (in_set words) same ∙ is_out)

    pub outside-remove : outside words (remove tuples r) ≡ remove (outside words tuples) r
    outside-remove = retained-remove (not_in words) (not_in words) tuples (remove tuples r) r
        (nothing (not_in words r) (get (remove tuples r) r) (get-remove_same tuples r))
        (λ q other. ap (λ o. cond (not_in words q) o None) (get-remove_other tuples r q other))

    pub among-remove : among words (remove tuples r) ≡ among words tuples
    among-remove = retained-same (in_set words) (in_set words) tuples (remove tuples r) (λ q. elim (same_or_other q r) [
      | inl same ↦ away q (remove tuples r) same ∙ sym (away q tuples same)
      | inr other ↦ ap (λ o. cond (in_set words q) o None) (get-remove_other tuples r q other)
    ])
      where
        away : (q : TupleRef) (t : Tuples X) → q ≡ r → found (in_set words) t q ≡ None
        away q t same = ap (λ b. cond b (get t q) None) (ap (in_set words) same ∙ is_out)

  -- its slot comes into the set
  module _ (after : List ℕ) (comes : ChangesSlot words after r.number true) where
    still : (q : TupleRef) → q ≢ r → has_slot after q.number ≡ has_slot words q.number
    still q other = comes.others q.number (other_slot q r other)

    pub outside-hidden : outside after tuples ≡ remove (outside words tuples) r
    outside-hidden = retained-remove (not_in words) (not_in after) tuples tuples r
        (ap (λ b. cond (not b) (get tuples r) None) comes.changed)
        (λ q other. ap (λ b. cond (not b) (get tuples q) None) (still q other))

    pub among-hidden : (x : X) → get tuples r ≡ Some x → among after tuples ≡ insert (among words tuples) r x
    among-hidden x at = retained-insert (in_set words) (in_set after) tuples tuples r x
        (ap (λ b. cond b (get tuples r) None) comes.changed ∙ at)
        (λ q other. ap (λ b. cond b (get tuples q) None) (still q other))

  -- its slot goes out of the set
  module _ (after : List ℕ) (goes : ChangesSlot words after r.number false) where
    now : (q : TupleRef) → q ≢ r → has_slot after q.number ≡ has_slot words q.number
    now q other = goes.others q.number (other_slot q r other)

    pub outside-shown : (x : X) → get tuples r ≡ Some x → outside after tuples ≡ insert (outside words tuples) r x
    outside-shown x at = retained-insert (not_in words) (not_in after) tuples tuples r x
        (ap (λ b. cond (not b) (get tuples r) None) goes.changed ∙ at)
        (λ q other. ap (λ b. cond (not b) (get tuples q) None) (now q other))

    pub among-shown : among after tuples ≡ remove (among words tuples) r
    among-shown = retained-remove (in_set words) (in_set after) tuples tuples r
        (ap (λ b. cond b (get tuples r) None) goes.changed)
        (λ q other. ap (λ b. cond b (get tuples q) None) (now q other))

    -- and the tuple goes too
    pub outside-dropped : has_slot words r.number ≡ true → outside after (remove tuples r) ≡ outside words tuples
    outside-dropped is_in = retained-same (not_in words) (not_in after) tuples (remove tuples r) (λ q. elim (same_or_other q r) [
      | inl same ↦
          ap (found (not_in after) (remove tuples r)) same ∙ ap (λ b. cond (not b) (get (remove tuples r) r) None) goes.changed ∙ get-remove_same tuples r
          ∙ sym (ap (found (not_in words) tuples) same ∙ ap (λ b. cond (not b) (get tuples r) None) is_in)
      | inr other ↦ ap (λ b. cond (not b) (get (remove tuples r) q) None) (now q other) ∙ ap (λ o. cond (not_in words q) o None) (get-remove_other tuples r q other)
    ])

    pub among-dropped : among after (remove tuples r) ≡ remove (among words tuples) r
    among-dropped = retained-remove (in_set words) (in_set after) tuples (remove tuples r) r
        (ap (λ b. cond b (get (remove tuples r) r) None) goes.changed)
        (λ q other. ap (λ b. cond b (get (remove tuples r) q) None) (now q other) ∙ ap (λ o. cond (in_set words q) o None) (get-remove_other tuples r q other))

-- a set of the same slots parts the tuples alike
module _ {X : Type 0} (words after : List ℕ) (tuples : Tuples X) (same : (slot : ℕ) → has_slot after slot ≡ has_slot words slot) where
  pub outside-same : outside after tuples ≡ outside words tuples
  outside-same = retained-same (not_in words) (not_in after) tuples tuples (λ q. ap (λ b. cond (not b) (get tuples q) None) (same q.number))

  pub among-same : among after tuples ≡ among words tuples
  among-same = retained-same (in_set words) (in_set after) tuples tuples (λ q. ap (λ b. cond b (get tuples q) None) (same q.number))
