-- Tables that count the links to their rows no longer, in a catalog where no link leads into them.
use Rattle.std.proofs.Common.{◌≡◌, ℕ, zero, suc, ◌<◌, ◌==◌, ◌++◌, false, List, [], ◌∷◌, Option, Some, None, IsTrue, is_some, refl, sym, ap, ◌∙◌, subst, arith, length, map, set, get_or, append_assoc, length-set}
use Rattle.std.specs.List.{count_by, slice_get}
use Rattle.std.specs.FinMap.{get}
use Rattle.std.specs.Option.{option_map, option_map_or}
use Rattle.std.specs.Ordering.{is_eq}
use Rattle.std.specs.Prelude.{Result, OnOk}
use Rattle.std.proofs.lemmas.Bool.{and_parts, eqb-true, false≢true}
use Rattle.std.proofs.lemmas.List.{map-set, set-set}
use Rattle.std.proofs.lemmas.List.Elements.{All-cons}
use Rattle.std.proofs.lemmas.Option.{none-some, same_Some, slice_get-get_or, slice_get-map, slice_get_within}
use Rattle.std.proofs.lemmas.Result.{on_ok_weaker}
use Rattle.common_lemmas.proofs.Options.{option_map_some}
use Rattle.common_lemmas.proofs.Places.{set_itself, slice_get-inside, slice_get_set}
use Rattle.part_raw.specs.TupleRefs.{ref_cmp}
use Rattle.plain_tables.specs.References.{IsSound}
use Rattle.plain_tables.specs.declared.numbers.TableNumber.{TableNumber}
use Rattle.mm_relation.specs.Rows.{HaveNoReferrers, referrers_at}
use Rattle.mm_relation.specs.State.{IsCurrent, IsKept, RelationState, linked_keys}
use Rattle.mm_catalog.specs.State.{CatalogState}
use Rattle.mm_catalog.specs.Seen.{database_of}
use Rattle.mm_catalog.specs.Consistent.{AreCounted, IsAmong, IsConsistent}
use Rattle.mm_catalog.specs.Counted.{LeadIntoCounted}
use Rattle.mm_catalog.specs.Created.{GainCounts, GainsCounts, HaveGained, without_counts}
use Rattle.mm_catalog.specs.Declarations.{uncounted}
use Rattle.mm_catalog.specs.Linked.{is_link_to, links_to, target_at}
use Rattle.mm_catalog.specs.Outline.{IsOutline, Outline, RelationOutline, changed_at, changed_each, outline_of, relation_outline}
use Rattle.mm_catalog.proofs.Among.{among_at}
use Rattle.mm_catalog.proofs.Gaining.{consistent_gained, current_with, kept_with, with_counts}
use Rattle.mm_catalog.proofs.Lists.{each_set, map_alike}
use Rattle.mm_catalog.proofs.Outlined.{changed_here}
use Rattle.mm_catalog.proofs.Outlines.{outline, outlines, same_keys, same_links}
use Rattle.mm_catalog.proofs.RowLinks.{link_parts}
use Rattle.mm_catalog.proofs.ShownAgain.{database_alike}
use Rattle.mm_catalog.proofs.Unnamed.{none_named}

-- ---- others in the places of numbers

module _ {A : Type 0} (change : A → A) where
  as_many_at : (n : ℕ) (xs : List A) → length (changed_at change n xs) ≡ length xs
  as_many_at n xs = at (slice_get xs n)
    where
      at : (o : Option A) → length (option_map_or (λ x. set xs n (change x)) o xs) ≡ length xs
      at None = refl
      at (Some x) = length-set xs n (change x)

  pub as_many_changed : (numbers : List ℕ) (xs : List A) → length (changed_each change numbers xs) ≡ length xs
  as_many_changed [] xs = refl
  as_many_changed (n ∷ numbers) xs = as_many_at n (changed_each change numbers xs) ∙ as_many_changed numbers xs

  -- what holds of each and itself, and of each and the other in its place, holds at each place
  each_changed_at : (P : A → A → Type 0) → ((x : A) → P x x) → ((x : A) → P x (change x)) → (n : ℕ) (xs : List A) (k : ℕ) (u v : A) → slice_get xs k ≡ Some u → slice_get (changed_at change n xs) k ≡ Some v → P u v
  each_changed_at P itself other n xs k u v was now = at (slice_get xs n) refl now
    where
      at : (o : Option A) → slice_get xs n ≡ o → slice_get (option_map_or (λ x. set xs n (change x)) o xs) k ≡ Some v → P u v
      at None e here = subst (P u) (same_Some u v (sym was ∙ here)) (itself u)
      at (Some x) e here = each_set P itself xs n x (change x) e (other x) k u v was here

  pub each_changed : (P : A → A → Type 0) → ((x : A) → P x x) → ((x y : A) → P x y → P x (change y)) → (numbers : List ℕ) (xs : List A) (k : ℕ) (u v : A) → slice_get xs k ≡ Some u → slice_get (changed_each change numbers xs) k ≡ Some v → P u v
  each_changed P itself other [] xs k u v was now = subst (P u) (same_Some u v (sym was ∙ now)) (itself u)
  each_changed P itself other (n ∷ numbers) xs k u v was now =
      let mid = changed_each change numbers xs in
      let w = slice_get-inside mid k (omega (arith, as_many_changed numbers xs, slice_get_within xs k u was)) in
      each_changed_at (λ x y. P u x → P u y) (λ x p. p) (λ x p. other u x p) n mid k w.0 v w.1 now (each_changed P itself other numbers xs k u w.0 was w.1)

  map-changed_at : {B : Type 0} (f : A → B) (other : B → B) → ((x : A) → f (change x) ≡ other (f x)) → (n : ℕ) (xs : List A) → map f (changed_at change n xs) ≡ changed_at other n (map f xs)
  map-changed_at {B} f other alike n xs = at (slice_get xs n) ∙ ap (λ o. option_map_or (λ y. set (map f xs) n (other y)) o (map f xs)) (sym (slice_get-map f xs n))
    where
      at : (o : Option A) → map f (option_map_or (λ x. set xs n (change x)) o xs) ≡ option_map_or (λ y. set (map f xs) n (other y)) (option_map f o) (map f xs)
      at None = refl
      at (Some x) = map-set f xs n (change x) ∙ ap (set (map f xs) n) (alike x)

  pub map-changed_each : {B : Type 0} (f : A → B) (other : B → B) → ((x : A) → f (change x) ≡ other (f x)) → (numbers : List ℕ) (xs : List A) → map f (changed_each change numbers xs) ≡ changed_each other numbers (map f xs)
  map-changed_each f other alike [] xs = refl
  map-changed_each f other alike (n ∷ numbers) xs = map-changed_at f other alike n (changed_each change numbers xs) ∙ ap (changed_at other n) (map-changed_each f other alike numbers xs)

-- ---- a table that counts links now, and others after it

gained_first : (old new : List RelationState) (s : RelationState) (before mid after : List TableNumber) (n : TableNumber) → slice_get old n.0 ≡ Some s → s.counted ≡ false → mid ≡ before ++ n ∷ [] → HaveGained (set old n.0 (with_counts s)) new mid after
    → HaveGained old new before after
gained_first old new s before mid after n there none pushed h =
    let numbers = map (λ (m : TableNumber). m.0) h.gained in
    let last = set old n.0 (with_counts s) in
    let within = slice_get_within old n.0 s there in
    let count : length new ≡ length old = sym (as_many_changed without_counts numbers new) ∙ ap length h.others ∙ length-set old n.0 (with_counts s) in
    let again : without_counts (with_counts s) ≡ s = λ i. record s { counted = sym none i } in
    record {
      gained = n ∷ h.gained;
      list = h.list ∙ ap (λ ns. ns ++ h.gained) pushed ∙ append_assoc before (n ∷ []) h.gained;
      within = All-cons (λ (m : TableNumber). m.0 < length new) n h.gained (omega (arith, within, count)) h.within;
      others = ap (changed_at without_counts n.0) h.others ∙ changed_here without_counts n.0 last (with_counts s) (slice_get_set old n.0 (with_counts s) within)
          ∙ set-set old n.0 (with_counts s) (without_counts (with_counts s)) ∙ ap (set old n.0) again ∙ set_itself old n.0 s there;
    }

pub gained_when : {A E : Type 0} (old new : List RelationState) (s : RelationState) (before mid after : List TableNumber) (n : TableNumber) (r : Result A E) → slice_get old n.0 ≡ Some s → s.counted ≡ false → mid ≡ before ++ n ∷ []
    → OnOk r (HaveGained (set old n.0 (with_counts s)) new mid after) → OnOk r (HaveGained old new before after)
gained_when old new s before mid after n r there none pushed h = on_ok_weaker r (gained_first old new s before mid after n there none pushed) h

-- ---- an outline where they count links again

again_one : (o : Outline) (n : ℕ) → IsOutline (record o { relations = changed_at uncounted n o.relations }) → IsOutline o
again_one o n = at (slice_get o.relations n) refl
  where
    at : (found : Option RelationOutline) → slice_get o.relations n ≡ found → IsOutline (record o { relations = option_map_or (λ x. set o.relations n (uncounted x)) found o.relations }) → IsOutline o
    at None e stands = stands
    at (Some x) e stands =
        let c = stands.0 in
        let less : map relation_outline c.relations ≡ set o.relations n (uncounted x) = ap (λ (p : Outline). p.relations) stands.2 in
        let u = option_map_some relation_outline (slice_get c.relations n) (uncounted x)
        (sym (slice_get-map relation_outline c.relations n) ∙ ap (λ os. slice_get os n) less ∙ slice_get_set o.relations n (uncounted x) (slice_get_within o.relations n x e)) in
        let v : RelationState = record u.0 { counted = x.counted } in
        let mid : List RelationState = set c.relations n v in
        let none : u.0.counted ≡ false = ap (λ (p : RelationOutline). p.counted) u.2 in
        let gains : GainCounts c.relations mid = record {
          count = length-set c.relations n v;
          each = each_set GainsCounts (λ s. record { same = refl; still = λ counted. counted }) c.relations n u.0 v u.1 (record { same = refl; still = λ counted. absurd (false≢true (sym none ∙ counted)) });
        } in
        let whole : relation_outline v ≡ x = ap (λ (p : RelationOutline). record p { counted = x.counted }) u.2 in
        let relations : map relation_outline mid ≡ o.relations =
        map-set relation_outline c.relations n v ∙ (λ i. set (less i) n (whole i)) ∙ set-set o.relations n (uncounted x) x ∙ set_itself o.relations n x e in (
          record c { relations = mid },
          consistent_gained c stands.1 mid gains,
          λ i. record { limits = (stands.2 i).limits; names = (stands.2 i).names; relations = relations i },
        )

pub counting_again : (numbers : List ℕ) (o : Outline) → IsOutline (record o { relations = changed_each uncounted numbers o.relations }) → IsOutline o
counting_again [] o stands = stands
counting_again (n ∷ numbers) o stands = counting_again numbers o (again_one (record o { relations = changed_each uncounted numbers o.relations }) n stands)

-- ---- a catalog where they count them no longer

-- just that differs
pub as_before : (numbers : List ℕ) (rs : List RelationState) (k : ℕ) (s t : RelationState) → slice_get rs k ≡ Some s → slice_get (changed_each without_counts numbers rs) k ≡ Some t → t ≡ record s { counted = t.counted }
as_before = each_changed without_counts (λ (s t : RelationState). t ≡ record s { counted = t.counted }) (λ s. refl) (λ s t same. ap without_counts same)

-- each of them counts none
count_none : (numbers : List ℕ) (rs : List RelationState) (j n : ℕ) (t : RelationState) → slice_get numbers j ≡ Some n → slice_get (changed_each without_counts numbers rs) n ≡ Some t → t.counted ≡ false
count_none [] rs j n t listed at = absurd (none-some n listed)
count_none (m ∷ numbers) rs zero n t listed at =
    let mid = changed_each without_counts numbers rs in
    let u = slice_get-inside mid n (omega (arith, as_many_at without_counts m mid, slice_get_within (changed_at without_counts m mid) n t at)) in
    let same : m ≡ n = same_Some m n listed in
    let here : changed_at without_counts m mid ≡ set mid n (without_counts u.0) = ap (λ p. changed_at without_counts p mid) same ∙ changed_here without_counts n mid u.0 u.1 in
    ap (λ (s : RelationState). s.counted) (same_Some t (without_counts u.0) (sym at ∙ ap (λ rs. slice_get rs n) here ∙ slice_get_set mid n (without_counts u.0) (slice_get_within mid n u.0 u.1)))
count_none (m ∷ numbers) rs (suc j) n t listed at =
    let mid = changed_each without_counts numbers rs in
    let u = slice_get-inside mid n (omega (arith, as_many_at without_counts m mid, slice_get_within (changed_at without_counts m mid) n t at)) in
    each_changed_at without_counts (λ (s t : RelationState). s.counted ≡ false → t.counted ≡ false) (λ s e. e) (λ s e. refl) m mid n u.0 t u.1 at (count_none numbers rs j n u.0 listed u.1)

pub outlines_less : (numbers : List ℕ) (rs : List RelationState) → map relation_outline (changed_each without_counts numbers rs) ≡ changed_each uncounted numbers (map relation_outline rs)
outlines_less = map-changed_each without_counts relation_outline uncounted (λ s. refl)

module _ (c : CatalogState) (ok : IsConsistent c) (numbers : List ℕ) (stands : IsOutline (record (outline_of c) { relations = changed_each uncounted numbers (map relation_outline c.relations) })) where
  abbrev new : List RelationState
  new = changed_each without_counts numbers c.relations

  abbrev pub silent : CatalogState
  silent = record c { relations = new }

  abbrev d : CatalogState
  d = stands.0

  pub outline_silent : outline_of silent ≡ record (outline_of c) { relations = changed_each uncounted numbers (map relation_outline c.relations) }
  outline_silent = λ i. record { limits = c.limits; names = c.names; relations = outlines_less numbers c.relations i }

  alike : outline_of d ≡ outline_of silent
  alike = stands.2 ∙ sym outline_silent

  count : length new ≡ length c.relations
  count = as_many_changed without_counts numbers c.relations

  was : (k : ℕ) (t : RelationState) → slice_get new k ≡ Some t → (s : RelationState) × (slice_get c.relations k ≡ Some s) × (t ≡ record s { counted = t.counted })
  was k t at =
      let s = slice_get-inside c.relations k (omega (arith, count, slice_get_within new k t at)) in
      (s.0, s.1, as_before numbers c.relations k s.0 t s.1 at)

  -- the relation of a number in the other catalog of this outline
  other_at : (k : ℕ) (t : RelationState) → slice_get new k ≡ Some t → (u : RelationState) × (slice_get d.relations k ≡ Some u) × (relation_outline u ≡ relation_outline t)
  other_at k t at =
      option_map_some relation_outline (slice_get d.relations k) (relation_outline t)
      (sym (slice_get-map relation_outline d.relations k) ∙ ap (λ (o : Outline). slice_get o.relations k) alike ∙ slice_get-map relation_outline new k ∙ ap (option_map relation_outline) at)

  leads : (k : ℕ) (t : RelationState) → slice_get new k ≡ Some t → LeadIntoCounted new t.targets
  leads k t at column table s e here =
      let u = other_at k t at in
      let v = other_at table s here in
      let counted = (among_at d stands.1 k u.0 u.1).counted column table v.0 (ap (λ (o : RelationOutline). target_at o.targets column) u.2 ∙ e) v.1 in
      subst (λ (o : RelationOutline). IsTrue o.counted) v.2 counted

  same_outlines : outlines new ≡ outlines c.relations
  same_outlines = map_alike outline c.relations new count (λ k s t at here. ap outline (as_before numbers c.relations k s t at here))

  kept : (k : ℕ) (t : RelationState) → slice_get new k ≡ Some t → IsKept t
  kept k t at =
      let s = was k t at in
      subst IsKept (sym s.2) (kept_with s.0 t.counted (among_at c ok k s.0 s.1).kept)

  among : (k : ℕ) (t : RelationState) → slice_get new k ≡ Some t → IsAmong c.names new t
  among k t at =
      let s = was k t at in
      let a = among_at c ok k s.0 s.1 in
      let keys = same_keys s.0.targets new c.relations same_outlines in
      subst (IsAmong c.names new) (sym s.2) (record {
        kept = kept_with s.0 t.counted a.kept;
        targets = a.targets;
        counted = subst (λ (u : RelationState). LeadIntoCounted new u.targets) s.2 (leads k t at);
        linked = a.linked;
        current = current_with (linked_keys s.0.targets new) s.0 t.counted (subst (λ keys. IsCurrent keys s.0) (sym keys) a.current);
      })

  counted : AreCounted new
  unfolding links_to
  counted table t r at held =
      let s = was table t at in
      ap (λ (u : RelationState). referrers_at u.referrers r) s.2 ∙ ok.counted table s.0 r s.1 (ap (λ (u : RelationState). is_some (get u.rows r)) (sym s.2) ∙ held)
      ∙ sym (ap (count_by (is_link_to table r)) (same_links new c.relations same_outlines))

  sound : IsSound c.limits (database_of silent)
  sound =
      let limits : d.limits ≡ c.limits = ap (λ (o : Outline). o.limits) alike in
      let same = database_alike d silent (sym alike) (λ k e l. (stands.1.each k e l).kept) (λ k e l. kept k (get_or new k e) (slice_get-get_or new k e l)) in
      subst (IsSound c.limits) (sym same) (subst (λ (most : _). IsSound most (database_of d)) limits stands.1.sound)

  pub consistent_silent : IsConsistent silent
  consistent_silent = record {
    named = ok.named ∙ sym count;
    rows = ok.rows;
    sound = sound;
    each = λ k e l. among k (get_or new k e) (slice_get-get_or new k e l);
    counted = counted;
  }

  -- ---- no link leads into them

  pub no_referrers : (j n : ℕ) (s : RelationState) → slice_get numbers j ≡ Some n → slice_get c.relations n ≡ Some s → HaveNoReferrers s.rows s.referrers
  no_referrers j n s listed there r held =
      ok.counted n s r there held
      ∙ none_named c.relations n r
      (λ k t at q row column link _ e names.
      let parts = link_parts t.targets row column link e in
      let table : link.0 ≡ n = eqb-true link.0 n (and_parts (link.0 == n) (is_eq (ref_cmp link.1 r)) names).0 in
      let u = slice_get-inside new k (omega (arith, count, slice_get_within c.relations k t at)) in
      let v = slice_get-inside new n (omega (arith, count, slice_get_within c.relations n s there)) in
      let target : target_at u.0.targets column ≡ Some n = ap (λ (x : RelationState). target_at x.targets column) (as_before numbers c.relations k t u.0 at u.1) ∙ parts.0 ∙ ap (λ m. Some m) table in
      false≢true (sym (count_none numbers c.relations j n v.0 listed v.1) ∙ leads k u.0 u.1 column n v.0 target v.1))
