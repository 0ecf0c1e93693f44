-- The links of a row in the columns of some cells, and a row whose cells are set back.
use Rattle.std.proofs.Common.{◌≡◌, ◌≢◌, ℕ, ◌+◌, ◌-◌, ◌*◌, ◌<◌, ◌≤◌, ◌++◌, Bool, List, [], ◌∷◌, Option, Some, None, IsSome, sym, ap, ◌∙◌, subst, arith, length, take, drop, get_or, append-nil, inl, inr}
use Rattle.std.specs.List.{All, AllPairs, Contains, count_by, filter_map, slice_get}
use Rattle.std.specs.Option.{option_map, option_map_or}
use Rattle.std.specs.FinMap.{get}
use Rattle.std.proofs.lemmas.List.{length-take-le, take-append-drop}
use Rattle.std.proofs.lemmas.List.Elements.{All-contains, Contains-get_or, filter_map-append}
use Rattle.common_lemmas.proofs.Places.{slice_get-inside}
use Rattle.std.proofs.lemmas.Bool.{cases_eq}
use Rattle.std.proofs.lemmas.Option.{get_or_from_slice_get, slice_get_within}
use Rattle.common_lemmas.proofs.Elements.{Contains-cons_cases, Contains-head}
use Rattle.mm_relation.specs.Settings.{with_cells}
use Rattle.mm_catalog.proofs.Lists.{get-take}
use Rattle.mm_relation.specs.Reading.{cell_value}
use Rattle.part_raw.specs.declared.tuple_ref.TupleRef.{TupleRef}
use Rattle.mm_relation.specs.Changes.{IsChangedBack}
use Rattle.mm_relation.specs.Rows.{Row}
use Rattle.mm_relation.specs.State.{IsCurrent, IsKept, RelationState, linked_keys}
use Rattle.mm_catalog.specs.declared.references.link.Link.{Link}
use Rattle.mm_catalog.specs.Assigned.{CellSet, links_at, row_links_at, set_link, set_links}
use Rattle.mm_catalog.specs.ChangedBack.{AreChangedBack, AreRelinked, CanBeChangedBack, CellsFit, cells_of_row}
use Rattle.mm_catalog.specs.Counted.{AreCountedBy, HaveAtLeast, HaveRoom, IsHeldIn, LeadIntoCounted, linked_of, naming, none}
use Rattle.mm_catalog.specs.Linked.{Linked, is_link_to, link_at, relation_links, target_at}
use Rattle.mm_catalog.proofs.Counted.{all_held_still, counted_none, counted_row, counted_then, naming-append}
use Rattle.mm_catalog.proofs.HideSteps.{keys_once, not_yet, others_than}
use Rattle.mm_catalog.proofs.LinksHeld.{Contains-filter_map}
use Rattle.mm_catalog.proofs.Owing.{kept_aside}
use Rattle.mm_catalog.proofs.RelationSets.{links_set, row_wide}
use Rattle.mm_catalog.proofs.Removing.{link_held_at, row_links_within}
use Rattle.mm_catalog.proofs.RowLinks.{All-filter_map}
use Rattle.mm_catalog.proofs.RowSets.{AreApart, row_links_set}
use Rattle.mm_catalog.proofs.SetLinks.{row_links_more}
use Rattle.std.proofs.lemmas.List.Sums.{count_by-le-length}
use Rattle.common_lemmas.proofs.Maps.{length-filter_map_within}

-- ---- the links of a row, cell by cell

module _ (targets : List (Option ℕ)) (sets : List CellSet) (row : Row) where
  -- those of the first cells
  abbrev pub first_links : ℕ → List Linked
  first_links i = row_links_at targets (take i sets) row

  module _ (i : ℕ) (d : CellSet) (within : i < length sets) where
    pub naming_link : (link : Link) → link_at targets row (get_or sets i d).0.0 ≡ Some (linked_of link) → (table : ℕ) (q : TupleRef) → naming (first_links (i + 1)) table q ≡ naming (first_links i) table q + naming (linked_of link ∷ []) table q
    naming_link link e table q =
        ap (λ ls. naming ls table q) (row_links_more targets sets row i d (Some link) within (sym e)) ∙ naming-append (first_links i) (linked_of link ∷ []) table q

    pub naming_no_link : link_at targets row (get_or sets i d).0.0 ≡ None → (table : ℕ) (q : TupleRef) → naming (first_links i) table q ≡ naming (first_links (i + 1)) table q
    naming_no_link e table q =
        sym (ap (λ ls. naming ls table q) (row_links_more targets sets row i d None within (sym e) ∙ append-nil (first_links i)))

    pub link_among : (P : Linked → Type 0) (link : Linked) → All P (row_links_at targets sets row) → link_at targets row (get_or sets i d).0.0 ≡ Some link → P link
    unfolding row_links_at
    link_among P link all e =
        All-contains P (row_links_at targets sets row) link all (Contains-filter_map (λ (s : CellSet). link_at targets row s.0.0) sets (get_or sets i d) link (Contains-get_or sets i d within) e)

  -- they are some of all
  pub naming_first : (i table : ℕ) (q : TupleRef) → naming (first_links i) table q ≤ naming (row_links_at targets sets row) table q
  unfolding row_links_at
  naming_first i table q =
      let f = λ (s : CellSet). link_at targets row s.0.0 in
      let all : naming (filter_map f sets) table q ≡ naming (filter_map f (take i sets)) table q + naming (filter_map f (drop i sets)) table q =
      ap (λ ss. naming (filter_map f ss) table q) (sym (take-append-drop i sets)) ∙ ap (λ ls. naming ls table q) (filter_map-append f (take i sets) (drop i sets))
      ∙ naming-append (filter_map f (take i sets)) (filter_map f (drop i sets)) table q in
      omega (arith, all)

-- ---- one row

count_set_links : (targets : List (Option ℕ)) (sets : List CellSet) (test : Linked → Bool) → count_by test (set_links targets sets) ≤ length sets
unfolding set_links
count_set_links targets sets test = omega (arith, count_by-le-length test (filter_map (set_link targets) sets), length-filter_map_within (set_link targets) sets)

module _ (before : List RelationState) (s : RelationState) (r : TupleRef) (sets : List CellSet) (can : CanBeChangedBack before s r sets) where
  apart : AreApart (length s.targets) sets
  apart = record { behind = can.fit.behind_key; within = can.fit.columns; apart = can.fit.apart }

  module _ (row : Row) (at : get s.rows r ≡ Some row) where
    pub gone_held : All (IsHeldIn before) (row_links_at s.targets sets row)
    unfolding row_links_at
    gone_held =
        All-filter_map (IsHeldIn before) (λ (c : CellSet). link_at s.targets row c.0.0) sets
        (λ c link here e. link_held_at before s r row can.current can.counted at c.0.0 link e)

    -- the rows that lose links have them
    pub gone_enough : (raised : List RelationState) → AreCountedBy before raised (λ t q. 1 * naming (set_links s.targets sets) t q) none → HaveAtLeast raised (naming (row_links_at s.targets sets row))
    gone_enough raised up t u q here held =
        let was = counted_row before raised _ none up t u q here held in
        let enough = can.enough t was.0 q was.1 was.2 in
        let part = row_links_within (is_link_to t q) s r row can.own at in
        let one = row_links_set (is_link_to t q) s.targets sets row apart (row_wide (linked_keys s.targets before) s can.current r row at) in
        omega (arith, was.3, enough, part, one)

    pub relinked : (raised lowered : List RelationState) (a : RelationState) → AreCountedBy before raised (λ t q. 1 * naming (set_links s.targets sets) t q) none → AreCountedBy raised lowered none (naming (row_links_at s.targets sets row))
        → IsKept a → IsChangedBack s a r sets → AreRelinked before lowered s a (length sets)
    unfolding relation_links links_at
    relinked raised lowered a up down kept changed = record {
      more = λ t q. 1 * naming (set_links s.targets sets) t q + 0;
      few = λ t q. omega (arith, count_set_links s.targets sets (is_link_to t q));
      fewer = λ t q. 0 + naming (row_links_at s.targets sets row) t q;
      counted = counted_then before raised lowered (λ t q. 1 * naming (set_links s.targets sets) t q) none none (naming (row_links_at s.targets sets row)) up down;
      links = λ t q.
          let b : RelationState = record s { owed = s.owed - 1 } in
          let whole =
          links_set b a (r ∷ []) sets changed (kept_aside s s.hidden (s.owed - 1) can.own) kept (λ k d l. subst (λ x. IsSome (get s.rows x)) (one_of k d l) can.held) (λ i j d below l. absurd (omega (arith, below, l))) apart
          (λ x y. row_wide (linked_keys s.targets before) s can.current x y) (is_link_to t q) in
          let lost : count_by (is_link_to t q) (links_at b sets (r ∷ [])) ≡ naming (row_links_at s.targets sets row) t q =
          ap (λ (o : Option Row). count_by (is_link_to t q) (option_map_or (row_links_at s.targets sets) o [] ++ [])) at ∙ ap (count_by (is_link_to t q)) (append-nil (row_links_at s.targets sets row)) in
          omega (arith, whole, lost);
    }
      where
        one_of : (k : ℕ) (d : TupleRef) → k < 1 → r ≡ get_or (r ∷ []) k d
        one_of k d l = let zero : k ≡ 0 = omega (arith, l) in ap (λ m. get_or (r ∷ []) m d) (sym zero)

-- ---- one row after another

module _ (old mid new : List RelationState) (s t u : RelationState) (a b : ℕ) (h : AreRelinked old mid s t a) (l : AreRelinked mid new t u b) where
  pub relinked_then : AreRelinked old new s u (a + b)
  relinked_then = record {
    more = λ x q. h.more x q + l.more x q;
    fewer = λ x q. h.fewer x q + l.fewer x q;
    few = λ x q. omega (arith, h.few x q, l.few x q);
    counted = counted_then old mid new h.more h.fewer l.more l.fewer h.counted l.counted;
    links = λ x q. omega (arith, h.links x q, l.links x q);
  }

pub relinked_none : (relations : List RelationState) (s : RelationState) → All IsKept relations → AreRelinked relations relations s s 0
relinked_none relations s kept = record {
  more = none;
  fewer = none;
  few = λ x q. omega arith;
  counted = counted_none relations kept;
  links = λ x q. omega arith;
}

-- ---- what is asked of the next row, where numbers of referrers changed

module _ (old mid : List RelationState) (s t : RelationState) (most : ℕ) (h : AreRelinked old mid s t most) (same : t.targets ≡ s.targets) where
  keys_now : linked_keys t.targets mid ≡ linked_keys s.targets old
  keys_now = keys_once s t old mid same h.counted.recounted

  pub fit_still : (sets : List CellSet) → CellsFit old s.targets sets → CellsFit mid t.targets sets
  fit_still sets fit = record {
    behind_key = fit.behind_key;
    columns = subst (λ (targets : List (Option ℕ)). All (λ (c : CellSet). c.0.0 < length targets) sets) (sym same) fit.columns;
    apart = fit.apart;
    readable = subst (λ keys. All (λ (c : CellSet). IsSome (cell_value keys c.0.0 c.1)) sets) (sym keys_now) fit.readable;
    named = subst (λ targets. All (IsHeldIn mid) (set_links targets sets)) (sym same) (all_held_still old mid (set_links s.targets sets) h.counted.recounted fit.named);
  }

  pub counted_still : LeadIntoCounted old s.targets → LeadIntoCounted mid t.targets
  counted_still counted column table v e at =
      let u = slice_get-inside old table (omega (arith, h.counted.recounted.count, slice_get_within mid table v at)) in
      ap (λ (x : RelationState). x.counted) (h.counted.recounted.each table u.0 v u.1 at) ∙ counted column table u.0 (ap (λ targets. target_at targets column) (sym same) ∙ e) u.1

  pub room_still : (all n : ℕ) → most + n ≤ all → HaveRoom old all → HaveRoom mid n
  room_still all n few room x v q at held =
      let was = counted_row old mid h.more h.fewer h.counted x v q at held in
      omega (arith, was.3, h.few x q, few, room x was.0 q was.1 was.2)

  pub enough_still : HaveAtLeast old (naming (relation_links s)) → HaveAtLeast mid (naming (relation_links t))
  enough_still enough x v q at held =
      let was = counted_row old mid h.more h.fewer h.counted x v q at held in
      omega (arith, was.3, enough x was.0 q was.1 was.2, h.links x q)

  pub current_still : IsCurrent (linked_keys s.targets old) t → IsCurrent (linked_keys t.targets mid) t
  current_still current = subst (λ keys. IsCurrent keys t) (sym keys_now) current

-- ---- a row more has its cells

module _ (s t u : RelationState) (refs : List TupleRef) (k : ℕ) (r : TupleRef) (within : k < length refs) (is : get_or refs k r ≡ r) (once : AllPairs (λ q x. q ≢ x) refs) (width : ℕ) (cells : List CellSet) where
  pub changed_more : AreChangedBack s t (take k refs) width cells → IsChangedBack t u r (cells_of_row width cells k) → AreChangedBack s u (take (k + 1) refs) width cells
  changed_more so_far step =
      let few : length (take k refs) ≡ k = length-take-le k refs (omega (arith, within)) in
      let more : length (take (k + 1) refs) ≡ k + 1 = length-take-le (k + 1) refs (omega (arith, within)) in
      let here : get u.rows r ≡ option_map (with_cells (cells_of_row width cells k)) (get s.rows r) =
      step.rows.changed r (Contains-head r []) ∙ ap (option_map (with_cells (cells_of_row width cells k))) (so_far.others r (not_yet refs k r within is once)) in
      let other : (q : TupleRef) → q ≢ r → get u.rows q ≡ get t.rows q = λ q ne. step.rows.others q (λ there. elim (Contains-cons_cases r [] q there) [
        | inl same ↦ ne same
        | inr behind ↦ absurd (omega (arith, behind.1))
      ]) in
      record {
        changed = λ j q at. elim (cases_eq j k) [
          | inl same ↦
              let it : q ≡ r =
              sym (get_or_from_slice_get refs k q r (sym (get-take refs (k + 1) k (omega arith)) ∙ ap (slice_get (take (k + 1) refs)) (sym same) ∙ at)) ∙ is in
              subst (λ x. get u.rows x ≡ option_map (with_cells (cells_of_row width cells j)) (get s.rows x)) (sym it) (subst (λ m. get u.rows r ≡ option_map (with_cells (cells_of_row width cells m)) (get s.rows r)) (sym same) here)
          | inr differs ↦
              let below : j < k = omega (arith, slice_get_within (take (k + 1) refs) j q at, more, differs) in
              let before : slice_get (take k refs) j ≡ Some q = get-take refs k j below ∙ sym (get-take refs (k + 1) j (omega (arith, below))) ∙ at in
              let there : Contains (take k refs) q = (j, slice_get_within (take k refs) j q before, get_or_from_slice_get (take k refs) j q q before) in
              other q (λ same. not_yet refs k r within is once (subst (Contains (take k refs)) same there)) ∙ so_far.changed j q before
        ];
        others = λ q no. let parts = others_than refs k r within is once q no in other q parts.0 ∙ so_far.others q parts.1;
        referrers = step.referrers ∙ so_far.referrers;
        hidden = step.keeps.hidden ∙ so_far.hidden;
        owed = omega (arith, step.keeps.owed, so_far.owed, few, more);
        keeps = record {
          schema = step.keeps.schema ∙ so_far.keeps.schema;
          targets = step.keeps.targets ∙ so_far.keeps.targets;
          declared = step.keeps.declared ∙ so_far.keeps.declared;
          counted = step.keeps.counted ∙ so_far.keeps.counted;
        };
      }
