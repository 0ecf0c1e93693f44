-- A table that goes from a catalog: first the links of its rows, then the table, then the numbers of those behind it.
use Rattle.std.proofs.Common.{◌≡◌, ◌≢◌, ℕ, suc, ◌-◌, ◌<◌, ◌≤◌, false, List, ◌++◌, Some, IsSome, refl, sym, ap, ◌∙◌, subst, arith, length, map, take, drop, get_or, length-append, inl, inr}
use Rattle.std.specs.List.{All, slice_get, remove, count_by}
use Rattle.std.specs.FinMap as finite
use Rattle.std.proofs.lemmas.Bool.{cases_lt}
use Rattle.std.proofs.lemmas.List.{length-take, length-drop}
use Rattle.std.proofs.lemmas.List.Elements.{All-append, All-take, All-drop}
use Rattle.std.proofs.lemmas.Option.{same_Some, slice_get_within, slice_get-get_or}
use Rattle.common_lemmas.proofs.Places.{slice_get-inside, slice_get-front}
use Rattle.part_raw.specs.declared.tuple_ref.TupleRef.{TupleRef}
use Rattle.plain_tables.specs.Tables.{Table}
use Rattle.plain_tables.specs.References.{is_table_referenced, IsSound}
use Rattle.plain_tables.specs.ResolvedLaws.{IsMeant}
use Rattle.plain_tables.specs.declared.numbers.TableNumber.{TableNumber}
use Rattle.plain_tables.specs.declared.resolved.Resolved.TheVariants as resolved
use Rattle.plain_tables.proofs.Sound.{done_keeps_sound}
use Rattle.mm_relation.specs.Rows.{referrers_at}
use Rattle.mm_relation.specs.State.{RelationState, IsKept}
use Rattle.mm_catalog.specs.State.{CatalogState}
use Rattle.mm_catalog.specs.Seen.{database_of, table_of}
use Rattle.mm_catalog.specs.Linked.{target_at, relation_links, links_to, is_link_to}
use Rattle.mm_catalog.specs.Consistent.{IsConsistent}
use Rattle.mm_catalog.specs.Changes.{IsDone}
use Rattle.mm_catalog.specs.Recounted.{IsRecounted, AreRecounted}
use Rattle.mm_catalog.specs.Counted.{naming}
use Rattle.mm_catalog.specs.Dropped.{CanBeRenumbered, moved_up, renumbered, IsUnlinked}
use Rattle.mm_catalog.proofs.Lists.{get-past, get-take, get-taken}
use Rattle.mm_catalog.proofs.Back.{lead_back}
use Rattle.mm_catalog.proofs.Among.{among_at, there_at, table_at}
use Rattle.mm_catalog.proofs.Elsewhere.{relation_leads}
use Rattle.mm_catalog.proofs.Counted.{IsRecounted-refl, counted_down}
use Rattle.mm_catalog.proofs.Gone.{moved_up-before, moved_down-before, get-removed}
use Rattle.mm_catalog.proofs.Renumbered.{LeadElsewhere, less_one, renumbered_same, told_whole}
use Rattle.mm_catalog.proofs.Dropped.{database_left, consistent_left, elsewhere}
use Rattle.mm_catalog.proofs.Tables.{database-length}

-- as there are few tables, no number is too large
pub can_be_renumbered : (c : CatalogState) → IsConsistent c → (k : ℕ) (s : RelationState) → slice_get c.relations k ≡ Some s → CanBeRenumbered s
can_be_renumbered c ok k s there = record {
  wide = (among_at c ok k s there).kept.width;
  small = λ column table e. omega (arith, lead_back c ok k s there column table e, slice_get_within c.relations k s there, database-length c ok.named, ok.sound.few);
}

module _ (c : CatalogState) (ok : IsConsistent c) (number : TableNumber) (meant : IsMeant c.limits (database_of c) (resolved.DropTable number)) where
  abbrev n : ℕ
  n = number.0

  pub within : n < length c.relations
  within = there_at c ok n meant.0 meant.1

  pub all_kept : All IsKept c.relations
  all_kept = λ k d l. (ok.each k d l).kept

  pub unreferred : (name : List ℕ) → slice_get c.names n ≡ Some name → is_table_referenced (database_of c) name ≡ false
  unfolding table_of
  unreferred name called =
      let s = slice_get-inside c.relations n within in
      let same : meant.0.name ≡ name = ap (λ (t : Table). t.name) (table_at c ok n name s.0 meant.0 called s.1 meant.1) in
      subst (λ other. is_table_referenced (database_of c) other ≡ false) same meant.2

  pub leads_elsewhere : (k : ℕ) (s : RelationState) → slice_get c.relations k ≡ Some s → LeadElsewhere s.targets n
  leads_elsewhere =
      let name = slice_get-inside c.names n (omega (arith, within, ok.named)) in
      elsewhere c ok n name.0 name.1 (unreferred name.0 name.1)

  module _ (unlinked : List RelationState) (h : IsUnlinked c.relations unlinked n) where
    front_length : length h.front ≡ n
    front_length = omega (arith, h.counted.recounted.count, length-take n c.relations, within)

    get-before : (k : ℕ) → k < n → slice_get unlinked k ≡ slice_get h.front k
    get-before k below = ap (λ rs. slice_get rs k) h.list ∙ slice_get-front h.front (drop n c.relations) k (omega (arith, below, front_length))

    get-behind : (k : ℕ) → n ≤ k → slice_get unlinked k ≡ slice_get c.relations k
    get-behind k past = ap (λ rs. slice_get rs k) h.list ∙ get-past h.front c.relations n k front_length past

    length-unlinked : length unlinked ≡ length c.relations
    length-unlinked =
        let whole : length unlinked ≡ length (h.front ++ drop n c.relations) = ap (λ (rs : List RelationState). length rs) h.list in
        omega (arith, whole, length-append h.front (drop n c.relations), front_length, length-drop n c.relations, within)

    recounted : AreRecounted c.relations unlinked
    recounted = record {
      count = length-unlinked;
      each = λ k s t at here. elim (cases_lt k n) [
        | inl below ↦ h.counted.recounted.each k s t (get-take c.relations n k below ∙ at) (sym (get-before k below) ∙ here)
        | inr past ↦ subst (IsRecounted s) (same_Some s t (sym at ∙ sym (get-behind k past) ∙ here)) (IsRecounted-refl s)
      ];
    }

    kept_unlinked : All IsKept unlinked
    kept_unlinked = subst (All IsKept) (sym h.list) (All-append IsKept h.front (drop n c.relations) h.counted.kept (All-drop IsKept n c.relations all_kept))

    can_unlinked : All CanBeRenumbered unlinked
    can_unlinked k d l =
        let at = slice_get-get_or unlinked k d l in
        let old = slice_get-inside c.relations k (omega (arith, length-unlinked, l)) in
        let targets : (get_or unlinked k d).targets ≡ old.0.targets = ap (λ (r : RelationState). r.targets) (recounted.each k old.0 (get_or unlinked k d) old.1 at) in
        let can = can_be_renumbered c ok k old.0 old.1 in
        record { wide = (kept_unlinked k d l).width; small = λ column table e. can.small column table (ap (λ ts. target_at ts column) (sym targets) ∙ e) }

    fewer : (k : ℕ) (t : RelationState) (r : TupleRef) → k ≢ n → slice_get unlinked k ≡ Some t → IsSome (finite.get t.rows r) → referrers_at t.referrers r ≡ links_to c.relations k r - count_by (is_link_to k r) (relation_links h.relation)
    fewer k t r other at held = elim (cases_lt k n) [
      | inl below ↦
          counted_down (take n c.relations) h.front (naming (relation_links h.relation)) (links_to c.relations) h.counted
          (λ table s q there had. ok.counted table s q (get-taken c.relations n table s there).1 had)
          k t r (sym (get-before k below) ∙ at) held
      | inr past ↦
          let had = ok.counted k t r (sym (get-behind k past) ∙ at) held in
          omega (arith, had, relation_leads h.relation n (lead_back c ok n h.relation h.there) k r past)
    ]

    -- ---- without it

    abbrev others : List RelationState
    others = remove unlinked n

    pub told_others : All CanBeRenumbered others
    told_others =
        All-append CanBeRenumbered (take n unlinked) (drop (suc n) unlinked) (All-take CanBeRenumbered n unlinked can_unlinked) (All-drop CanBeRenumbered (suc n) unlinked can_unlinked)

    before_stays : (k : ℕ) (s : RelationState) → k < n → slice_get others k ≡ Some s → renumbered (moved_up n) s ≡ s
    before_stays k s below at =
        let here : slice_get unlinked k ≡ Some s = ap (slice_get unlinked) (sym (moved_down-before n k below)) ∙ sym (get-removed unlinked n k) ∙ at in
        let old = slice_get-inside c.relations k (omega (arith, below, within)) in
        let targets : s.targets ≡ old.0.targets = ap (λ (r : RelationState). r.targets) (recounted.each k old.0 s old.1 here) in
        renumbered_same (moved_up n) s (λ column t e.
        moved_up-before n t (omega (arith, below, lead_back c ok k old.0 old.1 column t (ap (λ ts. target_at ts column) (sym targets) ∙ e))))

    pub all_told : take n others ++ map (renumbered (moved_up n)) (drop n others) ≡ less_one unlinked n
    all_told = told_whole (moved_up n) n others before_stays

    -- what is done, and that it stays consistent
    pub record IsDropped (new : CatalogState) : Type 0 where
      pub done : IsDone c new (resolved.DropTable number)
      pub consistent : IsConsistent new

    pub table_dropped : (names : List (List ℕ)) (relations : List RelationState) → names ≡ remove c.names n → relations ≡ take n others ++ map (renumbered (moved_up n)) (drop n others) → IsDropped (record c { names = names; relations = relations })
    table_dropped names relations less told =
        let name = slice_get-inside c.names n (omega (arith, within, ok.named)) in
        let database = database_left c ok n name.0 name.1 (unreferred name.0 name.1) unlinked h.relation h.there recounted kept_unlinked fewer in
        let sound = subst (IsSound c.limits) (sym database) (done_keeps_sound c.limits (database_of c) (resolved.DropTable number) ok.sound meant) in
        subst IsDropped (λ i. record c { names = sym less i; relations = sym (told ∙ all_told) i })
        (record {
          done = record { database = database; limits = refl };
          consistent = consistent_left c ok n name.0 name.1 (unreferred name.0 name.1) unlinked h.relation h.there recounted kept_unlinked fewer sound;
        })
