-- A catalog of which cells of rows are set to what they were: it has the database of any catalog of its outline, and stays consistent.
use Rattle.std.proofs.Common.{◌≡◌, ◌≢◌, ℕ, ◌+◌, ◌-◌, ◌*◌, ◌<◌, ◌≤◌, true, false, List, ◌++◌, Option, Some, None, IsSome, is_some, refl, sym, ap, ◌∙◌, subst, arith, length, length-take, map, set, take, drop, get_or}
use Rattle.std.specs.List.{All, AllPairs, count_by, slice_get}
use Rattle.std.specs.Option.{option_and_then, option_map}
use Rattle.std.specs.FinMap.{get, len}
use Rattle.std.proofs.Math.Nat.{mul-le-mul}
use Rattle.std.proofs.lemmas.List.Elements.{All-contains, All-drop, All-take, Contains-get_or}
use Rattle.std.proofs.lemmas.Option.{same_Some, slice_get-get_or, slice_get-map, slice_get_within}
use Rattle.common_lemmas.proofs.Places.{slice_get-inside}
use Rattle.std.proofs.lemmas.List.{length-map}
use Rattle.common_lemmas.proofs.Elements.{All-at}
use Rattle.part_raw.specs.declared.tuple_ref.TupleRef.{TupleRef}
use Rattle.part_raw.proofs.Tuples.{held_tuple}
use Rattle.plain_tables.specs.References.{IsSound}
use Rattle.plain_tables.specs.declared.command.Limits.{Limits}
use Rattle.mm_relation.specs.Rows.{Row, referrers_at}
use Rattle.mm_relation.specs.Settings.{with_cells}
use Rattle.mm_relation.specs.State.{IsKept, IsReadable, RelationState, linked_keys, tree_list}
use Rattle.mm_relation.proofs.Setting.{no_more, with_cells-key}
use Rattle.mm_catalog.specs.State.{CatalogState}
use Rattle.mm_catalog.specs.Seen.{database_of}
use Rattle.mm_catalog.specs.Assigned.{CellSet, set_link, set_links}
use Rattle.mm_catalog.specs.ChangedBack.{AreChangedBackAt, CanAllBeChangedBack, CellsFit, cells_of_row}
use Rattle.mm_catalog.specs.Consistent.{AreCounted, IsConsistent}
use Rattle.mm_catalog.specs.Counted.{HaveRoom, IsHeldIn}
use Rattle.mm_catalog.specs.Linked.{HasLinksOrNulls, is_link_to, links_to, relation_links}
use Rattle.mm_catalog.specs.Outline.{IsOutline, Outline, OwesCells, RelationOutline, changed_back, is_among, outline_of, relation_outline, with_changed_back, with_row_cells}
use Rattle.mm_catalog.specs.Recounted.{HaveReferrers, IsRewritten}
use Rattle.mm_catalog.proofs.Among.{among_at}
use Rattle.mm_catalog.proofs.Bounded.{few_columns, few_links}
use Rattle.mm_catalog.proofs.CellsBack.{cells_among, cells_are, link_there, value_there}
use Rattle.mm_catalog.proofs.Counted.{counted_row}
use Rattle.mm_catalog.proofs.Elsewhere.{consistent_rewritten, counted_from, current_beside_old, kept_from, rewritten_from}
use Rattle.mm_catalog.proofs.Lists.{get-take}
use Rattle.mm_catalog.proofs.Outlined.{among_contains, changed_forth, none_among}
use Rattle.mm_catalog.proofs.Outlines.{keys_before}
use Rattle.mm_catalog.proofs.Back.{lead_back}
use Rattle.mm_catalog.proofs.RelationSets.{row_wide}
use Rattle.mm_catalog.proofs.Removing.{link_read_at, links_within}
use Rattle.mm_catalog.proofs.RowLinks.{All-filter_map}
use Rattle.mm_catalog.proofs.RowSets.{AreApart}
use Rattle.mm_catalog.proofs.ShownAgain.{alike_at, d_here, database_alike, keys_there}
use Rattle.mm_catalog.proofs.Standing.{stands_at}

-- ---- what is asked of the rows

module _ (c : CatalogState) (ok : IsConsistent c) (n : ℕ) (refs : List TupleRef) (width : ℕ) (cells : List CellSet) (owes : OwesCells (outline_of c) n refs width cells) where
  pub relation_there : n < length c.relations
  relation_there = omega (arith, slice_get_within (map relation_outline c.relations) n owes.relation owes.there, length-map c.relations relation_outline)

  module _ (d : CatalogState) (fine : IsConsistent d) (all : outline_of d ≡ with_changed_back n refs width cells (outline_of c)) (s : RelationState) (there : slice_get c.relations n ≡ Some s) where
    is : owes.relation ≡ relation_outline s
    is = same_Some owes.relation (relation_outline s) (sym owes.there ∙ slice_get-map relation_outline c.relations n ∙ ap (option_map relation_outline) there)

    held : All (λ r. IsSome (get s.rows r)) refs
    held = subst (λ (o : RelationOutline). All (λ r. IsSome (get o.rows r)) refs) is owes.held

    columns : All (λ (x : CellSet). x.0.0 < length s.targets) cells
    columns = subst (λ (o : RelationOutline). All (λ (x : CellSet). x.0.0 < length o.targets) cells) is owes.columns

    here : (t : RelationState) × (slice_get d.relations n ≡ Some t) × (relation_outline t ≡ changed_back refs width cells (relation_outline s))
    here = d_here c d ok n (changed_back refs width cells) all s there

    abbrev t : RelationState
    t = here.0

    rows_all : t.rows ≡ with_row_cells refs width cells s.rows
    rows_all = ap (λ (o : RelationOutline). o.rows) here.2

    targets_all : t.targets ≡ s.targets
    targets_all = ap (λ (o : RelationOutline). o.targets) here.2

    apart_at : (k : ℕ) → k < length refs → AreApart (length s.targets) (cells_of_row width cells k)
    apart_at k l = record {
      behind = All-take (λ (x : CellSet). 0 < x.0.0) width (drop (k * width) cells) (All-drop (λ (x : CellSet). 0 < x.0.0) (k * width) cells owes.behind_key);
      within = All-take (λ (x : CellSet). x.0.0 < length s.targets) width (drop (k * width) cells) (All-drop (λ (x : CellSet). x.0.0 < length s.targets) (k * width) cells columns);
      apart = owes.apart k l;
    }

    fit : (k : ℕ) → k < length refs → CellsFit (take n c.relations) s.targets (cells_of_row width cells k)
    unfolding set_links
    fit k l =
        let stands = stands_at c ok n s there in
        let r = slice_get-inside refs k l in
        let row = held_tuple s.rows r.0 (All-at (λ q. IsSome (get s.rows q)) refs k r.0 held r.1) in
        let sets = cells_of_row width cells k in
        let apart = apart_at k l in
        let wide = row_wide (linked_keys s.targets (take n c.relations)) s stands.current r.0 row.0 row.1 in
        let at : get t.rows r.0 ≡ Some (with_cells sets row.0) = ap (λ rows. get rows r.0) rows_all ∙ cells_among s.rows width refs cells owes.once k r.0 r.1 ∙ ap (option_map (with_cells sets)) row.1 in
        let read : IsReadable (linked_keys s.targets (take n c.relations)) (length s.targets) (with_cells sets row.0) =
        subst (λ keys. IsReadable keys (length s.targets) (with_cells sets row.0)) (keys_there c d ok n (changed_back refs width cells) all s there ∙ sym (keys_before s.targets c.relations n (lead_back c ok n s there)))
        (subst (λ targets. IsReadable (linked_keys targets d.relations) (length targets) (with_cells sets row.0)) targets_all ((among_at d fine n t here.1).current.readable r.0 (with_cells sets row.0) at)) in
        record {
          behind_key = apart.behind;
          columns = apart.within;
          apart = apart.apart;
          readable = λ j x m.
              subst IsSome (value_there (length s.targets) sets row.0 apart wide (get_or sets j x) (Contains-get_or sets j x m) (linked_keys s.targets (take n c.relations)))
              (read (get_or sets j x).0.0 (apart.within j x m));
          named = All-filter_map (IsHeldIn (take n c.relations)) (set_link s.targets) sets
              (λ x link among e. link_read_at (take n c.relations) s.targets (with_cells sets row.0) read stands.counted x.0.0 link (link_there (length s.targets) sets row.0 apart wide x among s.targets ∙ e));
        }

    few_rows : length refs ≤ 16777216
    few_rows =
        let kept = (among_at c ok n s there).kept in
        let some = no_more refs (tree_list s.by_key) owes.once (λ r h. kept.keyed.lists.listed r (All-contains (λ q. IsSome (get s.rows q)) refs r held h)) in
        omega (arith, some, kept.keyed.lists.count, kept.few)

    few_cells : width ≤ 16
    few_cells =
        let narrow : width ≤ length s.targets = subst (λ (o : RelationOutline). width ≤ length o.targets) is owes.narrow in
        omega (arith, narrow, few_columns c ok n s there)

    room : HaveRoom (take n c.relations) (length refs * width)
    room table u r at held =
        let below : table < n = omega (arith, slice_get_within (take n c.relations) table u at, length-take n c.relations, slice_get_within c.relations n s there) in
        let counted = ok.counted table u r (sym (get-take c.relations n table below) ∙ at) held in
        let most : length refs * width ≤ 16777216 * 16 = mul-le-mul few_rows few_cells in
        let bound : 17179869184 + 16777216 * 16 < 18446744073709551616 = omega arith in
        omega (arith, counted, few_links c ok table r, most, bound)

    pub can_be_changed_back : CanAllBeChangedBack (take n c.relations) s refs width cells
    can_be_changed_back =
        let stands = stands_at c ok n s there in
        let owed : length refs + len s.hidden ≤ s.owed = subst (λ (o : RelationOutline). length refs + len o.hidden ≤ o.owed) is owes.owed in
        record {
          kept = stands.kept;
          held = held;
          once = owes.once;
          count = owes.count;
          fit = fit;
          counted = stands.counted;
          enough = stands.enough;
          room = room;
          owed = omega (arith, owed);
          current = stands.current;
        }

-- ---- what is left of the catalog

module _ (c d : CatalogState) (ok : IsConsistent c) (fine : IsConsistent d) (n : ℕ) (refs : List TupleRef) (width : ℕ) (cells : List CellSet) (all : outline_of d ≡ with_changed_back n refs width cells (outline_of c)) (once : AllPairs (λ q r. q ≢ r) refs)
    (relations : List RelationState) (h : AreChangedBackAt c.relations relations n refs width cells) where
  abbrev e : CatalogState
  e = record c { relations = relations }

  abbrev b : RelationState
  b = h.before

  abbrev a : RelationState
  a = h.after

  abbrev joined : List RelationState
  joined = h.front ++ set (drop n c.relations) 0 a

  key_of : (sets : List CellSet) (o : Option Row) → option_and_then (λ (u : Row). Some u.key) (option_map (with_cells sets) o) ≡ option_and_then (λ (u : Row). Some u.key) o
  key_of sets None = refl
  key_of sets (Some row) = ap (λ k. Some k) (with_cells-key sets row)

  -- each row is the old one, or that with some cells set
  same_of : {X : Type 0} (f : Option Row → X) → ((sets : List CellSet) (o : Option Row) → f (option_map (with_cells sets) o) ≡ f o) → (r : TupleRef) → f (get a.rows r) ≡ f (get b.rows r)
  same_of f same r = elim (is_among refs r) as (λ x. is_among refs r ≡ x → f (get a.rows r) ≡ f (get b.rows r)) [
    | true ↦ λ among.
        let there = among_contains refs r among in
        let at = slice_get-get_or refs there.0 r there.1 ∙ ap (λ x. Some x) there.2 in
        ap f (h.changed.changed there.0 r at) ∙ same (cells_of_row width cells there.0) (get b.rows r)
    | false ↦ λ among. ap f (h.changed.others r (none_among refs r among))
  ] refl

  some_of : (sets : List CellSet) (o : Option Row) → is_some (option_map (with_cells sets) o) ≡ is_some o
  some_of sets None = refl
  some_of sets (Some row) = refl

  rewritten : IsRewritten c.relations relations n b a
  rewritten =
      subst (λ rs. IsRewritten c.relations rs n b a) (sym h.list)
      (rewritten_from c.relations h.front n b a h.there h.linked.counted.recounted h.changed.keeps (λ r held some. same_of (option_and_then (λ (u : Row). Some u.key)) key_of r))

  outline_now : relation_outline a ≡ changed_back refs width cells (relation_outline b)
  outline_now =
      let schema = h.changed.keeps.schema in
      let targets = h.changed.keeps.targets in
      let declared = h.changed.keeps.declared in
      let counted = h.changed.keeps.counted in
      let rows = cells_are b.rows width refs cells a.rows once h.changed.changed h.changed.others in
      λ i. record { schema = schema i; targets = targets i; declared = declared i; counted = counted i; rows = sym rows i; hidden = h.changed.hidden i; owed = h.changed.owed i }

  pub outline_changed_back : outline_of e ≡ with_changed_back n refs width cells (outline_of c)
  outline_changed_back =
      let relations = changed_forth c.relations relations n b a rewritten (changed_back refs width cells) outline_now in
      λ i. record { limits = c.limits; names = c.names; relations = relations i }

  -- it has the outline of d
  alike : outline_of e ≡ outline_of d
  alike = outline_changed_back ∙ sym all

  rewritten_joined : IsRewritten c.relations joined n b a
  rewritten_joined = subst (λ rs. IsRewritten c.relations rs n b a) h.list rewritten

  all_kept : All IsKept relations
  all_kept = subst (All IsKept) (sym h.list) (kept_from c ok n h.front a h.linked.counted.kept h.kept)

  fine_kept : All IsKept d.relations
  fine_kept k x l = (fine.each k x l).kept

  sound : IsSound c.limits (database_of e)
  sound =
      subst (IsSound c.limits) (sym (database_alike d e alike fine_kept all_kept))
      (subst (λ (l : Limits). IsSound l (database_of d)) (ap (λ (o : Outline). o.limits) (sym alike)) fine.sound)

  -- its rows have links or nulls as those of d
  linked : (r : TupleRef) (row : Row) → get a.rows r ≡ Some row → HasLinksOrNulls a.targets row
  linked r row at =
      let t = d_here c d ok n (changed_back refs width cells) all b h.there in
      let same : relation_outline a ≡ relation_outline t.0 = alike_at d e alike n t.0 a t.1 rewritten.here in
      subst (λ targets. HasLinksOrNulls targets row) (ap (λ (o : RelationOutline). o.targets) (sym same))
      ((among_at d fine n t.0 t.1).linked r row (ap (λ (o : RelationOutline). get o.rows r) (sym same) ∙ at))

  abbrev count : ℕ → TupleRef → ℕ
  count = λ table r. links_to c.relations table r + h.linked.more table r - h.linked.fewer table r

  have : HaveReferrers h.front count
  have table t r at held =
      let was = counted_row (take n c.relations) h.front h.linked.more h.linked.fewer h.linked.counted table t r at held in
      let below : table < n = omega (arith, slice_get_within (take n c.relations) table was.0 was.1, length-take n c.relations) in
      let before = ok.counted table was.0 r (sym (get-take c.relations n table below) ∙ was.1) was.2 in
      omega (arith, was.3, before)

  own : (r : TupleRef) → IsSome (get a.rows r) → referrers_at a.referrers r ≡ links_to c.relations n r
  own r held = ap (λ rs. referrers_at rs r) h.changed.referrers ∙ ok.counted n b r h.there (sym (same_of is_some some_of r) ∙ held)

  front_length : length h.front ≡ n
  front_length = omega (arith, h.linked.counted.recounted.count, length-take n c.relations, slice_get_within c.relations n b h.there)

  told : (table : ℕ) (r : TupleRef) → count table r + count_by (is_link_to table r) (relation_links b) ≡ links_to c.relations table r + count_by (is_link_to table r) (relation_links a)
  unfolding links_to
  told table r = omega (arith, h.linked.links table r, links_within (is_link_to table r) c.relations n b h.there)

  counted : AreCounted joined
  counted = counted_from c ok n h.front b a rewritten_joined front_length count have (λ table r below. told table r) own

  pub changed_back_consistent : IsConsistent e
  changed_back_consistent =
      consistent_rewritten c ok n relations b a rewritten all_kept (current_beside_old c ok n relations b a rewritten h.current) linked (subst AreCounted (sym h.list) counted) sound

-- ---- what the call asks and answers

module _ (c : CatalogState) (ok : IsConsistent c) (n : ℕ) (refs : List TupleRef) (width : ℕ) (cells : List CellSet) (owes : OwesCells (outline_of c) n refs width cells) (stands : IsOutline (with_changed_back n refs width cells (outline_of c))) where
  pub can_change_back : (s : RelationState) → slice_get c.relations n ≡ Some s → CanAllBeChangedBack (take n c.relations) s refs width cells
  can_change_back s there = can_be_changed_back c ok n refs width cells owes stands.0 stands.1 stands.2 s there

  pub changed_back_so : (relations : List RelationState) → AreChangedBackAt c.relations relations n refs width cells → IsConsistent (record c { relations = relations }) × (outline_of (record c { relations = relations }) ≡ with_changed_back n refs width cells (outline_of c))
  changed_back_so relations h = (
    changed_back_consistent c stands.0 ok stands.1 n refs width cells stands.2 owes.once relations h,
    outline_changed_back c stands.0 ok stands.1 n refs width cells stands.2 owes.once relations h,
  )
