-- A catalog into which a row comes: what it shows, that it stays consistent, and why one does not come.
use Rattle.std.proofs.Common.{◌≡◌, ◌≢◌, ℕ, ◌+◌, ◌<◌, ◌==◌, ◌⊎◌, false, List, ◌∷◌, ◌++◌, Some, None, refl, sym, ap, ◌∙◌, subst, arith, length, map, take, drop, set, get_or, length-take, inl, inr, is_some, Option, IsSome}
use Rattle.part_raw.specs.Store.{Tuples}
use Rattle.std.specs.List.{All, count_by, slice_get, flat_map}
use Rattle.std.specs.Prelude.{Result, Ok, Err, IfOk, OnOk, OnErr, IfErr}
use Rattle.std.specs.Option.{option_and_then, unwrap_or}
use Rattle.std.specs.Ordering.{is_eq}
use Rattle.std.specs.FinMap as finite
use Rattle.std.specs.FinMap.{get, insert}
use Rattle.std.proofs.lemmas.Bool.{and_left, and_right, cases_eq, ne_eqb}
use Rattle.std.proofs.lemmas.Option.{none-some, same_Some, slice_get_within, slice_get-get_or}
use Rattle.common_lemmas.proofs.Elements.{All-flat_map}
use Rattle.part_raw.specs.TupleRefs.{ref_cmp}
use Rattle.part_raw.specs.declared.tuple_ref.TupleRef.{TupleRef}
use Rattle.part_raw.proofs.Tuples.{get-insert_same, get-insert_other, same_ref_other, held_tuple}
use Rattle.part_raw.proofs.Lookup.{same_or_other}
use Rattle.plain_tables.specs.Tables.{Table, with_row}
use Rattle.plain_tables.specs.Doing.{done}
use Rattle.plain_tables.specs.Effects.{Effect, Changed, Refused, grown_by}
use Rattle.plain_tables.specs.References.{IsSound}
use Rattle.plain_tables.specs.ResolvedLaws.{IsMeant}
use Rattle.plain_tables.specs.declared.numbers.TableNumber.{TableNumber}
use Rattle.plain_tables.specs.declared.refusal.Refusal.{Refusal}
use Rattle.plain_tables.specs.declared.refusal.Refusal.TheVariants.{NoMemory}
use Rattle.plain_tables.specs.declared.resolved.Resolved.TheVariants as resolved
use Rattle.plain_tables.specs.declared.value.Value.{Value}
use Rattle.plain_tables.proofs.Sound.{done_keeps_sound}
use Rattle.mm_relation.specs.Rows.{Row, referrers_at}
use Rattle.mm_relation.specs.declared.row.Cell.{Cell}
use Rattle.mm_relation.specs.Changes.{new_row}
use Rattle.mm_relation.specs.State.{RelationState, HasKey, linked_keys}
use Rattle.mm_catalog.specs.State.{CatalogState}
use Rattle.mm_catalog.specs.Seen.{database_of, table_of, rows_of, row_values, plain_index}
use Rattle.mm_catalog.specs.Linked.{Linked, link_at, row_links, relation_links, links, links_to, is_link_to, HasLinksOrNulls}
use Rattle.mm_catalog.specs.Consistent.{IsConsistent, AreCounted}
use Rattle.mm_catalog.specs.Changes.{HasEffect, IsRefusedFor}
use Rattle.mm_catalog.specs.Recounted.{HaveReferrers, IsRewritten}
use Rattle.mm_catalog.specs.Counted.{naming}
use Rattle.mm_catalog.proofs.Counted.{counted_up}
use Rattle.mm_catalog.specs.Cells.{AreCellsOf}
use Rattle.mm_catalog.specs.Loaded.{HasCome}
use Rattle.mm_catalog.specs.Inserted.{IsKeptOut, no_memory, key_there, none_named, full, IsTakenIn, IsInsertedAt, IsRefusedAt}
use Rattle.mm_catalog.proofs.Lists.{get-take}
use Rattle.mm_catalog.proofs.Outlines.{keys_before}
use Rattle.mm_catalog.proofs.Back.{lead_back}
use Rattle.mm_catalog.proofs.Among.{among_at, named_at, table_at, some_columns}
use Rattle.mm_catalog.proofs.Counting.{links_inserted}
use Rattle.mm_catalog.proofs.Kept.{columns_kept, row_more}
use Rattle.mm_catalog.proofs.Shown.{rows_inserted}
use Rattle.mm_catalog.proofs.LinksHeld.{link_held}
use Rattle.mm_catalog.proofs.Elsewhere.{rewritten_from, kept_from, database_rewritten, consistent_rewritten, current_beside_old, counted_from}
use Rattle.mm_catalog.proofs.CellRows.{cells_shown, cells_linked}
use Rattle.mm_catalog.proofs.RowLinks.{link_parts, each_link}
use Rattle.mm_catalog.proofs.Checked.{key_refuses, reference_refuses, full_refuses, nothing_refuses}
use Rattle.mm_catalog.proofs.Anywhere.{none_counted}

-- ---- no link names a row that isn't there

module _ (c : CatalogState) (ok : IsConsistent c) (n : ℕ) (b : RelationState) (there : slice_get c.relations n ≡ Some b) (r : TupleRef) (free : get b.rows r ≡ None) where
  unnamed : (k : ℕ) (s : RelationState) (q : TupleRef) (row : Row) (column : ℕ) (link : Linked) → slice_get c.relations k ≡ Some s → get s.rows q ≡ Some row → link_at s.targets row column ≡ Some link → is_link_to n r link ≡ false
  unnamed k s q row column link at found e =
      let parts = link_parts s.targets row column link e in
      let held = link_held c ok k s q row column link.0 link.1 at found parts.0 parts.1 in
      elim (cases_eq link.0 n) [
        | inr other ↦ and_left (link.0 == n) (is_eq (ref_cmp link.1 r)) (ne_eqb link.0 n other)
        | inl same ↦ elim (same_or_other link.1 r) [
          | inr other ↦ and_right (link.0 == n) (is_eq (ref_cmp link.1 r)) (same_ref_other link.1 r other)
          | inl it ↦
              let this : held.0 ≡ b = same_Some held.0 b (sym held.2 ∙ ap (slice_get c.relations) same ∙ there) in
              absurd (none-some held.1 (sym free ∙ ap (get b.rows) (sym it) ∙ ap (λ (u : RelationState). get u.rows link.1) (sym this) ∙ held.3))
        ]
      ]

  relation_unnamed : (k : ℕ) (s : RelationState) → slice_get c.relations k ≡ Some s → All (λ link. is_link_to n r link ≡ false) (relation_links s)
  relation_unnamed k s at = each_link (λ link. is_link_to n r link ≡ false) s (λ q row column link. unnamed k s q row column link at)

  pub no_links_to : links_to c.relations n r ≡ 0
  unfolding links links_to
  no_links_to =
      none_counted (is_link_to n r) (flat_map relation_links c.relations)
      (All-flat_map (λ link. is_link_to n r link ≡ false) relation_links c.relations
      (λ k d l. relation_unnamed k (get_or c.relations k d) (slice_get-get_or c.relations k d l)))

-- ---- what the call on the relation asks

module _ (c : CatalogState) (ok : IsConsistent c) where
  pub values_width : (n : TableNumber) (values : List Value) → IsMeant c.limits (database_of c) (resolved.Insert n values) → (s : RelationState) → slice_get c.relations n.0 ≡ Some s → length values ≡ length s.targets
  unfolding table_of
  values_width n values meant s there =
      let name = named_at c ok n.0 (slice_get_within c.relations n.0 s there) in
      let wide : length meant.0.columns ≡ length s.schema.columns = ap (λ (t : Table). length t.columns) (table_at c ok n.0 name.0 s meant.0 name.1 there meant.1) in
      meant.2.counted ∙ wide ∙ sym (among_at c ok n.0 s there).kept.width

  pub some_value : (n : TableNumber) (values : List Value) → IsMeant c.limits (database_of c) (resolved.Insert n values) → (s : RelationState) → slice_get c.relations n.0 ≡ Some s → 0 < length values
  some_value n values meant s there =
      omega (arith, values_width n values meant s there, (among_at c ok n.0 s there).kept.width, some_columns c ok n.0 s there)

-- ---- a row that came

-- what an insert leaves of a catalog
pub record IsGrown (c : CatalogState) (relations : List RelationState) (n : TableNumber) (values : List Value) : Type 0 where
  pub effect : HasEffect c (record c { relations = relations }) (done c.limits (database_of c) (resolved.Insert n values)) 1
  pub consistent : IsConsistent (record c { relations = relations })

-- what it leaves of one, and answers
pub record IsInsertedSo (c : CatalogState) (n : TableNumber) (values : List Value) (result : Result TupleRef Refusal) (d : CatalogState) : Type 0 where
  pub consistent : IsConsistent d
  pub effect : OnOk result (HasEffect c d (done c.limits (database_of c) (resolved.Insert n values)) 1)
  pub came : IfOk result (HasCome c d n.0 values)
  pub refused : IfErr result (IsRefusedFor c d (done c.limits (database_of c) (resolved.Insert n values)))

module _ (c : CatalogState) (ok : IsConsistent c) (n : TableNumber) (key : Value) (rest : List Value) (meant : IsMeant c.limits (database_of c) (resolved.Insert n (key ∷ rest))) (b a : RelationState) (front : List RelationState) (cells : List Cell) (there : slice_get c.relations n.0 ≡ Some b) (fresh : HasKey b.rows key → ⊥) (are : AreCellsOf (take n.0 c.relations) b.targets rest cells) (room : finite.len b.rows < c.limits.rows) (q : TupleRef) (taken : IsTakenIn (take n.0 c.relations) front b a q (new_row key cells)) where
  abbrev values : List Value
  values = key ∷ rest

  abbrev t : Row
  t = new_row key cells

  abbrev new : List RelationState
  new = front ++ set (drop n.0 c.relations) 0 a

  within : n.0 < length c.relations
  within = slice_get_within c.relations n.0 b there

  wide : length b.targets ≡ length rest + 1
  wide = omega (arith, values_width c ok n values meant b there)

  name : (called : List ℕ) × (slice_get c.names n.0 ≡ Some called)
  name = named_at c ok n.0 within

  other_rows : (r : TupleRef) → r ≢ q → get a.rows r ≡ get b.rows r
  other_rows r other = ap (λ m. get m r) taken.inserted.rows ∙ get-insert_other b.rows q r t other

  not_new : (r : TupleRef) → IsSome (get b.rows r) → r ≢ q
  not_new r held e = let found = held_tuple b.rows r held in none-some found.0 (sym taken.inserted.free ∙ ap (get b.rows) (sym e) ∙ found.1)

  this_row : (u : Row) → get a.rows q ≡ Some u → t ≡ u
  this_row u found = same_Some t u (sym (ap (λ m. get m q) taken.inserted.rows ∙ get-insert_same b.rows q t) ∙ found)

  rewritten : IsRewritten c.relations new n.0 b a
  rewritten =
      rewritten_from c.relations front n.0 b a there taken.counted.recounted (columns_kept b a taken.inserted.keeps)
      (λ r held some. ap (option_and_then (λ (v : Row). Some v.key)) (other_rows r (not_new r held)))

  keys_here : linked_keys b.targets (take n.0 c.relations) ≡ linked_keys b.targets c.relations
  keys_here = keys_before b.targets c.relations n.0 (lead_back c ok n.0 b there)

  values_here : row_values (linked_keys b.targets c.relations) (length b.schema.columns) t ≡ values
  values_here =
      (λ i. row_values (sym keys_here i) (sym (among_at c ok n.0 b there).kept.width i) t)
      ∙ cells_shown (take n.0 c.relations) b.targets key rest cells are wide

  rows_now : rows_of (linked_keys a.targets c.relations) a ≡ with_row values (rows_of (linked_keys b.targets c.relations) b)
  rows_now =
      (λ i. rows_of (linked_keys (taken.inserted.keeps.targets i) c.relations) (record a { schema = taken.inserted.keeps.schema i }))
      ∙ rows_inserted b a (among_at c ok n.0 b there).kept taken.kept q t taken.inserted fresh (linked_keys b.targets c.relations) (some_columns c ok n.0 b there)
      ∙ ap (λ v. with_row v (rows_of (linked_keys b.targets c.relations) b)) values_here

  table_now : table_of c.relations name.0 a ≡ grown_by values (table_of c.relations name.0 b)
  unfolding table_of
  table_now = λ i. record {
    name = name.0;
    columns = (taken.inserted.keeps.schema i).columns;
    indexes = map plain_index (taken.inserted.keeps.declared i);
    rows = rows_now i;
  }

  effect_is : done c.limits (database_of c) (resolved.Insert n values) ≡ record { database = set (database_of c) n.0 (grown_by values (table_of c.relations name.0 b)); outcome = Changed 1 }
  effect_is = nothing_refuses c ok n b there name.0 name.1 key rest fresh cells are room

  database_now : database_of (record c { relations = new }) ≡ (done c.limits (database_of c) (resolved.Insert n values)).database
  database_now =
      database_rewritten c ok n.0 new b a rewritten name.0 name.1 ∙ ap (set (database_of c) n.0) table_now
      ∙ ap (λ (e : Effect). e.database) (sym effect_is)

  linked_now : (r : TupleRef) (u : Row) → get a.rows r ≡ Some u → HasLinksOrNulls a.targets u
  linked_now r u found = subst (λ targets. HasLinksOrNulls targets u) (sym taken.inserted.keeps.targets) (elim (same_or_other r q) [
    | inl same ↦
        subst (HasLinksOrNulls b.targets) (this_row u (ap (get a.rows) (sym same) ∙ found)) (cells_linked (take n.0 c.relations) b.targets key rest cells are wide)
    | inr other ↦ (among_at c ok n.0 b there).linked r u (sym (other_rows r other) ∙ found)
  ])

  abbrev count : ℕ → TupleRef → ℕ
  count = λ table r. links_to c.relations table r + count_by (is_link_to table r) (row_links b.targets t)

  have : HaveReferrers front count
  have = counted_up (take n.0 c.relations) front (naming (row_links b.targets t)) (links_to c.relations) taken.counted (λ table s r at held. ok.counted table s r (before_get table s at) held)
    where
      before_get : (table : ℕ) (s : RelationState) → slice_get (take n.0 c.relations) table ≡ Some s → slice_get c.relations table ≡ Some s
      before_get table s at =
          let below : table < n.0 = omega (arith, slice_get_within (take n.0 c.relations) table s at, length-take n.0 c.relations) in
          sym (get-take c.relations n.0 table below) ∙ at

  counts : (table : ℕ) (r : TupleRef) → table < n.0 → count table r + count_by (is_link_to table r) (relation_links b) ≡ links_to c.relations table r + count_by (is_link_to table r) (relation_links a)
  counts table r below =
      omega (arith, links_inserted b a (among_at c ok n.0 b there).kept taken.kept q t (row_more b a q t taken.inserted) fresh (is_link_to table r))

  own : (r : TupleRef) → IsSome (get a.rows r) → referrers_at a.referrers r ≡ links_to c.relations n.0 r
  own r held = ap (λ (numbers : Tuples ℕ). referrers_at numbers r) taken.inserted.referrers ∙ elim (same_or_other r q) [
    | inl same ↦
        ap (referrers_at (insert b.referrers q 0)) same ∙ ap (λ (o : Option ℕ). unwrap_or o 0) (get-insert_same b.referrers q 0)
        ∙ sym (no_links_to c ok n.0 b there q taken.inserted.free) ∙ ap (links_to c.relations n.0) (sym same)
    | inr other ↦
        ap (λ (o : Option ℕ). unwrap_or o 0) (get-insert_other b.referrers q r 0 other) ∙ ok.counted n.0 b r there (ap is_some (sym (other_rows r other)) ∙ held)
  ]

  front_length : length front ≡ n.0
  front_length = omega (arith, taken.counted.recounted.count, length-take n.0 c.relations, within)

  counted_now : AreCounted new
  counted_now = counted_from c ok n.0 front b a rewritten front_length count have counts own

  sound_now : IsSound c.limits (database_of (record c { relations = new }))
  sound_now = subst (IsSound c.limits) (sym database_now) (done_keeps_sound c.limits (database_of c) (resolved.Insert n values) ok.sound meant)

  grown_now : IsGrown c new n values
  grown_now = record {
    effect = record { database = database_now; limits = refl; outcome = ap (λ (e : Effect). e.outcome) effect_is };
    consistent =
        consistent_rewritten c ok n.0 new b a rewritten (kept_from c ok n.0 front a taken.counted.kept taken.kept)
        (current_beside_old c ok n.0 new b a rewritten taken.current) linked_now counted_now sound_now;
  }

module _ (c : CatalogState) (ok : IsConsistent c) (n : TableNumber) (values : List Value) (meant : IsMeant c.limits (database_of c) (resolved.Insert n values)) where
  pub grown_from : (relations : List RelationState) (r : TupleRef) → IsInsertedAt c.relations relations n.0 c.limits.rows values r → IsGrown c relations n values
  grown_from relations r h =
      let e = h.row.split in
      subst (λ rs. IsGrown c rs n values) (sym h.list)
      (subst (IsGrown c (h.front ++ set (drop n.0 c.relations) 0 h.after) n) (sym e)
      (grown_now c ok n h.key h.row.rest (subst (λ vs. IsMeant c.limits (database_of c) (resolved.Insert n vs)) e meant) h.before h.after h.front h.cells h.there h.row.fresh h.row.cells h.row.room r h.taken))

  -- ---- a row that did not come

  kept_out : (key : Value) (rest : List Value) (s : RelationState) (there : slice_get c.relations n.0 ≡ Some s) (called : List ℕ) (named : slice_get c.names n.0 ≡ Some called) → length (key ∷ rest) ≡ length s.schema.columns → (refusal : Refusal) → IsKeptOut (take n.0 c.relations) s c.limits.rows key rest refusal → (refusal ≡ NoMemory) ⊎ ((done c.limits (database_of c) (resolved.Insert n (key ∷ rest))).outcome ≡ Refused refusal)
  kept_out key rest s there called named columns refusal no_memory = inl refl
  kept_out key rest s there called named columns refusal (key_there h) = inr (key_refuses c ok n s there called named key rest h)
  kept_out key rest s there called named columns refusal (none_named fresh none) = inr (reference_refuses c ok n s there called named key rest fresh columns none)
  kept_out key rest s there called named columns refusal (full fresh cells are above) = inr (full_refuses c ok n s there called named key rest fresh cells are above)

  pub refused_from : (relations : List RelationState) (refusal : Refusal) → IsRefusedAt c.relations n.0 c.limits.rows values refusal → relations ≡ c.relations → IsRefusedFor c (record c { relations = relations }) (done c.limits (database_of c) (resolved.Insert n values)) refusal
  refused_from relations refusal h same =
      let e = h.row.split in
      let name = named_at c ok n.0 (slice_get_within c.relations n.0 h.relation h.there) in
      let columns : length (h.row.key ∷ h.row.rest) ≡ length h.relation.schema.columns =
      ap length (sym e) ∙ values_width c ok n values meant h.relation h.there ∙ (among_at c ok n.0 h.relation h.there).kept.width in (
        ap (λ rs. record c { relations = rs }) same,
        subst (λ vs. (refusal ≡ NoMemory) ⊎ ((done c.limits (database_of c) (resolved.Insert n vs)).outcome ≡ Refused refusal)) (sym e)
            (kept_out h.row.key h.row.rest h.relation h.there name.0 name.1 columns refusal h.row.why),
      )

  -- ---- the answer

  pub inserted_so : (relations : List RelationState) (result : Result TupleRef Refusal) → IfOk result (IsInsertedAt c.relations relations n.0 c.limits.rows values) → IfErr result (IsRefusedAt c.relations n.0 c.limits.rows values) → OnErr result (relations ≡ c.relations)
      → IsInsertedSo c n values result (record c { relations = relations })
  inserted_so relations (Ok r) h refused same =
      let grown = grown_from relations r h in
      record { consistent = grown.consistent; effect = grown.effect; came = record { inserted = h; same = refl }; refused = tt }
  inserted_so relations (Err e) h refused same =
      record { consistent = subst (λ rs. IsConsistent (record c { relations = rs })) (sym same) ok; effect = tt; came = tt; refused = refused_from relations e refused same }
