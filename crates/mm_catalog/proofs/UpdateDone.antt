-- A catalog of which rows of one table are updated: what it shows, and that it stays consistent.
use Rattle.std.proofs.Common.{◌≡◌, ◌≢◌, ℕ, zero, suc, ◌+◌, ◌<◌, ◌≤◌, Bool, true, false, cond, List, [], ◌∷◌, Some, None, refl, sym, ap, ◌∙◌, subst, arith, length, map, set, take, get_or, inl, inr}
use Rattle.std.specs.List.{All, AllPairs, list_all, list_any, slice_get}
use Rattle.std.specs.Option.{option_and_then}
use Rattle.std.specs.Prelude.{◌⊎◌, Result, Ok, Err, IfErr, OnErr, OnOk}
use Rattle.std.specs.FinMap.{get}
use Rattle.std.proofs.lemmas.Bool.{eq-eqb, or_parts, true≢false}
use Rattle.std.proofs.lemmas.List.Elements.{All-cons}
use Rattle.std.proofs.lemmas.Option.{slice_get-get_or, slice_get_within, slice_get_read}
use Rattle.common_lemmas.proofs.Places.{slice_get-inside}
use Rattle.common_lemmas.proofs.Elements.{All-at}
use Rattle.part_raw.specs.declared.tuple_ref.TupleRef.{TupleRef}
use Rattle.plain_tables.proofs.Sound.{update_keeps_sound}
use Rattle.plain_tables.specs.Databases.{Database}
use Rattle.plain_tables.specs.Doing.{assigned, assigned_references, picked, update, updated}
use Rattle.plain_tables.specs.Effects.{Changed, Refused, repeats}
use Rattle.plain_tables.specs.References.{IsSound, is_held, reference_of}
use Rattle.plain_tables.specs.ResolvedLaws.{AreAssignable, IsAssignable, OfTable, is_to_column}
use Rattle.plain_tables.specs.Tables.{Row, Table}
use Rattle.plain_tables.specs.declared.numbers.TableNumber.{TableNumber}
use Rattle.plain_tables.specs.declared.refusal.Refusal.{Refusal}
use Rattle.plain_tables.specs.declared.refusal.Refusal.TheVariants.{NoMemory, NoReferencedRow}
use Rattle.plain_tables.specs.declared.resolved.Assignment.{Assignment}
use Rattle.plain_tables.specs.declared.schema.Column.{Column}
use Rattle.mm_relation.specs.Reading.{Keys, cell_value}
use Rattle.mm_relation.specs.State.{RelationState, IsKept, linked_keys}
use Rattle.mm_catalog.specs.Assigned.{AreNotSet, AreToColumns, CellSet, IsNotUpdated, IsUpdated}
use Rattle.mm_catalog.specs.Cells.{IsCellOf, IsLinkOrNull, NamesNone}
use Rattle.mm_catalog.specs.Changes.{HasEffect}
use Rattle.mm_catalog.specs.Consistent.{IsConsistent}
use Rattle.mm_catalog.specs.Linked.{target_at}
use Rattle.mm_catalog.specs.Picked.{ArePicked, HoldsRows}
use Rattle.mm_catalog.specs.Seen.{database_of, plain_index, rows_of, table_of}
use Rattle.mm_catalog.specs.State.{CatalogState}
use Rattle.mm_catalog.proofs.Back.{lead_back}
use Rattle.mm_catalog.proofs.Among.{among_at, named_at, table_at, target_column}
use Rattle.mm_catalog.proofs.Deleting.{choice, choice_picks}
use Rattle.mm_catalog.proofs.Elsewhere.{consistent_rewritten, database_rewritten}
use Rattle.mm_catalog.proofs.Outlines.{keys_before}
use Rattle.mm_catalog.proofs.Referenced.{reference_held, reference_missing}
use Rattle.mm_catalog.proofs.RelationSets.{linked_set, row_wide, rows_set}
use Rattle.mm_catalog.proofs.RowSets.{AreApart}
use Rattle.mm_catalog.proofs.Shrunk.{PicksThese, length_picked}
use Rattle.mm_catalog.proofs.Tables.{database-get}
use Rattle.mm_catalog.proofs.UpdateNeeds.{current_front, sets_apart}
use Rattle.mm_catalog.proofs.CellRows.{read_value}
use Rattle.mm_catalog.proofs.Anywhere.{all_pass, not_all_pass}
use Rattle.mm_catalog.proofs.LinksHeld.{Contains-at, Contains-filter_map}
use Rattle.mm_catalog.proofs.RowLinks.{All-filter_map}

-- ---- assignments

not_alike : (xs : List Assignment) (column : ℕ) → list_any (is_to_column column) xs ≡ false → All (λ a. column ≡ a.column.0 → ⊥) xs
not_alike [] column e = λ k d l. absurd (omega (arith, l))
not_alike (x ∷ xs) column e =
    let parts = or_parts (is_to_column column x) (list_any (is_to_column column) xs) e in
    All-cons (λ (a : Assignment). column ≡ a.column.0 → ⊥) x xs (λ same. absurd (true≢false (sym (eq-eqb x.column.0 column (sym same)) ∙ parts.0))) (not_alike xs column parts.1)

pub assigned_apart : (xs : List Assignment) → repeats (λ a b. is_to_column a.column.0 b) xs ≡ false → AllPairs (λ a b. a.column.0 ≡ b.column.0 → ⊥) xs
assigned_apart [] e i j d below within = absurd (omega (arith, within))
assigned_apart (x ∷ xs) e zero (suc j) d below within =
    not_alike xs x.column.0 (or_parts (list_any (is_to_column x.column.0) xs) (repeats (λ a b. is_to_column a.column.0 b) xs) e).0 j d (omega arith)
assigned_apart (x ∷ xs) e (suc i) (suc j) d below within =
    assigned_apart xs (or_parts (list_any (is_to_column x.column.0) xs) (repeats (λ a b. is_to_column a.column.0 b) xs) e).1 i j d (omega arith) (omega arith)
assigned_apart xs e i j d below within = absurd (omega arith)

-- ---- the effect

module _ (tables : Database) (n : TableNumber) (assignments : List Assignment) (picks : Row → Bool) (table : Table) (there : slice_get tables n.0 ≡ Some table) where
  updated_there : list_all (is_held tables) (assigned_references table assignments) ≡ true → update tables n assignments picks ≡ record { database = set tables n.0 (updated assignments picks table); outcome = Changed (length (picked picks table)) }
  updated_there all = rw (there, all) refl

  refused_there : list_all (is_held tables) (assigned_references table assignments) ≡ false → (update tables n assignments picks).outcome ≡ Refused (NoReferencedRow None)
  refused_there missing = rw (there, missing) refl

module _ (c : CatalogState) (ok : IsConsistent c) (n : TableNumber) (assignments : List Assignment) (meant : OfTable n (database_of c) (AreAssignable (database_of c) assignments)) where
  -- the column of an assignment
  column_of : (s : RelationState) → slice_get c.relations n.0 ≡ Some s → (k : ℕ) (a : Assignment) → slice_get assignments k ≡ Some a → (0 < a.column.0) × ((column : Column) × (slice_get s.schema.columns a.column.0 ≡ Some column))
  unfolding table_of
  column_of s there k a at =
      let name = named_at c ok n.0 (slice_get_within c.relations n.0 s there) in
      let is = table_at c ok n.0 name.0 s meant.0 name.1 there meant.1 in
      let one = All-at (IsAssignable (database_of c) meant.0) assignments k a meant.2.each at in
      (one.behind_key, (one.of_column.0, ap (λ (t : Table). slice_get t.columns a.column.0) (sym is) ∙ one.of_column.1))

  -- what a call on the relation asks
  pub columns_of : (s : RelationState) → slice_get c.relations n.0 ≡ Some s → AreToColumns (length s.targets) assignments
  columns_of s there = record {
    behind_key = λ k d l. (column_of s there k (get_or assignments k d) (slice_get-get_or assignments k d l)).0;
    within = λ k d l.
        let at = column_of s there k (get_or assignments k d) (slice_get-get_or assignments k d l) in
        let inside = slice_get_within s.schema.columns (get_or assignments k d).column.0 at.1.0 at.1.1 in
        omega (arith, inside, (among_at c ok n.0 s there).kept.width);
    apart = assigned_apart assignments meant.2.apart;
  }

  -- why it is refused
  pub refused_with : (s : RelationState) → slice_get c.relations n.0 ≡ Some s → (why : Refusal) → AreNotSet (take n.0 c.relations) s.targets assignments why → (why ≡ NoMemory) ⊎ ((picks : Row → Bool) → (update (database_of c) n assignments picks).outcome ≡ Refused why)
  unfolding table_of
  refused_with s there why (inl none) = inl none
  refused_with s there why (inr (is, missing)) = inr (λ picks.
      let k = missing.0 in
      let a = missing.1 in
      let name = named_at c ok n.0 (slice_get_within c.relations n.0 s there) in
      let at = database-get c ok.named n.0 name.0 s name.1 there in
      let column = (column_of s there k a missing.2).1 in
      let lost = reference_missing c ok n.0 s there a.column.0 column.0 column.1 a.value (subst (λ t. NamesNone (take n.0 c.relations) t a.value) (target_column c ok n.0 s a.column.0 column.0 there column.1) missing.3) in
      refused_there (database_of c) n assignments picks (table_of c.relations name.0 s) at
      (not_all_pass (is_held (database_of c)) (assigned_references (table_of c.relations name.0 s) assignments) lost.0
      (Contains-filter_map (λ (x : Assignment). option_and_then (λ col. reference_of col x.value) (slice_get s.schema.columns x.column.0)) assignments a lost.0 (Contains-at assignments k a missing.2)
      (ap (option_and_then (λ col. reference_of col a.value)) column.1 ∙ lost.1)) lost.2)
      ∙ ap (λ r. Refused r) (sym is))

  module _ (rs : List TupleRef) (held : HoldsRows c n.0 rs) (once : AllPairs (λ q r. q ≢ r) rs) (relations : List RelationState) (u : IsUpdated c.relations relations n.0 rs assignments) where
    abbrev b : RelationState
    b = u.before

    abbrev a : RelationState
    a = u.after

    abbrev keys : Keys
    keys = linked_keys b.targets c.relations

    abbrev front : List RelationState
    front = take n.0 c.relations

    there : slice_get c.relations n.0 ≡ Some b
    there = u.rewritten.there

    same_keys : linked_keys b.targets front ≡ keys
    same_keys = keys_before b.targets c.relations n.0 (lead_back c ok n.0 b there)

    apart : AreApart (length b.targets) u.sets
    apart = sets_apart c ok n.0 b there front refl assignments (columns_of b there) u.sets u.cells

    name : (name : List ℕ) × (slice_get c.names n.0 ≡ Some name)
    name = named_at c ok n.0 (slice_get_within c.relations n.0 b there)

    kept : IsKept b
    kept = (among_at c ok n.0 b there).kept

    kept_now : IsKept a
    kept_now = All-at IsKept relations n.0 a u.kept u.rewritten.here

    -- each cell is read as its value
    read_as : (k : ℕ) (x : Assignment) (s : CellSet) → slice_get assignments k ≡ Some x → slice_get u.sets k ≡ Some s → (s.0 ≡ x.column) × (cell_value keys s.0.0 s.1 ≡ Some x.value)
    read_as k x s at here =
        let is = u.cells.each k x s at here in (
          is.0,
          ap (λ column. cell_value keys column.0 s.1) is.0 ∙ ap (λ ks. cell_value ks x.column.0 s.1) (sym same_keys)
              ∙ read_value front b.targets x.column.0 s.1 ∙ is.1.read,
        )

    linked_sets : All (λ s. IsLinkOrNull (target_at b.targets s.0.0) s.1) u.sets
    linked_sets k d l =
        let x = slice_get-inside assignments k (omega (arith, l, u.cells.count)) in
        let is = u.cells.each k x.0 (get_or u.sets k d) x.1 (slice_get-get_or u.sets k d l) in
        subst (λ column. IsLinkOrNull (target_at b.targets column.0) (get_or u.sets k d).1) (sym is.0) is.1.linked

    wide : (r : TupleRef) (row : _) → get b.rows r ≡ Some row → length b.targets ≤ length row.cells + 1
    wide r row at = row_wide (linked_keys b.targets front) b (current_front c ok n.0 b there front refl) r row at

    references_held : list_all (is_held (database_of c)) (assigned_references (table_of c.relations name.0 b) assignments) ≡ true
    unfolding table_of
    references_held =
        all_pass (is_held (database_of c)) (assigned_references (table_of c.relations name.0 b) assignments)
        (All-filter_map (λ ref. is_held (database_of c) ref ≡ true) (λ (x : Assignment). option_and_then (λ col. reference_of col x.value) (slice_get b.schema.columns x.column.0)) assignments
        (λ x ref (k, inside, here) e.
        let at = slice_get_read assignments (length assignments) k x refl inside (sym here) in
        let column = (column_of b there k x at).1 in
        let s = slice_get-inside u.sets k (omega (arith, slice_get_within assignments k x at, u.cells.count)) in
        let cell = (u.cells.each k x s.0 at s.1).1 in
        reference_held c ok n.0 b there x.column.0 column.0 column.1 x.value s.0.1
        (subst (λ t. IsCellOf front t x.value s.0.1) (target_column c ok n.0 b x.column.0 column.0 there column.1) cell)
        ref (sym (ap (option_and_then (λ col. reference_of col x.value)) column.1) ∙ e)))

    module _ (picks : Row → Bool) (picking : PicksThese keys b rs picks) where
      rows_now : rows_of (linked_keys a.targets c.relations) a ≡ map (λ row. cond (picks row) (assigned assignments row) row) (rows_of keys b)
      rows_now =
          ap (λ targets. rows_of (linked_keys targets c.relations) a) u.changed.keeps.targets
          ∙ rows_set b a rs u.sets u.changed kept kept_now (held b there) once apart wide keys kept.width assignments u.cells.count read_as picks picking

      table_now : table_of c.relations name.0 a ≡ updated assignments picks (table_of c.relations name.0 b)
      unfolding table_of
      table_now = λ i. record {
        name = name.0;
        columns = (u.changed.keeps.schema i).columns;
        indexes = map plain_index (u.changed.keeps.declared i);
        rows = rows_now i;
      }

      effect_now : update (database_of c) n assignments picks ≡ record { database = set (database_of c) n.0 (updated assignments picks (table_of c.relations name.0 b)); outcome = Changed (length (picked picks (table_of c.relations name.0 b))) }
      effect_now = updated_there (database_of c) n assignments picks (table_of c.relations name.0 b) (database-get c ok.named n.0 name.0 b name.1 there) references_held

      database_now : database_of (record c { relations = relations }) ≡ (update (database_of c) n assignments picks).database
      database_now =
          database_rewritten c ok n.0 relations b a u.rewritten name.0 name.1
          ∙ ap (set (database_of c) n.0) table_now ∙ ap (λ e. e.database) (sym effect_now)

      pub has_effect : HasEffect c (record c { relations = relations }) (update (database_of c) n assignments picks) (length rs)
      unfolding table_of
      has_effect = record {
        database = database_now;
        limits = refl;
        outcome = ap (λ e. e.outcome) effect_now ∙ ap (λ m. Changed m) (length_picked keys b kept rs picks picking (held b there) once);
      }

    pub stays_consistent : IsConsistent (record c { relations = relations })
    stays_consistent =
        let sound : IsSound c.limits (database_of (record c { relations = relations })) =
        subst (IsSound c.limits) (sym (database_now (choice c ok n rs b there (held b there) once) (choice_picks c ok n rs b there (held b there) once)))
        (update_keeps_sound c.limits (database_of c) n assignments (choice c ok n rs b there (held b there) once) ok.sound meant) in
        consistent_rewritten c ok n.0 relations b a u.rewritten u.kept u.current
        (linked_set b a rs u.sets u.changed kept kept_now (held b there) once apart wide linked_sets (among_at c ok n.0 b there).linked) u.counted sound

  -- ---- what a call answers

  module _ (rs : List TupleRef) (held : HoldsRows c n.0 rs) (once : AllPairs (λ q r. q ≢ r) rs) (relations : List RelationState) where
    pub updated_consistent : {A E : Type 0} (r : Result A E) → OnOk r (IsUpdated c.relations relations n.0 rs assignments) → OnErr r (relations ≡ c.relations) → IsConsistent (record c { relations = relations })
    updated_consistent (Ok x) u same = stays_consistent rs held once relations u
    updated_consistent (Err e) u same = subst (λ rs'. IsConsistent (record c { relations = rs' })) (sym same) ok

    pub updated_effect : {A E : Type 0} (r : Result A E) → OnOk r (IsUpdated c.relations relations n.0 rs assignments) → OnOk r ((picks : Row → Bool) → ArePicked c n.0 rs picks → HasEffect c (record c { relations = relations }) (update (database_of c) n assignments picks) (length rs))
    updated_effect (Ok x) u = λ picks picking. has_effect rs held once relations u picks (λ r here. picking u.before r u.rewritten.there here)
    updated_effect (Err e) u = tt

    pub updated_refused : {A : Type 0} (r : Result A Refusal) → IfErr r (IsNotUpdated c.relations n.0 assignments) → IfErr r (λ why. (why ≡ NoMemory) ⊎ ((picks : Row → Bool) → (update (database_of c) n assignments picks).outcome ≡ Refused why))
    updated_refused (Ok x) h = tt
    updated_refused (Err e) h = refused_with h.0 h.1 e h.2
