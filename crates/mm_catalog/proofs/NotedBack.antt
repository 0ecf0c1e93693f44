-- A catalog of which rows were updated while what stood in their cells was noted: the outline it had is that of its rows with those cells.
use Rattle.std.proofs.Common.{◌≡◌, ◌≢◌, ℕ, ◌+◌, ◌-◌, ◌<◌, ◌≤◌, ◌++◌, Bool, List, Some, IsSome, is_some, refl, sym, ap, ◌∙◌, subst, arith, length, map, set, take, get_or, inl, inr}
use Rattle.std.specs.Prelude.{◌⊎◌, IsTrue, Result, Ok, Err, IfErr, OnErr, OnOk}
use Rattle.std.specs.List.{All, AllPairs, Contains, slice_get}
use Rattle.std.specs.Option.{option_map}
use Rattle.std.specs.FinMap.{get, len}
use Rattle.std.proofs.lemmas.List.{length-map, map-set, set-set}
use Rattle.std.proofs.lemmas.List.Elements.{All-contains, All-map}
use Rattle.std.proofs.lemmas.Option.{get_or_from_slice_get, same_Some, slice_get-get_or, slice_get-map, slice_get_within}
use Rattle.common_lemmas.proofs.Elements.{All-at}
use Rattle.common_lemmas.proofs.Pairs.{AllPairs-map}
use Rattle.common_lemmas.proofs.Places.{set_itself, slice_get-inside, slice_get_set}
use Rattle.part_raw.specs.declared.tuple_ref.TupleRef.{TupleRef}
use Rattle.part_raw.proofs.Tuples.{held_tuple}
use Rattle.plain_tables.specs.Databases.{Database}
use Rattle.plain_tables.specs.Doing.{update}
use Rattle.plain_tables.specs.Effects.{Refused}
use Rattle.plain_tables.specs.ResolvedLaws.{AreAssignable, OfTable}
use Rattle.plain_tables.specs.Tables.{Row as PlainRow}
use Rattle.plain_tables.specs.declared.numbers.TableNumber.{TableNumber}
use Rattle.plain_tables.specs.declared.refusal.Refusal.{Refusal}
use Rattle.plain_tables.specs.declared.refusal.Refusal.TheVariants.{NoMemory}
use Rattle.plain_tables.specs.declared.resolved.Assignment.{Assignment}
use Rattle.mm_relation.specs.Reading.{Keys}
use Rattle.mm_relation.specs.Rows.{Row}
use Rattle.mm_relation.specs.Settings.{with_cells}
use Rattle.mm_relation.specs.State.{RelationState, linked_keys}
use Rattle.mm_relation.proofs.Setting.{with_cells-key}
use Rattle.mm_catalog.specs.Assigned.{AreToColumns, CellSet, IsNotUpdated, IsUpdated}
use Rattle.mm_catalog.specs.ChangedBack.{cells_of_row}
use Rattle.mm_catalog.specs.Changes.{HasEffect}
use Rattle.mm_catalog.specs.Consistent.{IsConsistent}
use Rattle.mm_catalog.specs.Noted.{IsNoted, cells_to, owing}
use Rattle.mm_catalog.specs.Outline.{HasCellsChanged, HaveChanged, RelationOutline, changed_at, changed_back, outline_of, relation_outline, with_row_cells}
use Rattle.mm_catalog.specs.Picked.{ArePicked, HoldsRows, seen_values}
use Rattle.mm_catalog.specs.Seen.{database_of, values_of}
use Rattle.mm_catalog.specs.State.{CatalogState}
use Rattle.mm_catalog.proofs.Among.{among_at}
use Rattle.mm_catalog.proofs.CellsBack.{cells_are, cells_beside}
use Rattle.mm_catalog.proofs.LinksHeld.{Contains-at}
use Rattle.mm_catalog.proofs.Noted.{all_at, columns_to, count_at, length_with, row_of_at, set_back}
use Rattle.mm_catalog.proofs.Outlined.{changed_here, outline_here, outlines_rewritten}
use Rattle.mm_catalog.proofs.Outlines.{outline, outlines, same_keys}
use Rattle.mm_catalog.proofs.Owing.{consistent_aside, database_aside}
use Rattle.mm_catalog.proofs.RelationSets.{row_wide}
use Rattle.mm_catalog.proofs.RowSets.{AreApart}
use Rattle.mm_catalog.proofs.UpdateDone.{columns_of, refused_with, updated_consistent, updated_effect}
use Rattle.mm_catalog.proofs.UpdateNeeds.{few_below, sets_apart}

module _ (c : CatalogState) (ok : IsConsistent c) (n : TableNumber) (assignments : List Assignment) (meant : OfTable n (database_of c) (AreAssignable (database_of c) assignments)) where
  module _ (refs : List TupleRef) (held : HoldsRows c n.0 refs) (once : AllPairs (λ q r. q ≢ r) refs) (relations : List RelationState) (cells : List CellSet) (h : IsNoted c.relations relations n.0 refs assignments cells) where
    abbrev b : RelationState
    b = h.before

    abbrev t : RelationState
    t = owing (length refs) b

    -- the catalog of which the relation owes the rows
    abbrev owed : CatalogState
    owed = record c { relations = set c.relations n.0 t }

    abbrev e : CatalogState
    e = record c { relations = relations }

    abbrev u : IsUpdated owed.relations relations n.0 refs assignments
    u = h.updated

    abbrev a : RelationState
    a = u.after

    fine : IsConsistent owed
    fine = consistent_aside c ok n.0 b.hidden t.owed b h.there

    database : database_of owed ≡ database_of c
    database = database_aside c ok n.0 b.hidden t.owed b h.there

    means : OfTable n (database_of owed) (AreAssignable (database_of owed) assignments)
    means = subst (λ (d : Database). OfTable n d (AreAssignable d assignments)) (sym database) meant

    here : slice_get owed.relations n.0 ≡ Some t
    here = slice_get_set c.relations n.0 t (slice_get_within c.relations n.0 b h.there)

    holds : HoldsRows owed n.0 refs
    holds s at = subst (λ (x : RelationState). All (λ r. IsSome (get x.rows r)) refs) (same_Some t s (sym here ∙ at)) (held b h.there)

    pub noted_consistent : IsConsistent e
    noted_consistent = updated_consistent owed fine n assignments means refs holds once relations {A = ℕ} {E = ℕ} (Ok 0) u tt

    keys_same : linked_keys b.targets owed.relations ≡ linked_keys b.targets c.relations
    keys_same =
        same_keys b.targets owed.relations c.relations
        (map-set outline c.relations n.0 t ∙ set_itself (outlines c.relations) n.0 (outline b) (slice_get-map outline c.relations n.0 ∙ ap (option_map outline) h.there))

    picked_still : (picks : PlainRow → Bool) → ArePicked c n.0 refs picks → ArePicked owed n.0 refs picks
    picked_still picks picking s r at =
        subst (λ (x : RelationState). IsSome (get x.rows r) → (Contains refs r → IsTrue (picks (seen_values owed x r))) × (IsTrue (picks (seen_values owed x r)) → Contains refs r)) (same_Some t s (sym here ∙ at))
        (λ some. subst (λ (keys : Keys). (Contains refs r → IsTrue (picks (values_of keys (length b.schema.columns) b.rows r))) × (IsTrue (picks (values_of keys (length b.schema.columns) b.rows r)) → Contains refs r)) (sym keys_same) (picking b r h.there some))

    pub noted_effect : (picks : PlainRow → Bool) → ArePicked c n.0 refs picks → HasEffect c e (update (database_of c) n assignments picks) (length refs)
    noted_effect picks picking =
        let done = updated_effect owed fine n assignments means refs holds once relations {A = ℕ} {E = ℕ} (Ok 0) u picks (picked_still picks picking) in
        subst (λ (d : Database). HasEffect c e (update d n assignments picks) (length refs)) database (record { database = done.database; limits = refl; outcome = done.outcome })

    -- ---- the outline

    was : u.before ≡ t
    was = same_Some u.before t (sym u.rewritten.there ∙ here)

    to : AreToColumns (length b.targets) assignments
    to = columns_of c ok n assignments meant b h.there

    apart : AreApart (length u.before.targets) u.sets
    apart = sets_apart owed fine n.0 u.before u.rewritten.there (take n.0 owed.relations) refl assignments (columns_of owed fine n assignments means u.before u.rewritten.there) u.sets u.cells

    within : (r : TupleRef) (row : Row) → get b.rows r ≡ Some row → All (λ (x : Assignment). x.column.0 ≤ length row.cells) assignments
    within r row at k d l = omega (arith, to.within k d l, row_wide (linked_keys b.targets c.relations) b (among_at c ok n.0 b h.there).current r row at)

    long : (r : TupleRef) (row : Row) → get b.rows r ≡ Some row → length (cells_to assignments row) ≡ length assignments
    long r row at =
        sym (length-map (cells_to assignments row) (λ (x : CellSet). x.0)) ∙ ap length (columns_to row assignments to.behind_key (within r row at)) ∙ length-map assignments (λ (x : Assignment). x.column)

    row_at : (k : ℕ) (r : TupleRef) → slice_get refs k ≡ Some r → (row : Row) × (get b.rows r ≡ Some row)
    row_at k r at = held_tuple b.rows r (All-at (λ q. IsSome (get b.rows q)) refs k r (held b h.there) at)

    row_now : (k : ℕ) (r : TupleRef) (row : Row) → slice_get refs k ≡ Some r → get b.rows r ≡ Some row → get a.rows r ≡ Some (with_cells u.sets row)
    row_now k r row at found = u.changed.rows.changed r (Contains-at refs k r at) ∙ ap (λ (x : RelationState). option_map (with_cells u.sets) (get x.rows r)) was ∙ ap (option_map (with_cells u.sets)) found

    own : (k : ℕ) (r : TupleRef) (row : Row) → slice_get refs k ≡ Some r → get b.rows r ≡ Some row → cells_of_row (length assignments) cells k ≡ cells_to assignments row
    own k r row at found = ap (λ cs. cells_of_row (length assignments) cs k) h.were ∙ row_of_at b assignments long refs (held b h.there) k r row at found

    beside : (row : Row) (i : ℕ) → All (λ (x : Assignment). x.column.0 ≢ i + 1) assignments → slice_get (with_cells u.sets row).cells i ≡ slice_get row.cells i
    beside row i others =
        let one : i + 1 - 1 ≡ i = omega arith in
        subst (λ m. slice_get (with_cells u.sets row).cells m ≡ slice_get row.cells m) one
        (cells_beside u.sets row (i + 1) (omega arith) apart.behind
        (λ j d l same.
        let x = slice_get-inside assignments j (omega (arith, l, u.cells.count)) in
        let by = u.cells.each j x.0 (get_or u.sets j d) x.1 (slice_get-get_or u.sets j d l) in
        All-at (λ (y : Assignment). y.column.0 ≢ i + 1) assignments j x.0 others x.1 (ap (λ q. q.0) (sym by.0) ∙ same)))

    row_back : (k : ℕ) (r : TupleRef) → slice_get refs k ≡ Some r → get b.rows r ≡ option_map (with_cells (cells_of_row (length assignments) cells k)) (get a.rows r)
    row_back k r at =
        let row = row_at k r at in
        row.1
        ∙ ap (λ x. Some x) (sym (set_back row.0 assignments to.behind_key (within r row.0 row.1) (with_cells u.sets row.0) (with_cells-key u.sets row.0) (length_with u.sets row.0) (beside row.0)))
        ∙ ap (λ cs. Some (with_cells cs (with_cells u.sets row.0))) (sym (own k r row.0 at row.1))
        ∙ ap (option_map (with_cells (cells_of_row (length assignments) cells k))) (sym (row_now k r row.0 at row.1))

    rows_back : with_row_cells refs (length assignments) cells a.rows ≡ b.rows
    rows_back =
        cells_are a.rows (length assignments) refs cells b.rows once row_back (λ r no. sym (u.changed.rows.others r no ∙ ap (λ (x : RelationState). get x.rows r) was))

    abbrev back : RelationOutline → RelationOutline
    back = changed_back refs (length assignments) cells

    owed_now : a.owed ≡ b.owed + length refs
    owed_now = u.changed.keeps.owed ∙ ap (λ (x : RelationState). x.owed) was

    targets_now : a.targets ≡ b.targets
    targets_now = u.changed.keeps.targets ∙ ap (λ (x : RelationState). x.targets) was

    hidden_now : a.hidden ≡ b.hidden
    hidden_now = u.changed.keeps.hidden ∙ ap (λ (x : RelationState). x.hidden) was

    again : back (relation_outline a) ≡ relation_outline b
    again =
        let schema = u.changed.keeps.schema ∙ ap (λ (x : RelationState). x.schema) was in
        let declared = u.changed.keeps.declared ∙ ap (λ (x : RelationState). x.declared) was in
        let counted = u.changed.keeps.counted ∙ ap (λ (x : RelationState). x.counted) was in
        let fewer : a.owed - length refs ≡ b.owed = omega (arith, owed_now) in
        λ i. record { schema = schema i; targets = targets_now i; declared = declared i; counted = counted i; rows = rows_back i; hidden = hidden_now i; owed = fewer i }

    abbrev before : List RelationOutline
    before = map relation_outline c.relations

    relations_back : changed_at back n.0 (map relation_outline relations) ≡ before
    relations_back =
        changed_here back n.0 (map relation_outline relations) (relation_outline a) (outline_here owed.relations relations n.0 u.before a u.rewritten)
        ∙ ap (λ (os : List RelationOutline). set os n.0 (back (relation_outline a)))
        (outlines_rewritten owed.relations relations n.0 u.before a u.rewritten ∙ ap (λ (os : List RelationOutline). set os n.0 (relation_outline a)) (map-set relation_outline c.relations n.0 t)
        ∙ set-set before n.0 (relation_outline t) (relation_outline a))
        ∙ set-set before n.0 (relation_outline a) (back (relation_outline a)) ∙ ap (set before n.0) again
        ∙ set_itself before n.0 (relation_outline b) (slice_get-map relation_outline c.relations n.0 ∙ ap (option_map relation_outline) h.there)

    column_at : (row : Row) → map (λ (x : CellSet). x.0) (cells_to assignments row) ≡ map (λ (x : Assignment). x.column) assignments → (i : ℕ) (d : CellSet) → i < length (cells_to assignments row)
        → (x : Assignment) × (slice_get assignments i ≡ Some x) × ((get_or (cells_to assignments row) i d).0 ≡ x.column)
    column_at row same i d l =
        let cs = cells_to assignments row in
        let some = sym (length-map cs (λ (x : CellSet). x.0)) ∙ ap length same ∙ length-map assignments (λ (x : Assignment). x.column) in
        let x = slice_get-inside assignments i (omega (arith, l, some)) in (
          x.0,
          x.1,
          same_Some (get_or cs i d).0 x.0.column
              (sym (slice_get-map (λ (y : CellSet). y.0) cs i ∙ ap (option_map (λ (y : CellSet). y.0)) (slice_get-get_or cs i d l)) ∙ ap (λ ys. slice_get ys i) same
              ∙ slice_get-map (λ (y : Assignment). y.column) assignments i ∙ ap (option_map (λ (y : Assignment). y.column)) x.1),
        )

    apart_at : (k : ℕ) → k < length refs → AllPairs (λ (x y : CellSet). x.0.0 ≡ y.0.0 → ⊥) (cells_of_row (length assignments) cells k)
    apart_at k l =
        let r = slice_get-inside refs k l in
        let row = row_at k r.0 r.1 in
        let same = columns_to row.0 assignments to.behind_key (within r.0 row.0 row.1) in
        subst (AllPairs (λ (x y : CellSet). x.0.0 ≡ y.0.0 → ⊥)) (sym (own k r.0 row.0 r.1 row.1))
        (λ i j d below m alike.
        let x = column_at row.0 same i d (omega (arith, below, m)) in
        let y = column_at row.0 same j d m in
        to.apart i j x.0 below (slice_get_within assignments j y.0 y.1)
        (ap (λ (z : Assignment). z.column.0) (get_or_from_slice_get assignments i x.0 x.0 x.1) ∙ ap (λ q. q.0) (sym x.2) ∙ alike ∙ ap (λ q. q.0) y.2
        ∙ ap (λ (z : Assignment). z.column.0) (sym (get_or_from_slice_get assignments j y.0 x.0 y.1))))

    narrow : length assignments ≤ length b.targets
    narrow =
        let few = few_below (map (λ (x : Assignment). x.column.0) assignments) (length b.targets)
        (AllPairs-map (λ (x : Assignment). x.column.0) (λ (x y : Assignment). x.column.0 ≡ y.column.0 → ⊥) (λ x y. x ≢ y) (λ x y p. p) assignments to.apart)
        (All-map (λ m. m < length b.targets) (λ (x : Assignment). x.column.0) assignments to.within) in
        omega (arith, few, length-map assignments (λ (x : Assignment). x.column.0))

    pub noted_outlined : HasCellsChanged (outline_of c) (outline_of e) n.0 refs (length assignments) cells
    noted_outlined = record {
      owes = record {
        relation = relation_outline a;
        there = outline_here owed.relations relations n.0 u.before a u.rewritten;
        held = λ k d l.
            let at = slice_get-get_or refs k d l in
            let row = row_at k (get_or refs k d) at in
            ap is_some (row_now k (get_or refs k d) row.0 at row.1);
        once = once;
        owed = omega (arith, owed_now, ap len hidden_now, h.few);
        count = ap length h.were ∙ count_at b assignments long refs (held b h.there);
        narrow = subst (λ targets. length assignments ≤ length targets) (sym targets_now) narrow;
        behind_key = subst (All (λ (x : CellSet). 0 < x.0.0)) (sym h.were)
            (all_at b assignments (λ (x : CellSet). 0 < x.0.0) (λ x y among is. subst (λ q. 0 < q.0) (sym is) (All-contains (λ (z : Assignment). 0 < z.column.0) assignments x to.behind_key among)) refs);
        columns = subst (λ targets. All (λ (x : CellSet). x.0.0 < length targets) cells) (sym targets_now)
            (subst (All (λ (x : CellSet). x.0.0 < length b.targets)) (sym h.were)
            (all_at b assignments (λ (x : CellSet). x.0.0 < length b.targets) (λ x y among is. subst (λ q. q.0 < length b.targets) (sym is) (All-contains (λ (z : Assignment). z.column.0 < length b.targets) assignments x to.within among)) refs));
        apart = apart_at;
      };
      others = λ i. record { limits = c.limits; names = c.names; relations = relations_back i };
    }

  pub not_noted : {A : Type 0} (r : Result A Refusal) → IfErr r (λ why. (why ≡ NoMemory) ⊎ IsNotUpdated c.relations n.0 assignments why) → IfErr r (λ why. (why ≡ NoMemory) ⊎ ((picks : PlainRow → Bool) → (update (database_of c) n assignments picks).outcome ≡ Refused why))
  not_noted (Ok x) told = tt
  not_noted (Err why) (inl memory) = inl memory
  not_noted (Err why) (inr told) = refused_with c ok n assignments meant told.0 told.1 why told.2

  -- ---- what a call answers

  module _ (refs : List TupleRef) (held : HoldsRows c n.0 refs) (once : AllPairs (λ q r. q ≢ r) refs) (relations : List RelationState) where
    pub note_consistent : {A E : Type 0} (r : Result A E) (cells : List CellSet) → OnOk r (IsNoted c.relations relations n.0 refs assignments cells) → OnErr r (relations ≡ c.relations) → IsConsistent (record c { relations = relations })
    note_consistent (Ok x) cells noted same = noted_consistent refs held once relations cells noted
    note_consistent (Err why) cells noted same = subst (λ rs. IsConsistent (record c { relations = rs })) (sym same) ok

    pub note_effect : {A E : Type 0} (r : Result A E) (cells : List CellSet) → OnOk r (IsNoted c.relations relations n.0 refs assignments cells)
        → OnOk r ((picks : PlainRow → Bool) → ArePicked c n.0 refs picks → HasEffect c (record c { relations = relations }) (update (database_of c) n assignments picks) (length refs))
    note_effect (Ok x) cells noted = noted_effect refs held once relations cells noted
    note_effect (Err why) cells noted = tt

    pub note_outline : {A E : Type 0} (r : Result A E) (cells : List CellSet) → OnOk r (IsNoted c.relations relations n.0 refs assignments cells)
        → (first all : List CellSet) → OnOk r (all ≡ first ++ cells) → OnOk r (HaveChanged c (record c { relations = relations }) n.0 refs (length assignments) first all)
    note_outline (Ok x) cells noted first all list = record { cells = cells; changed = noted_outlined refs held once relations cells noted; list = list }
    note_outline (Err why) cells noted first all list = tt
