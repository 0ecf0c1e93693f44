-- A catalog of which rows of one table are deleted: what it shows, and that it stays consistent.
use Rattle.std.proofs.Common.{◌≡◌, ◌≢◌, ℕ, ◌<◌, ◌≤◌, ◌-◌, Bool, true, false, not, IsTrue, List, [], ◌++◌, Some, IsSome, is_some, refl, sym, ap, ◌∙◌, subst, arith, length, map, set, take, drop, filter, get_or, length-take}
use Rattle.std.specs.List.{All, AllPairs, Any, Contains, count_by, list_any, slice_get}
use Rattle.std.specs.Option.{option_and_then, option_map_or}
use Rattle.std.specs.Ordering.{is_eq}
use Rattle.std.specs.Prelude.{Result, Ok, Err, IfErr, OnOk, OnErr}
use Rattle.std.specs.FinMap.{get}
use Rattle.std.proofs.lemmas.Cmp.{eq_by_cmp_equiv}
use Rattle.std.proofs.lemmas.List.Elements.{All-contains, Contains-get_or}
use Rattle.std.proofs.lemmas.List.Folds.{Any-from_list_any, list_any-from_Any, list_any_none}
use Rattle.std.proofs.lemmas.Option.{none-some, slice_get_within}
use Rattle.common_lemmas.proofs.Orders.{is_eq-Equal}
use Rattle.common_lemmas.proofs.Places.{slice_get-inside}
use Rattle.common_lemmas.proofs.Elements.{Contains-filter, Contains-from_filter, Contains-map, Contains-from_map}
use Rattle.part_raw.specs.declared.tuple_ref.TupleRef.{TupleRef}
use Rattle.part_raw.proofs.Tuples.{held_tuple}
use Rattle.plain_tables.specs.Doing.{delete, picked, without}
use Rattle.plain_tables.specs.Effects.{Changed, Refused}
use Rattle.plain_tables.specs.Databases.{Database}
use Rattle.plain_tables.specs.References.{IsSound, is_referenced}
use Rattle.plain_tables.specs.Tables.{Table, key_cmp}
use Rattle.plain_tables.specs.Values.{value_cmp}
use Rattle.plain_tables.specs.declared.numbers.TableNumber.{TableNumber}
use Rattle.plain_tables.specs.declared.refusal.Refusal.{Refusal}
use Rattle.plain_tables.specs.declared.refusal.Refusal.TheVariants.{RowIsReferenced}
use Rattle.plain_tables.specs.declared.value.Value.{Value}
use Rattle.plain_tables.proofs.Rows.{key_cmp_total}
use Rattle.plain_tables.proofs.Sound.{delete_keeps_sound}
use Rattle.plain_tables.proofs.Values.{value_cmp-exact}
use Rattle.mm_relation.specs.Rows.{Row, referrers_at}
use Rattle.mm_relation.specs.Reading.{Keys, key_at}
use Rattle.mm_relation.specs.State.{tree_list, RelationState, IsKept, IsCurrent, linked_keys}
use Rattle.mm_catalog.specs.State.{CatalogState}
use Rattle.mm_catalog.specs.Seen.{database_of, table_of, rows_of, row_values, values_of, plain_index}
use Rattle.mm_catalog.specs.Linked.{is_link_to, links_to, relation_links, HasLinksOrNulls}
use Rattle.mm_catalog.specs.Consistent.{IsConsistent, AreCounted}
use Rattle.mm_catalog.specs.Changes.{HasEffect}
use Rattle.mm_catalog.specs.Picked.{ArePicked}
use Rattle.mm_catalog.specs.Recounted.{HaveReferrers, IsRewritten}
use Rattle.mm_catalog.specs.Deleted.{AreDeleted, AreRemoved, AreUnlinked, AllFree, AnyReferenced, IsFree, IsReferenced}
use Rattle.mm_catalog.proofs.Lists.{get-take}
use Rattle.mm_catalog.proofs.Among.{among_at, named_at, some_columns}
use Rattle.mm_catalog.proofs.Elsewhere.{rewritten_from, kept_from, counted_from, current_beside_old, consistent_rewritten, database_rewritten}
use Rattle.mm_catalog.proofs.Counted.{counted_down}
use Rattle.mm_catalog.proofs.Referrers.{not_referenced, referenced}
use Rattle.mm_catalog.proofs.Removing.{links_within}
use Rattle.mm_catalog.proofs.Shown.{compared}
use Rattle.mm_catalog.proofs.Shrunk.{PicksThese, length_picked, rows_left}
use Rattle.mm_catalog.proofs.Tables.{database-get}

-- ---- what is done to plain tables, where the table is there

module _ (tables : Database) (n : TableNumber) (picks : List Value → Bool) (table : Table) (there : slice_get tables n.0 ≡ Some table) where
  deleted_there : list_any (is_referenced tables table.name) (picked picks table) ≡ false → delete tables n picks ≡ record { database = set tables n.0 (without picks table); outcome = Changed (length (picked picks table)) }
  deleted_there none = rw (there, none) refl

  refused_there : list_any (is_referenced tables table.name) (picked picks table) ≡ true → delete tables n picks ≡ record { database = tables; outcome = Refused RowIsReferenced }
  refused_there some = rw (there, some) refl

module _ (c : CatalogState) (ok : IsConsistent c) where
  module _ (n : TableNumber) (refs : List TupleRef) (s : RelationState) (there : slice_get c.relations n.0 ≡ Some s) (held : All (λ r. IsSome (get s.rows r)) refs) (once : AllPairs (λ q r. q ≢ r) refs) where
    abbrev keys : Keys
    keys = linked_keys s.targets c.relations

    abbrev width : ℕ
    width = length s.schema.columns

    abbrev seen : TupleRef → List Value
    seen = values_of keys width s.rows

    seen_row : (r : TupleRef) (row : Row) → get s.rows r ≡ Some row → seen r ≡ row_values keys width row
    unfolding values_of
    seen_row r row at = ap (λ o. option_map_or (row_values keys width) o []) at

    -- ---- a choice that picks just these rows

    abbrev pub choice : List Value → Bool
    choice v = list_any (λ r. is_eq (key_cmp v (seen r))) refs

    same_key : (q r : TupleRef) → IsSome (get s.rows q) → IsSome (get s.rows r) → is_eq (key_cmp (seen q) (seen r)) ≡ true → q ≡ r
    same_key q r hq hr e =
        let t = held_tuple s.rows q hq in
        let u = held_tuple s.rows r hr in
        let order : key_cmp (seen q) (seen r) ≡ value_cmp t.0.key u.0.key =
        ap (λ v. key_cmp v (seen r)) (seen_row q t.0 t.1) ∙ ap (key_cmp (row_values keys width t.0)) (seen_row r u.0 u.1) ∙ compared keys width t.0 u.0 (some_columns c ok n.0 s there) in
        let one : t.0.key ≡ u.0.key = (value_cmp-exact t.0.key u.0.key).0 (is_eq-Equal (value_cmp t.0.key u.0.key) (ap is_eq (sym order) ∙ e)) in
        let alike : key_at s.rows q ≡ key_at s.rows r =
        ap (option_and_then (λ (x : Row). Some x.key)) t.1 ∙ ap (λ k. Some k) one ∙ sym (ap (option_and_then (λ (x : Row). Some x.key)) u.1) in
        (among_at c ok n.0 s there).kept.keyed.keys_differ.apart q r hq hr alike

    pub choice_picks : PicksThese keys s refs choice
    choice_picks r here = (
      λ h. list_any-from_Any (λ q. is_eq (key_cmp (seen r) (seen q))) refs
          (h.0, r, h.1, h.2, (eq_by_cmp_equiv key_cmp_total).refl (seen r)),
      λ e. let found = Any-from_list_any (λ q. is_eq (key_cmp (seen r) (seen q))) refs e in
          let member : Contains refs found.1 = (found.0, found.2, found.3) in
          subst (Contains refs) (sym (same_key r found.1 here (All-contains (λ q. IsSome (get s.rows q)) refs found.1 held member) found.4)) member,
    )

    -- ---- whether a row that is picked is referenced

    module _ (name : List ℕ) (named : slice_get c.names n.0 ≡ Some name) (picks : List Value → Bool) (picking : PicksThese keys s refs picks) where
      abbrev table : Table
      table = table_of c.relations name s

      table_there : slice_get (database_of c) n.0 ≡ Some table
      table_there = database-get c ok.named n.0 name s named there

      none_referenced : All (IsFree s) refs → list_any (is_referenced (database_of c) table.name) (picked picks table) ≡ false
      unfolding table_of rows_of
      none_referenced free =
          list_any_none (is_referenced (database_of c) name) (filter picks (map seen (tree_list s.by_key)))
          (λ k d l.
          let v = get_or (filter picks (map seen (tree_list s.by_key))) k d in
          let from = Contains-from_filter picks (map seen (tree_list s.by_key)) v (Contains-get_or (filter picks (map seen (tree_list s.by_key))) k d l) in
          let q = Contains-from_map seen (tree_list s.by_key) v from.0 in
          let here : IsSome (get s.rows q.0) = All-contains (λ r. IsSome (get s.rows r)) (tree_list s.by_key) q.0 (among_at c ok n.0 s there).kept.keyed.lists.held q.1 in
          let row = held_tuple s.rows q.0 here in
          let chosen : Contains refs q.0 = (picking q.0 here).1 (subst (λ w. IsTrue (picks w)) (sym q.2) from.1) in
          let zero : referrers_at s.referrers q.0 ≡ 0 = All-contains (IsFree s) refs q.0 free chosen in
          ap (is_referenced (database_of c) name) (sym q.2 ∙ seen_row q.0 row.0 row.1)
          ∙ not_referenced c ok n.0 name s q.0 row.0 named there row.1 zero)

      some_referenced : Any (IsReferenced s) refs → list_any (is_referenced (database_of c) table.name) (picked picks table) ≡ true
      unfolding table_of rows_of
      some_referenced found =
          let r = found.1 in
          let row = found.4.0 in
          let at = found.4.1 in
          let here : IsSome (get s.rows r) = ap is_some at in
          let member : Contains refs r = (found.0, found.2, found.3) in
          let listed : Contains (map seen (tree_list s.by_key)) (seen r) = Contains-map seen (tree_list s.by_key) r ((among_at c ok n.0 s there).kept.keyed.lists.listed r here) in
          let inside = Contains-filter picks (map seen (tree_list s.by_key)) (seen r) listed ((picking r here).0 member) in
          list_any-from_Any (is_referenced (database_of c) name) (filter picks (map seen (tree_list s.by_key))) (
            inside.0,
            seen r,
            inside.1,
            inside.2,
            ap (is_referenced (database_of c) name) (seen_row r row at) ∙ referenced c ok n.0 name s r row named there at found.4.2,
          )

      pub refused_with : Any (IsReferenced s) refs → (delete (database_of c) n picks).outcome ≡ Refused RowIsReferenced
      refused_with found = ap (λ e. e.outcome) (refused_there (database_of c) n picks table table_there (some_referenced found))

    -- ---- what is left

    module _ (front : List RelationState) (a : RelationState) (unlinked : AreUnlinked (take n.0 c.relations) front s a) (removed : AreRemoved s a refs) (kept : IsKept a) (current : IsCurrent (linked_keys s.targets (take n.0 c.relations)) a) (free : All (IsFree s) refs) where
      abbrev joined : List RelationState
      joined = front ++ set (drop n.0 c.relations) 0 a

      before_at : (r : TupleRef) (row : Row) → get a.rows r ≡ Some row → get s.rows r ≡ Some row
      before_at r row at = sym (removed.others r (λ h. none-some row (sym (removed.gone r h) ∙ at))) ∙ at

      rewritten : IsRewritten c.relations joined n.0 s a
      rewritten =
          rewritten_from c.relations front n.0 s a there unlinked.counted.recounted removed.keeps
          (λ r held some. ap (option_and_then (λ (x : Row). Some x.key)) (removed.others r (λ h. let zero : referrers_at s.referrers r ≡ 0 = All-contains (IsFree s) refs r free h in absurd (omega (arith, zero, some)))))

      front_length : length front ≡ n.0
      front_length = omega (arith, unlinked.counted.recounted.count, length-take n.0 c.relations, slice_get_within c.relations n.0 s there)

      counted_front : HaveReferrers front (λ table r. links_to c.relations table r - unlinked.fewer table r)
      counted_front =
          counted_down (take n.0 c.relations) front unlinked.fewer (links_to c.relations) unlinked.counted
          (λ table t r at here.
          let below : table < n.0 = omega (arith, slice_get_within (take n.0 c.relations) table t at, length-take n.0 c.relations) in
          ok.counted table t r (sym (get-take c.relations n.0 table below) ∙ at) here)

      some_of_all : (table : ℕ) (r : TupleRef) → count_by (is_link_to table r) (relation_links s) ≤ links_to c.relations table r
      unfolding links_to
      some_of_all table r = links_within (is_link_to table r) c.relations n.0 s there

      counted : AreCounted joined
      counted =
          counted_from c ok n.0 front s a rewritten front_length (λ table r. links_to c.relations table r - unlinked.fewer table r) counted_front
          (λ table r below. omega (arith, unlinked.links table r, some_of_all table r))
          (λ r here.
          let row = held_tuple a.rows r here in
          removed.counts r (λ h. none-some row.0 (sym (removed.gone r h) ∙ row.1)) ∙ ok.counted n.0 s r there (ap is_some (before_at r row.0 row.1)))

      module _ (picks : List Value → Bool) (picking : PicksThese keys s refs picks) where
        name : List ℕ
        name = (named_at c ok n.0 (slice_get_within c.relations n.0 s there)).0

        named : slice_get c.names n.0 ≡ Some name
        unfolding name
        named = (named_at c ok n.0 (slice_get_within c.relations n.0 s there)).1

        done : delete (database_of c) n picks ≡ record { database = set (database_of c) n.0 (without picks (table_of c.relations name s)); outcome = Changed (length (picked picks (table_of c.relations name s))) }
        done = deleted_there (database_of c) n picks (table_of c.relations name s) (table_there name named picks picking) (none_referenced name named picks picking free)

        rows_after : rows_of (linked_keys a.targets c.relations) a ≡ filter (λ v. not (picks v)) (rows_of keys s)
        rows_after =
            ap (λ targets. rows_of (linked_keys targets c.relations) a) removed.keeps.targets
            ∙ rows_left keys s (among_at c ok n.0 s there).kept refs picks picking a kept removed

        database_after : database_of (record c { relations = joined }) ≡ (delete (database_of c) n picks).database
        unfolding table_of
        database_after =
            database_rewritten c ok n.0 joined s a rewritten name named
            ∙ ap (set (database_of c) n.0)
            (λ i. record { name = name; columns = (removed.keeps.schema i).columns; indexes = map plain_index (removed.keeps.declared i); rows = rows_after i })
            ∙ sym (ap (λ e. e.database) done)

        pub has_effect : HasEffect c (record c { relations = joined }) (delete (database_of c) n picks) (length refs)
        unfolding table_of
        has_effect = record {
          database = database_after;
          limits = refl;
          outcome = ap (λ e. e.outcome) done ∙ ap (λ count. Changed count) (length_picked keys s (among_at c ok n.0 s there).kept refs picks picking held once);
        }

      pub stays_consistent : IsConsistent (record c { relations = joined })
      stays_consistent =
          consistent_rewritten c ok n.0 joined s a rewritten
          (kept_from c ok n.0 front a unlinked.counted.kept kept)
          (current_beside_old c ok n.0 joined s a rewritten current)
          (λ r row at. subst (λ targets. HasLinksOrNulls targets row) (sym removed.keeps.targets) ((among_at c ok n.0 s there).linked r row (before_at r row at)))
          counted
          (subst (IsSound c.limits) (sym (database_after choice choice_picks)) (delete_keeps_sound c.limits (database_of c) n choice ok.sound))

-- ---- what a call answers

module _ (c : CatalogState) (ok : IsConsistent c) (n : TableNumber) (refs : List TupleRef) (relations : List RelationState) (held : (s : RelationState) → slice_get c.relations n.0 ≡ Some s → All (λ r. IsSome (get s.rows r)) refs) (once : AllPairs (λ q r. q ≢ r) refs) where
  -- rows that no link names go
  pub taken_out : AllFree c.relations n.0 refs → AreDeleted c.relations relations n.0 refs → IsConsistent (record c { relations = relations })
  taken_out free deleted =
      subst (λ rs. IsConsistent (record c { relations = rs })) (sym deleted.list)
      (stays_consistent c ok n refs deleted.before deleted.there (held deleted.before deleted.there) once deleted.front deleted.after deleted.unlinked deleted.removed deleted.kept deleted.current (free deleted.before deleted.there))

  pub deleted_consistent : {A E : Type 0} (r : Result A E) → OnOk r (AllFree c.relations n.0 refs) → OnOk r (AreDeleted c.relations relations n.0 refs) → OnErr r (relations ≡ c.relations) → IsConsistent (record c { relations = relations })
  deleted_consistent (Ok u) free deleted same = taken_out free deleted
  deleted_consistent (Err e) free deleted same = subst (λ rs. IsConsistent (record c { relations = rs })) (sym same) ok

  abbrev IsEffect : Type 0
  IsEffect = (picks : List Value → Bool) → ArePicked c n.0 refs picks → HasEffect c (record c { relations = relations }) (delete (database_of c) n picks) (length refs)

  pub deleted_effect : {A E : Type 0} (r : Result A E) → OnOk r (AllFree c.relations n.0 refs) → OnOk r (AreDeleted c.relations relations n.0 refs) → OnOk r IsEffect
  deleted_effect (Ok u) free deleted = λ picks picking.
      subst (λ rs. HasEffect c (record c { relations = rs }) (delete (database_of c) n picks) (length refs)) (sym deleted.list)
      (has_effect c ok n refs deleted.before deleted.there (held deleted.before deleted.there) once deleted.front deleted.after deleted.unlinked deleted.removed deleted.kept deleted.current (free deleted.before deleted.there) picks
      (λ r here. picking deleted.before r deleted.there here))
  deleted_effect (Err e) free deleted = tt

  pub deleted_refused : {A : Type 0} (r : Result A Refusal) → (n.0 < length c.relations) → IfErr r (λ refusal. (refusal ≡ RowIsReferenced) × AnyReferenced c.relations n.0 refs) → IfErr r (λ refusal. (picks : List Value → Bool) → ArePicked c n.0 refs picks → (delete (database_of c) n picks).outcome ≡ Refused refusal)
  deleted_refused (Ok u) within told = tt
  deleted_refused (Err e) within told = λ picks picking.
      let s = slice_get-inside c.relations n.0 within in
      let name = named_at c ok n.0 within in
      refused_with c ok n refs s.0 s.1 (held s.0 s.1) once name.0 name.1 picks (λ r here. picking s.0 r s.1 here) (told.1 s.0 s.1)
      ∙ ap (λ refusal. Refused refusal) (sym told.0)
