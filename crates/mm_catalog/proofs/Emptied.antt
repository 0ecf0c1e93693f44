-- A table to which no column refers, and of which all rows are hidden.
use Rattle.std.proofs.Common.{◌≡◌, ◌≢◌, ℕ, suc, ◌==◌, ◌++◌, Bool, true, false, cond, List, Some, None, IsSome, is_some, refl, sym, ap, ◌∙◌, subst, arith, get_or, length, map, set}
use Rattle.std.specs.List.{All, AllPairs, Contains, list_any, remove, slice_get}
use Rattle.std.specs.Prelude.{Result, Ok, Err, OnErr, OnOk}
use Rattle.std.specs.FinMap as finite
use Rattle.std.specs.FinMap.{get, get-empty}
use Rattle.std.specs.Option.{option_map, option_map_or}
use Rattle.std.specs.Ordering.{is_eq}
use Rattle.std.proofs.lemmas.Bool.{and_parts, eqb-true, false_from_ne_true}
use Rattle.std.proofs.lemmas.List.{drop-set-lt, map-set, take-set}
use Rattle.std.proofs.lemmas.Option.{same_Some, slice_get-map, slice_get_within}
use Rattle.common_lemmas.proofs.Options.{none_from_is_some}
use Rattle.common_lemmas.proofs.Places.{set_itself, slice_get-inside, slice_get_set}
use Rattle.common_lemmas.proofs.Tests.{list_any-map}
use Rattle.part_raw.specs.TupleRefs.{ref_cmp}
use Rattle.part_raw.specs.declared.tuple_ref.TupleRef.{TupleRef}
use Rattle.part_raw.proofs.Tuples.{same_tuples}
use Rattle.plain_tables.specs.Databases.{Database}
use Rattle.plain_tables.specs.Doing as doing
use Rattle.plain_tables.specs.Doing.{delete, delete_checks, picked, with_table}
use Rattle.plain_tables.specs.Effects.{Changed, Effect, Refused, checked, refused}
use Rattle.plain_tables.specs.References.{is_referenced, is_table_referenced, refers_to}
use Rattle.plain_tables.specs.ResolvedLaws.{IsMeant}
use Rattle.plain_tables.specs.Tables.{Table, Row as PlainRow}
use Rattle.plain_tables.specs.declared.numbers.TableNumber.{TableNumber}
use Rattle.plain_tables.specs.declared.refusal.Refusal.TheVariants.{NoSuchTable, RowIsReferenced}
use Rattle.plain_tables.specs.declared.resolved.Resolved.TheVariants as resolved
use Rattle.plain_tables.specs.declared.schema.Column.{Column}
use Rattle.mm_relation.specs.Order.{column_cmp, column_cmp_total}
use Rattle.mm_relation.specs.State.{RelationState, no_keys, tree_list}
use Rattle.mm_relation.proofs.Listings.{rising_apart}
use Rattle.mm_catalog.specs.State.{CatalogState}
use Rattle.mm_catalog.specs.Seen.{database_of}
use Rattle.mm_catalog.specs.Changes.{HasEffect, IsDone}
use Rattle.mm_catalog.specs.Consistent.{IsConsistent}
use Rattle.mm_catalog.specs.Deleted.{AllFree, IsFree}
use Rattle.mm_catalog.specs.Hidden.{AreHiddenAt}
use Rattle.mm_catalog.specs.Outline.{HasRowsHidden, is_among, outline_of}
use Rattle.mm_catalog.proofs.Among.{among_at}
use Rattle.mm_catalog.proofs.Dropped.{elsewhere}
use Rattle.mm_catalog.proofs.Dropping.{unreferred, within}
use Rattle.mm_catalog.proofs.HideDone.{hidden_consistent, hidden_effect, hidden_outline}
use Rattle.mm_catalog.proofs.Outlined.{among_contains, deleted_rewritten, none_among}
use Rattle.mm_catalog.proofs.RowLinks.{link_parts}
use Rattle.mm_catalog.proofs.Unnamed.{none_named}

-- ---- plain tables

-- tables of the same columns refer to the same names
referenced_by : (tables : Database) (name : List ℕ) → is_table_referenced tables name ≡ list_any (λ (cs : List Column). list_any (refers_to name) cs) (map (λ (t : Table). t.columns) tables)
referenced_by tables name = sym (list_any-map (λ (cs : List Column). list_any (refers_to name) cs) (λ (t : Table). t.columns) tables)

module _ (tables : Database) (n : TableNumber) (table : Table) (there : slice_get tables n.0 ≡ Some table) where
  abbrev left : (PlainRow → Bool) → Bool → Effect
  left picks refuses = cond refuses (refused tables RowIsReferenced) (record { database = set tables n.0 (doing.without picks table); outcome = Changed (length (picked picks table)) })

  -- a delete that is done leaves the table in its place
  deleted_at : (picks : PlainRow → Bool) (count : ℕ) → (delete tables n picks).outcome ≡ Changed count → (delete tables n picks).database ≡ set tables n.0 (doing.without picks table)
  deleted_at picks count done =
      elim (list_any (is_referenced tables table.name) (picked picks table)) as (λ b. delete tables n picks ≡ left picks b → (delete tables n picks).database ≡ set tables n.0 (doing.without picks table)) [
        | true ↦ λ same. let no : Refused RowIsReferenced ≡ Changed count = ap (λ (e : Effect). e.outcome) (sym same) ∙ done in cc
        | false ↦ λ same. ap (λ (e : Effect). e.database) same
      ]
      (ap (λ o. option_map_or (λ (t : Table). checked tables (delete_checks tables t picks) (record { database = with_table n (doing.without picks t) tables; outcome = Changed (length (picked picks t)) })) o (refused tables NoSuchTable)) there)

  -- one of the same name and the same columns in its place
  module _ (other : Table) (name : other.name ≡ table.name) (columns : other.columns ≡ table.columns) where
    still_unreferenced : is_table_referenced tables table.name ≡ false → is_table_referenced (set tables n.0 other) other.name ≡ false
    still_unreferenced none =
        let all = map (λ (t : Table). t.columns) tables in
        let same : map (λ (t : Table). t.columns) (set tables n.0 other) ≡ all =
        map-set (λ (t : Table). t.columns) tables n.0 other ∙ ap (set all n.0) columns
        ∙ set_itself all n.0 table.columns (slice_get-map (λ (t : Table). t.columns) tables n.0 ∙ ap (option_map (λ (t : Table). t.columns)) there) in
        ap (is_table_referenced (set tables n.0 other)) name ∙ referenced_by (set tables n.0 other) table.name
        ∙ ap (list_any (λ (cs : List Column). list_any (refers_to table.name) cs)) same ∙ sym (referenced_by tables table.name) ∙ none

remove-set : {A : Type 0} (xs : List A) (n : ℕ) (x : A) → remove (set xs n x) n ≡ remove xs n
remove-set xs n x = λ i. take-set xs n x i ++ drop-set-lt (suc n) xs n x (omega arith) i

-- ---- the rows of the table

module _ (c : CatalogState) (ok : IsConsistent c) (number : TableNumber) (meant : IsMeant c.limits (database_of c) (resolved.DropTable number)) where
  abbrev n : ℕ
  n = number.0

  -- no link names one
  row_free : (s : RelationState) → slice_get c.relations n ≡ Some s → (r : TupleRef) → IsSome (get s.rows r) → IsFree s r
  row_free s there r held =
      let name = slice_get-inside c.names n (omega (arith, within c ok number meant, ok.named)) in
      ok.counted n s r there held
      ∙ none_named c.relations n r
      (λ k t at q row column link _ e names.
      let parts = link_parts t.targets row column link e in
      elsewhere c ok n name.0 name.1 (unreferred c ok number meant name.0 name.1) k t at column link.0 parts.0
      (eqb-true link.0 n (and_parts (link.0 == n) (is_eq (ref_cmp link.1 r)) names).0))

  module _ (refs : List TupleRef) (are : (s : RelationState) → slice_get c.relations n ≡ Some s → refs ≡ tree_list s.by_key) where
    pub all_held : (s : RelationState) → slice_get c.relations n ≡ Some s → All (λ r. IsSome (get s.rows r)) refs
    all_held s there = subst (All (λ r. IsSome (get s.rows r))) (sym (are s there)) (among_at c ok n s there).kept.keyed.lists.held

    pub all_once : AllPairs (λ q r. q ≢ r) refs
    all_once =
        let s = slice_get-inside c.relations n (within c ok number meant) in
        subst (AllPairs (λ q r. q ≢ r)) (sym (are s.0 s.1)) (rising_apart (column_cmp no_keys 0 s.0.rows) (column_cmp_total no_keys 0 s.0.rows) (tree_list s.0.by_key) (among_at c ok n s.0 s.1).kept.keyed.rising)

    pub all_free : AllFree c.relations n refs
    all_free s there k d l = row_free s there (get_or refs k d) (all_held s there k d l)

    all_listed : (s : RelationState) → slice_get c.relations n ≡ Some s → (r : TupleRef) → IsSome (get s.rows r) → Contains refs r
    all_listed s there r held = subst (λ rs. Contains rs r) (sym (are s there)) ((among_at c ok n s there).kept.keyed.lists.listed r held)

    -- ---- they are hidden

    module _ (relations : List RelationState) (h : AreHiddenAt c.relations relations n refs) where
      abbrev e : CatalogState
      e = record c { relations = relations }

      pub emptied_consistent : IsConsistent e
      emptied_consistent = hidden_consistent c ok number refs relations all_held all_once {A = ℕ} {E = ℕ} (Ok 0) all_free h tt

      pub emptied_outline : HasRowsHidden (outline_of c) (outline_of e) n refs
      emptied_outline = hidden_outline c ok number refs relations all_held all_once {A = ℕ} {E = ℕ} (Ok 0) all_free h

      abbrev bare : Table
      bare = doing.without (λ row. true) meant.0

      database : database_of e ≡ set (database_of c) n bare
      database =
          let effect : HasEffect c e (delete (database_of c) number (λ row. true)) (length refs) =
          hidden_effect c ok number refs relations all_held all_once {A = ℕ} {E = ℕ} (Ok 0) all_free h (λ row. true) (λ s r there held. (λ among. refl, λ picked. all_listed s there r held)) in
          effect.database ∙ deleted_at (database_of c) number meant.0 meant.1 (λ row. true) (length refs) effect.outcome

      no_row : (q : TupleRef) (among : Bool) → is_among refs q ≡ among → get h.deleted.after.rows q ≡ None
      no_row q true e = h.deleted.removed.gone q (among_contains refs q e)
      no_row q false e =
          h.deleted.removed.others q (none_among refs q e)
          ∙ none_from_is_some (get h.deleted.before.rows q) (false_from_ne_true (is_some (get h.deleted.before.rows q)) (λ held. none_among refs q e (all_listed h.deleted.before h.deleted.there q held)))

      pub emptied_rows : (t : RelationState) → slice_get relations n ≡ Some t → t.rows ≡ finite.empty
      emptied_rows t at =
          let last = same_Some t h.deleted.after (sym at ∙ (deleted_rewritten c.relations relations n refs h.deleted all_free).here) in
          ap (λ (s : RelationState). s.rows) last ∙ same_tuples h.deleted.after.rows finite.empty (λ q. no_row q (is_among refs q) refl ∙ sym (get-empty ref_cmp q))

      pub emptied_meant : IsMeant e.limits (database_of e) (resolved.DropTable number)
      emptied_meant =
          subst (λ tables. IsMeant c.limits tables (resolved.DropTable number)) (sym database)
          (bare, slice_get_set (database_of c) n bare (slice_get_within (database_of c) n meant.0 meant.1), still_unreferenced (database_of c) number meant.0 meant.1 bare refl refl meant.2)

      pub emptied_drops : (d : CatalogState) → IsDone e d (resolved.DropTable number) → IsDone c d (resolved.DropTable number)
      emptied_drops d done = record {
        database = done.database ∙ ap (λ tables. remove tables n) database ∙ remove-set (database_of c) n bare;
        limits = done.limits;
      }

    -- it stays consistent, whether they are or not
    pub consistent_when : {A E : Type 0} (r : Result A E) (relations : List RelationState) → OnOk r (AreHiddenAt c.relations relations n refs) → OnErr r (relations ≡ c.relations) → IsConsistent (record c { relations = relations })
    consistent_when (Ok x) relations h same = emptied_consistent relations h
    consistent_when (Err why) relations h same = subst (λ rs. IsConsistent (record c { relations = rs })) (sym same) ok
