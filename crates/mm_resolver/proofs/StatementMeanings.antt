-- What a statement means once the names in it are found, and that it is answered so.
use Rattle.std.proofs.Common.{◌≡◌, ℕ, Bool, true, false, not, is_none, List, [], ◌∷◌, ◌++◌, refl, sym, ap, ◌∙◌, map, length, get_or, append-nil}
use Rattle.std.specs.Prelude.{Ok, Err, ◌||◌, ◌==◌, nat_lt, if◌then◌else◌, zip}
use Rattle.std.specs.List.{list_any, enumerate_from, remove}
use Rattle.std.specs.Option.{option_map_or}
use Rattle.std.specs.Str.{bytes_eq}
use Rattle.plain_tables.specs.Databases.{Database}
use Rattle.plain_tables.specs.Queries.{JoinedColumn, named_items, places_meant, same_place}
use Rattle.plain_tables.specs.Effects.{Check, misses, repeats}
use Rattle.plain_tables.specs.Resolving.{behind, differ_in_type, join_columns, own_columns, select_names, shown_of, columns_of as named_columns}
use Rattle.plain_tables.specs.declared.command.Items.{Items}
use Rattle.plain_tables.specs.declared.command.Join.{Join}
use Rattle.plain_tables.specs.declared.condition.ColName.{ColName}
use Rattle.plain_tables.specs.declared.numbers.ColumnNumber.{ColumnNumber}
use Rattle.plain_tables.specs.declared.numbers.Place.{Place}
use Rattle.plain_tables.specs.declared.numbers.TableNumber.{TableNumber}
use Rattle.plain_tables.specs.declared.refusal.Refusal.{Refusal}
use Rattle.plain_tables.specs.declared.refusal.Refusal.TheVariants.{ColumnNamedTwice, KeyCannotBeSet, NoSuchColumn, NoSuchTable, TableNamedTwice, TooMany, WrongNumberOfValues, WrongType}
use Rattle.plain_tables.specs.declared.resolved.Shown.{Shown}
use Rattle.plain_tables.specs.declared.schema.Column.{Column}
use Rattle.plain_statements.specs.declared.statement.Slot.{Slot}
use Rattle.plain_statements.specs.declared.statement.SlotCond.{SlotCond}
use Rattle.plain_statements.specs.declared.statement.SlotSetting.{SlotSetting}
use Rattle.plain_statements.specs.declared.statement.Statement.{Statement}
use Rattle.plain_statements.specs.declared.statement.Statement.TheVariants as statement
use Rattle.plain_statements.specs.declared.resolution.Need.{Need}
use Rattle.plain_statements.specs.declared.resolution.SlotAssignment.{SlotAssignment}
use Rattle.plain_statements.specs.declared.resolution.SlotJoined.{SlotJoined}
use Rattle.plain_statements.specs.declared.resolution.SlotSource.{SlotSource}
use Rattle.plain_statements.specs.declared.resolution.SlotTest.{SlotTest}
use Rattle.plain_statements.specs.declared.resolution.Template.{Template}
use Rattle.plain_statements.specs.declared.resolution.Template.TheVariants as template
use Rattle.plain_statements.specs.Laws.{Refuses}
use Rattle.plain_statements.specs.Slots.{condition_needs, opened, row_needs, setting_needs, slot_assignments_of, slot_condition_names, slot_setting_name, slot_tests_of}
use Rattle.plain_statements.proofs.Resolutions.{Meant, first, resolution_of, settled, settles, slot_joins_of, slot_source_of}
use Rattle.mm_resolver.specs.declared.scope.Scope.{Scope}
use Rattle.mm_resolver.specs.declared.named_table.NamedTable.{NamedTable}
use Rattle.mm_resolver.specs.Naming.{IsNamedTableOf, columns_of, columns_of_all}
use Rattle.mm_resolver.specs.Checks.{delete_late, update_late, verdict}
use Rattle.mm_resolver.specs.Select.{IsScopeOf, joined_rest, select_late}
use Rattle.mm_resolver.specs.Slots.{slot_assignment_at, slot_joined_by, slot_source_on, slot_test_at}
use Rattle.mm_resolver.proofs.Meanings.{on_table, own_columns-are, first_missed, rest_missed, unless_refused}
use Rattle.mm_resolver.proofs.Joins.{joined_checks, joined_checks-are, many_joins, named_apart, sources_are}
use Rattle.mm_resolver.proofs.Named.{key_set, length_meant, length-shown}
use Rattle.mm_resolver.proofs.Scopes.{columns_are}

-- ---- refusals

pub refused : (tables : Database) (s : Statement) (e : Refusal) → resolution_of tables s ≡ Err e → Refuses tables s e
refused tables s e is values = settles tables s values ∙ ap (settled values) is

first-is : (checks : List Check) (m : Meant) → first checks m ≡ unless_refused (verdict checks) m
first-is [] m = refl
first-is (check ∷ checks) m =
    elim (check.refuses) as (λ b. (if b then Err check.refusal else first checks m) ≡ unless_refused (if b then Err check.refusal else verdict checks) m) [
      | true ↦ refl
      | false ↦ first-is checks m
    ]

-- ---- statements on one table

module _ (tables : Database) (name : List ℕ) (named_table : NamedTable) (h : IsNamedTableOf tables name named_table) where
  abbrev columns : List JoinedColumn
  columns = columns_of named_table

  -- ---- insert

  module _ (slots : List Slot) where
    abbrev insert_on : TableNumber → List Column → Meant
    insert_on n cs = if not (length slots == length cs) then Err WrongNumberOfValues else opened (row_needs tables cs slots) [] (template.Insert n slots)

    abbrev inserts : Meant
    inserts = resolution_of tables (statement.Insert name slots)

    insert_is : inserts ≡ insert_on named_table.table named_table.columns.now
    insert_is = on_table tables name named_table h (λ n table. insert_on n table.columns) (Err NoSuchTable) ∙ ap (insert_on named_table.table) h.columns

    pub insert-counted : (b : Bool) → (length slots == length named_table.columns.now) ≡ b
        → inserts ≡ (if not b then Err WrongNumberOfValues else opened (row_needs tables named_table.columns.now slots) [] (template.Insert named_table.table slots))
    insert-counted b is =
        insert_is ∙ ap (λ x. if not x then Err WrongNumberOfValues else opened (row_needs tables named_table.columns.now slots) [] (template.Insert named_table.table slots)) is

  -- ---- delete

  module _ (conditions : List SlotCond) where
    abbrev delete_on : TableNumber → List JoinedColumn → Meant
    delete_on n cs =
        if misses cs (slot_condition_names conditions) then Err NoSuchColumn
        else opened (condition_needs tables cs conditions) (delete_late (length conditions)) (template.Delete n (slot_tests_of cs conditions))

    abbrev deletes : Meant
    deletes = resolution_of tables (statement.Delete name conditions)

    delete_is : deletes ≡ delete_on named_table.table columns
    delete_is = on_table tables name named_table h (λ n table. delete_on n (own_columns table)) (Err NoSuchTable) ∙ ap (delete_on named_table.table) (own_columns-are tables name named_table h)

    pub delete-missed : misses columns (slot_condition_names conditions) ≡ true → deletes ≡ Err NoSuchColumn
    delete-missed missed = delete_is ∙ rw missed refl

    pub delete-found : misses columns (slot_condition_names conditions) ≡ false → (tests : List SlotTest) → tests ≡ slot_tests_of columns conditions
        → deletes ≡ opened (condition_needs tables columns conditions) (delete_late (length tests)) (template.Delete named_table.table tests)
    delete-found named tests are =
        let many = ap length are ∙ length_meant columns (λ (c : SlotCond). c.column) slot_test_at conditions named in
        delete_is ∙ rw (named, sym many, sym are) refl

  -- ---- update

  module _ (settings : List SlotSetting) (conditions : List SlotCond) where
    abbrev update_names : List ColName
    update_names = map slot_setting_name settings ++ slot_condition_names conditions

    abbrev twice : Bool
    twice = repeats bytes_eq (map (λ s. s.column) settings)

    abbrev update_needs : List JoinedColumn → List (Slot × Need)
    update_needs cs = setting_needs tables cs settings ++ condition_needs tables cs conditions

    abbrev late : List JoinedColumn → List Check
    late cs =
        record { refuses = list_any (λ place. place.column.0 == 0) (places_meant cs (map slot_setting_name settings)); refusal = KeyCannotBeSet }
        ∷ delete_late (length conditions)

    abbrev update_on : TableNumber → List JoinedColumn → Meant
    update_on n cs =
        if misses cs update_names then Err NoSuchColumn
        else if twice then Err ColumnNamedTwice
        else opened (update_needs cs) (late cs) (template.Update n (slot_assignments_of cs settings) (slot_tests_of cs conditions))

    abbrev updates : Meant
    updates = resolution_of tables (statement.Update name settings conditions)

    update_is : updates ≡ update_on named_table.table columns
    update_is = on_table tables name named_table h (λ n table. update_on n (own_columns table)) (Err NoSuchTable) ∙ ap (update_on named_table.table) (own_columns-are tables name named_table h)

    pub settings-missed : misses columns (map slot_setting_name settings) ≡ true → updates ≡ Err NoSuchColumn
    settings-missed missed = update_is ∙ rw (first_missed columns (map slot_setting_name settings) (slot_condition_names conditions) missed) refl

    module _ (settings_named : misses columns (map slot_setting_name settings) ≡ false) where
      pub conditions-missed : misses columns (slot_condition_names conditions) ≡ true → updates ≡ Err NoSuchColumn
      conditions-missed missed =
          update_is ∙ rw (rest_missed columns (map slot_setting_name settings) (slot_condition_names conditions) true settings_named missed) refl

      module _ (named : misses columns (slot_condition_names conditions) ≡ false) where
        all_named : misses columns update_names ≡ false
        all_named = rest_missed columns (map slot_setting_name settings) (slot_condition_names conditions) false settings_named named

        pub update-twice : twice ≡ true → updates ≡ Err ColumnNamedTwice
        update-twice again = update_is ∙ rw (all_named, again) refl

        pub update-found : twice ≡ false → (set : List SlotAssignment) (tests : List SlotTest) → set ≡ slot_assignments_of columns settings → tests ≡ slot_tests_of columns conditions
            → updates ≡ opened (update_needs columns) (update_late set (length tests)) (template.Update named_table.table set tests)
        update-found once set tests assigned are =
            let many = ap length are ∙ length_meant columns (λ (c : SlotCond). c.column) slot_test_at conditions named in
            let key = key_set columns slot_setting_name slot_assignment_at (λ (a : SlotAssignment). a.column) (λ _ _. refl) settings in
            update_is ∙ rw (all_named, once, key, sym many, sym assigned, sym are) refl

-- ---- select

module _ (tables : Database) (distinct : Bool) (its : Items) (name : List ℕ) (joins : List Join) (conditions : List SlotCond)
    (scope : Scope) (h : IsScopeOf tables name joins scope) where
  abbrev all_columns : List JoinedColumn
  all_columns = columns_of_all scope.tables.items

  abbrev names : List (List ℕ)
  names = select_names name joins

  abbrev selects : Meant
  selects = resolution_of tables (statement.Select distinct its name joins conditions)

  -- the query that shows these columns
  abbrev pub slot_query : Shown → SlotSource → List SlotJoined → Template
  slot_query shown source others = template.Select (record { distinct = distinct; shown = shown; source = source; joins = others })

  abbrev pub selection : List JoinedColumn → Template
  selection cs = slot_query (shown_of cs its) (slot_source_of tables cs conditions 0 name) (slot_joins_of tables cs conditions (behind (name ∷ []) joins))

  abbrev last : Shown → ℕ → List Check
  last shown many = select_late shown (length conditions) many

  abbrev missing : List JoinedColumn → Bool
  missing cs = misses cs (named_items its ++ slot_condition_names conditions) || list_any is_none (map (join_columns tables) (behind (name ∷ []) joins))

  -- what it means where each table is there
  abbrev found_on : List JoinedColumn → Meant
  found_on cs =
      if missing cs then Err NoSuchColumn
      else first (
      record { refuses = repeats same_place (places_meant cs (named_items its)); refusal = ColumnNamedTwice }
      ∷ record { refuses = repeats bytes_eq names; refusal = TableNamedTwice }
      ∷ record { refuses = list_any (λ s. option_map_or (differ_in_type tables) s false) (map (join_columns tables) (behind (name ∷ []) joins)); refusal = WrongType }
      ∷ []
      ) (opened (condition_needs tables cs conditions)
      (record { refuses = nat_lt 16 (length (named_items its)) || nat_lt 8 (length conditions) || nat_lt 3 (length joins); refusal = TooMany } ∷ []) (selection cs))

  select_is : selects ≡ found_on all_columns
  select_is =
      ap (λ b. if b then Err NoSuchTable else found_on (named_columns tables names)) h.there
      ∙ ap found_on (columns_are tables names scope.tables.items h.named)

  select_missed : misses all_columns (named_items its ++ slot_condition_names conditions) ≡ true → selects ≡ Err NoSuchColumn
  select_missed missed = select_is ∙ rw missed refl

  pub items-missed : misses all_columns (named_items its) ≡ true → selects ≡ Err NoSuchColumn
  items-missed missed = select_missed (first_missed all_columns (named_items its) (slot_condition_names conditions) missed)

  module _ (items_named : misses all_columns (named_items its) ≡ false) where
    pub tests-missed : misses all_columns (slot_condition_names conditions) ≡ true → selects ≡ Err NoSuchColumn
    tests-missed missed = select_missed (rest_missed all_columns (named_items its) (slot_condition_names conditions) true items_named missed)

    module _ (named : misses all_columns (slot_condition_names conditions) ≡ false) where
      abbrev asked : List JoinedColumn → List (Slot × Need)
      asked cs = condition_needs tables cs conditions

      -- what it means where each name means a column
      named_is : selects ≡ first (joined_rest tables scope (shown_of all_columns its))
          (opened (asked all_columns) (last (shown_of all_columns its) (length scope.sides.items)) (selection all_columns))
      named_is =
          let limits : ℕ → ℕ → List Check = λ shown many. record { refuses = nat_lt 16 shown || nat_lt 8 (length conditions) || nat_lt 3 many; refusal = TooMany } ∷ [] in
          select_is
          ∙ rw (rest_missed all_columns (named_items its) (slot_condition_names conditions) false items_named named, sym h.misses) refl
          ∙ ap (λ n. first (joined_checks tables name joins scope h its) (opened (asked all_columns) (limits n (length joins)) (selection all_columns)))
          (sym (length-shown all_columns its items_named))
          ∙ ap (λ n. first (joined_checks tables name joins scope h its) (opened (asked all_columns) (last (shown_of all_columns its) n) (selection all_columns)))
          (many_joins tables name joins scope h)
          ∙ ap (λ cs. first cs (opened (asked all_columns) (last (shown_of all_columns its) (length scope.sides.items)) (selection all_columns)))
          (joined_checks-are tables name joins scope h its)

      pub select-checked : selects ≡ unless_refused (verdict (joined_rest tables scope (shown_of all_columns its)))
          (opened (asked all_columns) (last (shown_of all_columns its) (length scope.sides.items)) (selection all_columns))
      select-checked = named_is ∙ first-is (joined_rest tables scope (shown_of all_columns its)) _

  source_is : (n : ℕ) (own : List ℕ) (s : NamedTable) → IsNamedTableOf tables own s → slot_source_of tables all_columns conditions n own ≡ slot_source_on all_columns conditions (n, s)
  source_is n own s k = ap (λ t. record { table = t; tests = (slot_source_on all_columns conditions (n, s)).tests }) k.number

  pub selection-is : verdict (joined_rest tables scope (shown_of all_columns its)) ≡ Ok tt → (source : SlotSource) (sources : List SlotSource)
      → sources ≡ map (slot_source_on all_columns conditions) (enumerate_from 0 scope.tables.items) → source ≡ get_or sources 0 source
      → selection all_columns ≡ slot_query (shown_of all_columns its) source (map (λ s. slot_joined_by s.0 s.1) (zip (remove sources 0) scope.sides.items))
  selection-is ok source sources made at =
      let join : SlotSource → Place → ColumnNumber → SlotJoined = λ s outer inner. record { source = s; outer = outer; inner = inner } in
      let shown : Shown = shown_of all_columns its in
      let all = named_apart tables name joins scope h shown [] (ap verdict (append-nil (joined_rest tables scope shown)) ∙ ok) in
      let parts = sources_are tables name joins scope h (slot_source_of tables all_columns conditions) (slot_source_on all_columns conditions) source_is join
      scope.tables.items source sources all made at in
      λ i. slot_query shown (parts.0 i) (parts.1 i)
