-- Resolutions: what a statement means of tables, and that to fill it is to resolve the filled statement.
use Rattle.std.proofs.Common.{◌≡◌, ℕ, Bool, true, false, not, map, length, List, [], ◌∷◌, ◌++◌, refl, sym, ap, ◌∙◌, inl, inr, Option, Some, None, arith, eq-eqb}
use Rattle.std.specs.Prelude.{Result, Ok, Err, MatchResult, ◌||◌, ◌&&◌, ◌==◌, if◌then◌else◌, nat_lt}
use Rattle.std.specs.List.{list_any, filter, filter_map, cons_option}
use Rattle.std.specs.Option.{is_some, is_none, option_map, option_map_or}
use Rattle.std.specs.Str.{bytes_eq}
use Rattle.std.proofs.lemmas.Bool.{cases_Bool, or_parts, not-false, eqb-true}
use Rattle.std.proofs.lemmas.List.{length-map}
use Rattle.std.proofs.lemmas.List.Folds.{list_any-append}
use Rattle.std.proofs.Math.Bool.{or_assoc}
use Rattle.plain_tables.specs.Values.{is_null}
use Rattle.plain_tables.specs.Tables.{Table}
use Rattle.plain_tables.specs.Databases.{Database, table_named}
use Rattle.plain_tables.specs.Queries.{JoinedColumn, fits_one, column_meant, place_meant, places_meant, same_place, named_items}
use Rattle.plain_tables.specs.Effects.{Check, repeats, misses, is_long, setting_name, condition_names}
use Rattle.plain_tables.specs.References.{takes_null, type_of, has_type, is_typed}
use Rattle.plain_tables.specs.Resolving.{resolved_of, meaning, number_of, own_columns, tests_of, assignments_of, shown_of, asks_order, mistypes, is_mistyped, has_mistyped, insert_checks, update_checks, delete_checks, select_checks, select_names, columns_of, behind, join_columns, differ_in_type, is_on_source, source_of, joins_of, select_of}
use Rattle.plain_tables.specs.declared.value.Value.{Value}
use Rattle.plain_tables.specs.declared.value.Value.TheVariants as value
use Rattle.plain_tables.specs.declared.condition.Op.{Op}
use Rattle.plain_tables.specs.declared.schema.BaseKind.{BaseKind}
use Rattle.plain_tables.specs.declared.schema.ColKind.{ColKind}
use Rattle.plain_tables.specs.declared.schema.Column.{Column}
use Rattle.plain_tables.specs.declared.refusal.Refusal.{Refusal}
use Rattle.plain_tables.specs.declared.refusal.Refusal.TheVariants.{NoSuchTable, NoSuchColumn, ColumnNamedTwice, WrongType, KeyCannotBeSet, TableNamedTwice, TooMany, WrongNumberOfValues, TextTooLong}
use Rattle.plain_tables.specs.declared.command.Items.{Items}
use Rattle.plain_tables.specs.declared.command.Join.{Join}
use Rattle.plain_tables.specs.declared.numbers.TableNumber.{TableNumber}
use Rattle.plain_tables.specs.declared.resolved.Resolved.{Resolved}
use Rattle.plain_tables.specs.declared.resolved.Resolved.TheVariants as resolved
use Rattle.std.proofs.lemmas.Simd.{map-map}
use Rattle.common_lemmas.proofs.Filters.{filter-map}
use Rattle.common_lemmas.proofs.Tests.{or_false, or_true}
use Rattle.plain_tables.proofs.Columns.{meant_where_one}
use Rattle.plain_statements.specs.declared.statement.Slot.{Slot}
use Rattle.plain_statements.specs.declared.statement.Slot.TheVariants.{Given, Hole}
use Rattle.plain_statements.specs.declared.statement.SlotSetting.{SlotSetting}
use Rattle.plain_statements.specs.declared.statement.SlotCond.{SlotCond}
use Rattle.plain_statements.specs.declared.statement.Statement.{Statement}
use Rattle.plain_statements.specs.declared.statement.Statement.TheVariants as statement
use Rattle.plain_statements.specs.declared.resolution.SlotSource.{SlotSource}
use Rattle.plain_statements.specs.declared.resolution.SlotJoined.{SlotJoined}
use Rattle.plain_statements.specs.declared.resolution.Template.{Template}
use Rattle.plain_statements.specs.declared.resolution.Template.TheVariants as template
use Rattle.plain_statements.specs.declared.resolution.Need.{Need}
use Rattle.plain_statements.specs.declared.resolution.Resolution.{Resolution}
use Rattle.plain_statements.specs.Filling.{hole_value, slot_value, filled, filled_setting, filled_condition}
use Rattle.plain_statements.specs.Finishing.{filled_assignment, filled_test, filled_source, filled_join, filled_template, is_wrong, is_past, comes, unless, finished}
use Rattle.plain_statements.specs.Laws.{Resolves, Refuses, FilledIsFinished}
use Rattle.plain_statements.specs.Slots.{slot_setting_name, slot_condition_names, slot_tests_of, slot_assignments_of, stored_need, compared_need, Needed, row_needs, setting_needs, condition_needs, is_given, wants_of, first_refusal, resolution_with, opened}
use Rattle.plain_statements.proofs.Fusion.{filter_map-same, filter_map-map}

-- ---- checks before and behind those of values

abbrev Means : Type 0
Means = Result Resolved Refusal

-- what a statement means of tables: its resolution, or why it is refused whatever its values are
abbrev pub Meant : Type 0
Meant = Result Resolution Refusal

-- what it comes to with these values
abbrev pub settled : List Value → Meant → Means
settled values (Err why) = Err why
settled values (Ok r) = finished values r

-- checks that refuse a statement whatever its values are
abbrev pub first : List Check → Meant → Meant
first [] m = m
first (check ∷ checks) m = if check.refuses then Err check.refusal else first checks m

abbrev after : List Check → Means → Means
after [] m = m
after (check ∷ checks) m = if check.refuses then Err check.refusal else after checks m

settled-if : (values : List Value) (b : Bool) (why : Refusal) (m : Meant)
    → settled values (if b then Err why else m) ≡ (if b then Err why else settled values m)
settled-if values true why m = refl
settled-if values false why m = refl

settled-first : (values : List Value) (checks : List Check) (m : Meant) → settled values (first checks m) ≡ after checks (settled values m)
settled-first values [] m = refl
settled-first values (check ∷ checks) m =
    settled-if values check.refuses check.refusal (first checks m)
    ∙ ap (λ x. if check.refuses then Err check.refusal else x) (settled-first values checks m)

unless-if : (b : Bool) (why : Refusal) (last : Option Refusal) (r : Resolved)
    → unless (if b then Some why else last) r ≡ (if b then Err why else unless last r)
unless-if true why last r = refl
unless-if false why last r = refl

unless-first : (checks : List Check) (r : Resolved) → unless (first_refusal checks) r ≡ meaning checks r
unless-first [] r = refl
unless-first (check ∷ checks) r =
    unless-if check.refuses check.refusal (first_refusal checks) r
    ∙ ap (λ m. if check.refuses then Err check.refusal else m) (unless-first checks r)

-- ---- given values, and those to come

or-swap : (a b c : Bool) → (a || (b || c)) ≡ (b || (a || c))
or-swap true true c = refl
or-swap a b c = refl

-- whether this holds of the value of a slot
abbrev pub holds : (Value → Need → Bool) → List Value → Needed → Bool
holds test values n = test (slot_value values n.0) n.1

-- it holds of a value where it does of a given one, or of one that comes
pub holds-apart : (test : Value → Need → Bool) (values : List Value) (needs : List Needed)
    → list_any (holds test values) needs ≡ (list_any (is_given test) needs || list_any (comes test values) (wants_of needs))
holds-apart test values [] = refl
holds-apart test values ((Given v, need) ∷ needs) =
    ap (λ b. test v need || b) (holds-apart test values needs)
    ∙ sym (or_assoc (test v need) (list_any (is_given test) needs) (list_any (comes test values) (wants_of needs)))
holds-apart test values ((Hole n, need) ∷ needs) =
    ap (λ b. test (hole_value values n) need || b) (holds-apart test values needs)
    ∙ or-swap (test (hole_value values n) need) (list_any (is_given test) needs) (list_any (comes test values) (wants_of needs))

-- the checks of all values, and then those that come last
abbrev pub checked_values : List Value → List Needed → List Check → Resolved → Means
checked_values values needs late r =
    if list_any (holds is_wrong values) needs then Err WrongType
    else if list_any (holds is_past values) needs then Err TextTooLong
    else meaning late r

sorted : (w p g : Bool) (late : List Check) (r : Resolved)
    → (if w then Err WrongType else if p then Err TextTooLong else unless (if g then Some TextTooLong else first_refusal late) r)
    ≡ (if w then Err WrongType else if g || p then Err TextTooLong else meaning late r)
sorted false false false late r = unless-first late r
sorted false true true late r = refl
sorted w p g late r = refl

-- where no given value is wrong, to finish a resolution is to check all values
pub finished-checked : (values : List Value) (needs : List Needed) (late : List Check) (t : Template) → list_any (is_given is_wrong) needs ≡ false
    → finished values (resolution_with needs late t) ≡ checked_values values needs late (filled_template values t)
finished-checked values needs late t none =
    sorted (list_any (comes is_wrong values) (wants_of needs)) (list_any (comes is_past values) (wants_of needs)) (list_any (is_given is_past) needs) late (filled_template values t)
    ∙ rw (holds-apart is_wrong values needs, none, holds-apart is_past values needs) refl

-- where one is, no values are right
pub given-wrong : (values : List Value) (needs : List Needed) → list_any (is_given is_wrong) needs ≡ true → list_any (holds is_wrong values) needs ≡ true
given-wrong values needs one = holds-apart is_wrong values needs ∙ ap (λ b. b || list_any (comes is_wrong values) (wants_of needs)) one

settled-opened : (values : List Value) (needs : List Needed) (late : List Check) (t : Template)
    → settled values (opened needs late t) ≡ checked_values values needs late (filled_template values t)
settled-opened values needs late t =
    elim (cases_Bool (list_any (is_given is_wrong) needs)) [
      | inl one ↦ rw (one, given-wrong values needs one) refl
      | inr none ↦ ap (λ b. settled values (if b then Err WrongType else Ok (resolution_with needs late t))) none ∙ finished-checked values needs late t none
    ]

-- ---- what is asked of values

not-or : (base : Option BaseKind) (v : Value) → not (option_map_or (has_type v) base false) ≡ option_map_or (λ b. not (has_type v b)) base true
not-or None v = refl
not-or (Some b) v = refl

null-wanted : (takes ordered : Bool) → (not takes || ordered) ≡ not (takes && not ordered)
null-wanted true true = refl
null-wanted takes ordered = refl

compared : (tables : Database) (k : ColKind) (v : Value) (o : Op)
    → (not (is_typed tables v k) || (is_null v && asks_order o)) ≡ is_wrong v (compared_need tables k o)
compared tables k value.Null o = null-wanted (takes_null k) (asks_order o)
compared tables k v o = or_false (not (is_typed tables v k)) ∙ not-or (type_of tables k) v

stored : (tables : Database) (k : ColKind) (v : Value) → not (is_typed tables v k) ≡ is_wrong v (stored_need tables k)
stored tables k value.Null = refl
stored tables k v = not-or (type_of tables k) v

row-wrong : (values : List Value) (tables : Database) (columns : List Column) (slots : List Slot)
    → has_mistyped tables columns (map (slot_value values) slots) ≡ list_any (holds is_wrong values) (row_needs tables columns slots)
row-wrong values tables [] slots = refl
row-wrong values tables (c ∷ columns) [] = refl
row-wrong values tables (c ∷ columns) (s ∷ slots) = rw (stored tables c.kind (slot_value values s), row-wrong values tables columns slots) refl

row-past : (values : List Value) (tables : Database) (columns : List Column) (slots : List Slot) → (length slots == length columns) ≡ true
    → list_any is_long (map (slot_value values) slots) ≡ list_any (holds is_past values) (row_needs tables columns slots)
row-past values tables [] [] same = refl
row-past values tables [] (s ∷ slots) same = absurd (omega (arith, eqb-true (length (s ∷ slots)) 0 same))
row-past values tables (c ∷ columns) [] same = refl
row-past values tables (c ∷ columns) (s ∷ slots) same =
    ap (λ b. is_long (slot_value values s) || b)
    (row-past values tables columns slots (eq-eqb (length slots) (length columns) (let e = eqb-true (length (s ∷ slots)) (length (c ∷ columns)) same in omega (arith, e))))

-- a slot that is needed more, where its column is meant
module _ (values : List Value) (slot : Slot) (need : JoinedColumn → Need) (found : Option JoinedColumn) (rest : List Needed) where
  abbrev needed : Option JoinedColumn → List Needed
  needed o = cons_option (option_map (λ joined. (slot, need joined)) o) rest

  one-more : (test : Value → Need → Bool) (b c : Bool) → is_some found ≡ true → ((joined : JoinedColumn) → found ≡ Some joined → b ≡ test (slot_value values slot) (need joined))
      → c ≡ list_any (holds test values) rest → (b || c) ≡ list_any (holds test values) (needed found)
  one-more test b c some same others = elim found as (λ o. found ≡ o → is_some o ≡ true → (b || c) ≡ list_any (holds test values) (needed o)) [
    | None ↦ λ e h. cc
    | Some joined ↦ λ e h. ap (λ x. x || c) (same joined e) ∙ ap (λ x. test (slot_value values slot) (need joined) || x) others
  ] refl some

pub conditions-wrong : (values : List Value) (tables : Database) (columns : List JoinedColumn) (conditions : List SlotCond)
    → misses columns (slot_condition_names conditions) ≡ false
    → list_any (is_mistyped tables columns) (map (filled_condition values) conditions)
    ≡ list_any (holds is_wrong values) (condition_needs tables columns conditions)
conditions-wrong values tables columns [] there = refl
conditions-wrong values tables columns (c ∷ conditions) there =
    let parts = or_parts (not (fits_one columns c.column)) (misses columns (slot_condition_names conditions)) there in
    let v = slot_value values c.slot in
    one-more values c.slot (λ joined. compared_need tables joined.column.kind c.op) (column_meant columns c.column) (condition_needs tables columns conditions)
    is_wrong (is_mistyped tables columns (filled_condition values c)) _ (meant_where_one columns c.column (not-false (fits_one columns c.column) parts.0))
    (λ joined e. ap (λ o. option_map_or (λ (j : JoinedColumn). not (is_typed tables v j.column.kind)) o false || (is_null v && asks_order c.op)) e ∙ compared tables joined.column.kind v c.op)
    (conditions-wrong values tables columns conditions parts.1)

pub settings-wrong : (values : List Value) (tables : Database) (columns : List JoinedColumn) (settings : List SlotSetting)
    → misses columns (map slot_setting_name settings) ≡ false
    → list_any (λ s. mistypes tables columns (setting_name s) s.value) (map (filled_setting values) settings)
    ≡ list_any (holds is_wrong values) (setting_needs tables columns settings)
settings-wrong values tables columns [] there = refl
settings-wrong values tables columns (s ∷ settings) there =
    let parts = or_parts (not (fits_one columns (slot_setting_name s))) (misses columns (map slot_setting_name settings)) there in
    let v = slot_value values s.slot in
    one-more values s.slot (λ joined. stored_need tables joined.column.kind) (column_meant columns (slot_setting_name s)) (setting_needs tables columns settings)
    is_wrong (mistypes tables columns (slot_setting_name s) v) _ (meant_where_one columns (slot_setting_name s) (not-false (fits_one columns (slot_setting_name s)) parts.0))
    (λ joined e. ap (λ o. option_map_or (λ (j : JoinedColumn). not (is_typed tables v j.column.kind)) o false) e ∙ stored tables joined.column.kind v)
    (settings-wrong values tables columns settings parts.1)

pub settings-past : (values : List Value) (tables : Database) (columns : List JoinedColumn) (settings : List SlotSetting)
    → misses columns (map slot_setting_name settings) ≡ false
    → list_any (λ s. is_long s.value) (map (filled_setting values) settings) ≡ list_any (holds is_past values) (setting_needs tables columns settings)
settings-past values tables columns [] there = refl
settings-past values tables columns (s ∷ settings) there =
    let parts = or_parts (not (fits_one columns (slot_setting_name s))) (misses columns (map slot_setting_name settings)) there in
    one-more values s.slot (λ joined. stored_need tables joined.column.kind) (column_meant columns (slot_setting_name s)) (setting_needs tables columns settings)
    is_past (is_long (slot_value values s.slot)) _ (meant_where_one columns (slot_setting_name s) (not-false (fits_one columns (slot_setting_name s)) parts.0))
    (λ joined e. refl)
    (settings-past values tables columns settings parts.1)

-- no condition's value is stored
condition-past : (values : List Value) (tables : Database) (found : Option JoinedColumn) (c : SlotCond) (rest : List Needed)
    → list_any (holds is_past values) (cons_option (option_map (λ joined. (c.slot, compared_need tables joined.column.kind c.op)) found) rest)
    ≡ list_any (holds is_past values) rest
condition-past values tables None c rest = refl
condition-past values tables (Some joined) c rest = refl

pub conditions-past : (values : List Value) (tables : Database) (columns : List JoinedColumn) (conditions : List SlotCond)
    → list_any (holds is_past values) (condition_needs tables columns conditions) ≡ false
conditions-past values tables columns [] = refl
conditions-past values tables columns (c ∷ conditions) =
    condition-past values tables (column_meant columns c.column) c (condition_needs tables columns conditions) ∙ conditions-past values tables columns conditions

-- ---- names, which no value changes

pub condition-names : (values : List Value) (conditions : List SlotCond)
    → condition_names (map (filled_condition values) conditions) ≡ slot_condition_names conditions
condition-names values conditions = map-map (λ c. c.column) (filled_condition values) conditions

pub setting-names : (values : List Value) (settings : List SlotSetting)
    → map setting_name (map (filled_setting values) settings) ≡ map slot_setting_name settings
setting-names values settings = map-map setting_name (filled_setting values) settings

pub setting-columns : (values : List Value) (settings : List SlotSetting)
    → map (λ s. s.column) (map (filled_setting values) settings) ≡ map (λ s. s.column) settings
setting-columns values settings = map-map (λ s. s.column) (filled_setting values) settings

-- ---- tests, assignments and sources

option-map-map : {X Y Z : Type 0} (g : X → Z) (k : X → Y) (h : Y → Z) → ((x : X) → g x ≡ h (k x)) → (o : Option X)
    → option_map g o ≡ option_map h (option_map k o)
option-map-map g k h same None = refl
option-map-map g k h same (Some x) = ap Some (same x)

pub tests-filled : (values : List Value) (columns : List JoinedColumn) (conditions : List SlotCond)
    → tests_of columns (map (filled_condition values) conditions) ≡ map (filled_test values) (slot_tests_of columns conditions)
tests-filled values columns conditions =
    filter_map-map _ (filled_condition values) conditions
    ∙ filter_map-same _ _ (filled_test values)
    (λ c. option-map-map _ _ (filled_test values) (λ place. refl) (place_meant columns c.column)) conditions

pub assignments-filled : (values : List Value) (columns : List JoinedColumn) (settings : List SlotSetting)
    → assignments_of columns (map (filled_setting values) settings) ≡ map (filled_assignment values) (slot_assignments_of columns settings)
assignments-filled values columns settings =
    filter_map-map _ (filled_setting values) settings
    ∙ filter_map-same _ _ (filled_assignment values)
    (λ s. option-map-map _ _ (filled_assignment values) (λ place. refl) (place_meant columns (slot_setting_name s))) settings

abbrev pub is_slot_on_source : List JoinedColumn → ℕ → SlotCond → Bool
is_slot_on_source columns source c = option_map_or (λ place. place.source == source) (place_meant columns c.column) false

abbrev pub slot_source_of : Database → List JoinedColumn → List SlotCond → ℕ → List ℕ → SlotSource
slot_source_of tables columns conditions source name =
    record { table = number_of name tables; tests = slot_tests_of columns (filter (is_slot_on_source columns source) conditions) }

source-filled : (values : List Value) (tables : Database) (columns : List JoinedColumn) (conditions : List SlotCond) (source : ℕ) (name : List ℕ)
    → source_of tables columns (map (filled_condition values) conditions) source name
    ≡ filled_source values (slot_source_of tables columns conditions source name)
source-filled values tables columns conditions source name =
    ap (λ ts. record { table = number_of name tables; tests = ts })
    (ap (tests_of columns) (filter-map (is_on_source columns source) (filled_condition values) conditions)
    ∙ tests-filled values columns (filter (is_slot_on_source columns source) conditions))

abbrev pub slot_joins_of : Database → List JoinedColumn → List SlotCond → List (List (List ℕ) × Join) → List SlotJoined
slot_joins_of tables columns conditions joins =
    filter_map (λ j. option_map (λ sides. record { source = slot_source_of tables columns conditions (length j.0) j.1.table; outer = sides.0.place; inner = sides.1.place.column }) (join_columns tables j)) joins

joins-filled : (values : List Value) (tables : Database) (columns : List JoinedColumn) (conditions : List SlotCond) (joins : List (List (List ℕ) × Join))
    → joins_of tables columns (map (filled_condition values) conditions) joins
    ≡ map (filled_join values) (slot_joins_of tables columns conditions joins)
joins-filled values tables columns conditions joins =
    filter_map-same _ _ (filled_join values)
    (λ j. option-map-map _ _ (filled_join values)
    (λ sides. ap (λ s. record { source = s; outer = sides.0.place; inner = sides.1.place.column })
    (source-filled values tables columns conditions (length j.0) j.1.table)) (join_columns tables j)) joins

-- ---- all statements

finished-opened : (values : List Value) (checks late : List Check) (needs : List Needed) (t : Template)
    → settled values (first checks (opened needs late t)) ≡ after checks (checked_values values needs late (filled_template values t))
finished-opened values checks late needs t =
    settled-first values checks (opened needs late t) ∙ ap (after checks) (settled-opened values needs late t)

-- what an insert means of its table
abbrev insert_first : Table → List Slot → List Check
insert_first table slots = record { refuses = not (length slots == length table.columns); refusal = WrongNumberOfValues } ∷ []

abbrev insert_means : Database → TableNumber → List Slot → Table → Meant
insert_means tables n slots table = first (insert_first table slots) (opened (row_needs tables table.columns slots) [] (template.Insert n slots))

insert-filled : (values : List Value) (tables : Database) (n : TableNumber) (slots : List Slot) (table : Table)
    → meaning (insert_checks tables table (map (slot_value values) slots)) (resolved.Insert n (map (slot_value values) slots))
    ≡ settled values (insert_means tables n slots table)
insert-filled values tables n slots table =
    let opened = finished-opened values (insert_first table slots) [] (row_needs tables table.columns slots) (template.Insert n slots) in
    elim (cases_Bool (length slots == length table.columns)) [
      | inl t ↦
          rw (
            opened,
            length-map slots (slot_value values),
            row-wrong values tables table.columns slots,
            row-past values tables table.columns slots t,
            t,
          ) refl
      | inr f ↦ rw (opened, length-map slots (slot_value values), f) refl
    ]

-- what a delete means of its table
abbrev delete_first : Table → List SlotCond → List Check
delete_first table conditions = record { refuses = misses (own_columns table) (slot_condition_names conditions); refusal = NoSuchColumn } ∷ []

abbrev too_many : List SlotCond → List Check
too_many conditions = record { refuses = nat_lt 8 (length conditions); refusal = TooMany } ∷ []

abbrev delete_means : Database → TableNumber → List SlotCond → Table → Meant
delete_means tables n conditions table =
    first (delete_first table conditions)
    (opened (condition_needs tables (own_columns table) conditions) (too_many conditions) (template.Delete n (slot_tests_of (own_columns table) conditions)))

delete-filled : (values : List Value) (tables : Database) (n : TableNumber) (conditions : List SlotCond) (table : Table)
    → meaning (delete_checks tables table (map (filled_condition values) conditions)) (resolved.Delete n (tests_of (own_columns table) (map (filled_condition values) conditions)))
    ≡ settled values (delete_means tables n conditions table)
delete-filled values tables n conditions table =
    let columns : List JoinedColumn = own_columns table in
    let opened = finished-opened values (delete_first table conditions) (too_many conditions) (condition_needs tables columns conditions)
    (template.Delete n (slot_tests_of columns conditions)) in
    elim (cases_Bool (misses columns (slot_condition_names conditions))) [
      | inl t ↦ rw (opened, condition-names values conditions, t) refl
      | inr f ↦
          rw (
            opened,
            condition-names values conditions,
            f,
            conditions-wrong values tables columns conditions f,
            conditions-past values tables columns conditions,
            length-map conditions (filled_condition values),
            tests-filled values columns conditions,
          ) refl
    ]

-- what an update means of its table
abbrev update_first : Table → List SlotSetting → List SlotCond → List Check
update_first table settings conditions =
    record { refuses = misses (own_columns table) (map slot_setting_name settings ++ slot_condition_names conditions); refusal = NoSuchColumn }
    ∷ record { refuses = repeats bytes_eq (map (λ s. s.column) settings); refusal = ColumnNamedTwice }
    ∷ []

abbrev update_late : Table → List SlotSetting → List SlotCond → List Check
update_late table settings conditions =
    record { refuses = list_any (λ place. place.column.0 == 0) (places_meant (own_columns table) (map slot_setting_name settings)); refusal = KeyCannotBeSet }
    ∷ record { refuses = nat_lt 8 (length conditions); refusal = TooMany }
    ∷ []

abbrev update_needs : Database → Table → List SlotSetting → List SlotCond → List Needed
update_needs tables table settings conditions =
    setting_needs tables (own_columns table) settings ++ condition_needs tables (own_columns table) conditions

abbrev update_means : Database → TableNumber → List SlotSetting → List SlotCond → Table → Meant
update_means tables n settings conditions table =
    first (update_first table settings conditions)
    (opened (update_needs tables table settings conditions) (update_late table settings conditions)
    (template.Update n (slot_assignments_of (own_columns table) settings) (slot_tests_of (own_columns table) conditions)))

update-filled : (values : List Value) (tables : Database) (n : TableNumber) (settings : List SlotSetting) (conditions : List SlotCond) (table : Table)
    → meaning (update_checks tables table (map (filled_setting values) settings) (map (filled_condition values) conditions))
    (resolved.Update n (assignments_of (own_columns table) (map (filled_setting values) settings)) (tests_of (own_columns table) (map (filled_condition values) conditions)))
    ≡ settled values (update_means tables n settings conditions table)
update-filled values tables n settings conditions table =
    let columns : List JoinedColumn = own_columns table in
    let opened = finished-opened values (update_first table settings conditions) (update_late table settings conditions) (update_needs tables table settings conditions)
    (template.Update n (slot_assignments_of columns settings) (slot_tests_of columns conditions)) in
    elim (cases_Bool (misses columns (map slot_setting_name settings ++ slot_condition_names conditions))) [
      | inl t ↦ rw (opened, setting-names values settings, condition-names values conditions, t) refl
      | inr f ↦
          let split : (misses columns (map slot_setting_name settings) || misses columns (slot_condition_names conditions)) ≡ false =
          sym (list_any-append (λ name. not (fits_one columns name)) (map slot_setting_name settings) (slot_condition_names conditions)) ∙ f in
          let parts = or_parts (misses columns (map slot_setting_name settings)) (misses columns (slot_condition_names conditions)) split in
          rw (
            opened,
            setting-names values settings,
            condition-names values conditions,
            f,
            setting-columns values settings,
            settings-wrong values tables columns settings parts.0,
            conditions-wrong values tables columns conditions parts.1,
            list_any-append (holds is_wrong values) (setting_needs tables columns settings) (condition_needs tables columns conditions),
            list_any-append (holds is_past values) (setting_needs tables columns settings) (condition_needs tables columns conditions),
            conditions-past values tables columns conditions,
            settings-past values tables columns settings parts.0,
            or_false (list_any (holds is_past values) (setting_needs tables columns settings)),
            length-map conditions (filled_condition values),
            tests-filled values columns conditions,
            assignments-filled values columns settings,
          ) refl
    ]

-- what a select means
abbrev select_first : Database → Items → List ℕ → List Join → List SlotCond → List Check
select_first tables its name joins conditions =
    let names = select_names name joins in
    let columns = columns_of tables names in
    let sides = map (join_columns tables) (behind (name ∷ []) joins) in
    record { refuses = list_any (λ n. not (is_some (table_named n tables))) names; refusal = NoSuchTable }
    ∷ record { refuses = misses columns (named_items its ++ slot_condition_names conditions) || list_any is_none sides; refusal = NoSuchColumn }
    ∷ record { refuses = repeats same_place (places_meant columns (named_items its)); refusal = ColumnNamedTwice }
    ∷ record { refuses = repeats bytes_eq names; refusal = TableNamedTwice }
    ∷ record { refuses = list_any (λ s. option_map_or (differ_in_type tables) s false) sides; refusal = WrongType }
    ∷ []

abbrev select_late : Items → List Join → List SlotCond → List Check
select_late its joins conditions =
    record { refuses = nat_lt 16 (length (named_items its)) || nat_lt 8 (length conditions) || nat_lt 3 (length joins); refusal = TooMany } ∷ []

abbrev select_template : Database → Bool → Items → List ℕ → List Join → List SlotCond → Template
select_template tables distinct its name joins conditions =
    let columns = columns_of tables (select_names name joins) in
    template.Select (record {
      distinct = distinct;
      shown = shown_of columns its;
      source = slot_source_of tables columns conditions 0 name;
      joins = slot_joins_of tables columns conditions (behind (name ∷ []) joins);
    })

abbrev select_means : Database → Bool → Items → List ℕ → List Join → List SlotCond → Meant
select_means tables distinct its name joins conditions =
    first (select_first tables its name joins conditions)
    (opened (condition_needs tables (columns_of tables (select_names name joins)) conditions) (select_late its joins conditions)
    (select_template tables distinct its name joins conditions))

select-filled : (values : List Value) (tables : Database) (distinct : Bool) (its : Items) (name : List ℕ) (joins : List Join) (conditions : List SlotCond)
    → meaning (select_checks tables its name joins (map (filled_condition values) conditions)) (select_of tables distinct its name joins (map (filled_condition values) conditions))
    ≡ settled values (select_means tables distinct its name joins conditions)
select-filled values tables distinct its name joins conditions =
    let columns : List JoinedColumn = columns_of tables (select_names name joins) in
    let all : List (List (List ℕ) × Join) = behind (name ∷ []) joins in
    let differ : Bool = list_any (λ s. option_map_or (differ_in_type tables) s false) (map (join_columns tables) all) in
    let opened = finished-opened values (select_first tables its name joins conditions) (select_late its joins conditions) (condition_needs tables columns conditions)
    (select_template tables distinct its name joins conditions) in
    elim (cases_Bool (misses columns (named_items its ++ slot_condition_names conditions))) [
      | inl t ↦ rw (opened, condition-names values conditions, t) refl
      | inr f ↦
          let split : (misses columns (named_items its) || misses columns (slot_condition_names conditions)) ≡ false =
          sym (list_any-append (λ n. not (fits_one columns n)) (named_items its) (slot_condition_names conditions)) ∙ f in
          let parts = or_parts (misses columns (named_items its)) (misses columns (slot_condition_names conditions)) split in
          elim (cases_Bool differ) [
            | inl d ↦
                rw (opened, condition-names values conditions, f, d, or_true (list_any (is_mistyped tables columns) (map (filled_condition values) conditions))) refl
            | inr same ↦
                rw (
                  opened,
                  condition-names values conditions,
                  f,
                  same,
                  conditions-wrong values tables columns conditions parts.1,
                  conditions-past values tables columns conditions,
                  or_false (list_any (holds is_wrong values) (condition_needs tables columns conditions)),
                  length-map conditions (filled_condition values),
                  source-filled values tables columns conditions 0 name,
                  joins-filled values tables columns conditions all,
                ) refl
          ]
    ]

-- what a statement means of tables
abbrev pub resolution_of : Database → Statement → Meant
resolution_of tables (statement.Insert name slots) = option_map_or (insert_means tables (number_of name tables) slots) (table_named name tables) (Err NoSuchTable)
resolution_of tables (statement.Update name settings conditions) =
    option_map_or (update_means tables (number_of name tables) settings conditions) (table_named name tables) (Err NoSuchTable)
resolution_of tables (statement.Delete name conditions) = option_map_or (delete_means tables (number_of name tables) conditions) (table_named name tables) (Err NoSuchTable)
resolution_of tables (statement.Select distinct its name joins conditions) = select_means tables distinct its name joins conditions

on-found : (values : List Value) (f : Table → Means) (g : Table → Meant) → ((t : Table) → f t ≡ settled values (g t)) → (found : Option Table)
    → option_map_or f found (Err NoSuchTable) ≡ settled values (option_map_or g found (Err NoSuchTable))
on-found values f g same None = refl
on-found values f g same (Some t) = same t

pub settles : (tables : Database) (s : Statement) (values : List Value) → resolved_of [] tables (filled values s) ≡ settled values (resolution_of tables s)
settles tables (statement.Insert name slots) values = on-found values _ _ (insert-filled values tables _ slots) (table_named name tables)
settles tables (statement.Update name settings conditions) values =
    on-found values _ _ (update-filled values tables _ settings conditions) (table_named name tables)
settles tables (statement.Delete name conditions) values = on-found values _ _ (delete-filled values tables _ conditions) (table_named name tables)
settles tables (statement.Select distinct its name joins conditions) values = select-filled values tables distinct its name joins conditions

matched : (tables : Database) (s : Statement) (m : Meant) → ((values : List Value) → resolved_of [] tables (filled values s) ≡ settled values m)
    → MatchResult m (Resolves tables s) (Refuses tables s)
matched tables s (Ok r) is = is
matched tables s (Err why) is = is

pub filled_is_finished : FilledIsFinished
filled_is_finished tables s = (resolution_of tables s, matched tables s (resolution_of tables s) (settles tables s))
