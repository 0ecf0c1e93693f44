-- Loads taken back: a delete of the rows that were loaded leaves the database as it was.
use Rattle.std.proofs.Common.{◌≡◌, ◌≢◌, ◌+◌, ℕ, zero, suc, Bool, true, false, not, set, get_or, length, length-append, arith, List, [], ◌∷◌, ◌++◌, inl, inr, refl, sym, ap, ◌∙◌, subst, Some}
use Rattle.std.specs.Prelude.{Ok, ◌||◌, ◌&&◌}
use Rattle.std.specs.List.{All, AllPairs, list_any, filter, flat_map, slice_get}
use Rattle.std.specs.Str.{bytes_eq}
use Rattle.std.specs.Ordering.{is_eq, is_lt}
use Rattle.std.specs.declared.cmp.Ordering.{Ordering}
use Rattle.std.specs.declared.cmp.Ordering.TheVariants.{Less, Equal, Greater}
use Rattle.std.proofs.lemmas.Bool.{and_parts, or_parts, or_from, not-true, not_from_false, both_ways, false_from_ne_true, false≢true}
use Rattle.std.proofs.lemmas.Cmp.{tied_itself}
use Rattle.std.proofs.lemmas.List.Elements.{All-filter, All-set, All-weaker, filter-append, filter_agree, filter_passes}
use Rattle.std.proofs.lemmas.List.Filters.{length-filter_both}
use Rattle.std.proofs.lemmas.List.Folds.{list_any_none}
use Rattle.std.proofs.lemmas.Option.{none-some, same_Some, slice_get_within}
use Rattle.std.proofs.lemmas.Slice.Eq.{bytes_eq-Decides}
use Rattle.common_lemmas.proofs.Filters.{filter_all, filter_none, filter-filter}
use Rattle.common_lemmas.proofs.Orders.{is_lt-Less, is_eq-Equal, is_eq-reverse}
use Rattle.plain_tables.specs.Tables.{Table, Row, AreRising, key_cmp, has_key_of, with_row}
use Rattle.plain_tables.specs.Databases.{Database, is_named, table_named}
use Rattle.plain_tables.specs.Effects.{Effect, Changed, grown_by}
use Rattle.plain_tables.specs.References.{Reference, references, table_references, is_held, is_to, is_referenced, IsRowOf, IsSoundTable, IsSound}
use Rattle.plain_tables.specs.Doing.{in_record, left_with, with_record, loaded, picked, without, delete}
use Rattle.plain_tables.specs.ResolvedLaws.{LoadCanBeTakenBack}
use Rattle.plain_tables.specs.declared.command.Limits.{Limits}
use Rattle.plain_tables.specs.declared.numbers.TableNumber.{TableNumber}
use Rattle.std.proofs.lemmas.List.{set-set}
use Rattle.plain_tables.proofs.Effects.{insert_satisfies, goes_on_parts}
use Rattle.plain_tables.proofs.Held.{RowsFit, row_holds}
use Rattle.common_lemmas.proofs.Pairs.{AllPairs-head, AllPairs-tail}
use Rattle.common_lemmas.proofs.Elements.{All-at, All-flat_map}
use Rattle.common_lemmas.proofs.Tests.{any_agree}
use Rattle.common_lemmas.proofs.Options.{not_Ok, same_Ok}
use Rattle.common_lemmas.proofs.Places.{set_itself, slice_get_set}
use Rattle.plain_tables.proofs.Referring.{refers_not_to_itself, references_elsewhere}
use Rattle.plain_tables.proofs.Rows.{key_cmp_total, key_cmp-one_way, apart_by_key, with_row-rises}

-- ---- keys

is_eq_apart : (o : Ordering) → is_lt o ≡ true → is_eq o ≡ false
is_eq_apart Less h = refl
is_eq_apart Equal h = absurd (false≢true h)
is_eq_apart Greater h = absurd (false≢true h)

-- keys are one whichever comes first
pub one_key : (r s : Row) → is_eq (key_cmp r s) ≡ is_eq (key_cmp s r)
one_key r s = ap is_eq (key_cmp_total.antisymm r s) ∙ is_eq-reverse (key_cmp s r)

-- rows of one key are in the same lists
same_key : (rows : List Row) (r s : Row) → key_cmp r s ≡ Equal → has_key_of r rows ≡ has_key_of s rows
same_key rows r s same =
    any_agree (λ x. is_eq (key_cmp x r)) (λ x. is_eq (key_cmp x s))
    (λ x. one_key x r ∙ ap is_eq (key_cmp_total.congr r s x same) ∙ one_key s x) rows

-- ---- a row put in and taken out

-- rows that rise, around a row of a new key
rows_around : (row : Row) (rows : List Row) → AreRising rows → has_key_of row rows ≡ false
    → filter (λ r. is_lt (key_cmp r row)) rows ++ filter (λ r. is_lt (key_cmp row r)) rows ≡ rows
rows_around row [] rise new = refl
rows_around row (r ∷ rows) rise new =
    let R : Row → Row → Type 0 = λ s t. key_cmp s t ≡ Less in
    let parts = or_parts (is_eq (key_cmp r row)) (has_key_of row rows) new in
    elim (apart_by_key (key_cmp r row) r row refl parts.0) [
      | inl below ↦
          rw (below, key_cmp-one_way r row below) (ap (λ rs. r ∷ rs) (rows_around row rows (AllPairs-tail R r rows rise) parts.1))
      | inr above ↦
          let first : key_cmp row r ≡ Less = is_lt-Less (key_cmp row r) above in
          let later = All-weaker (R r) (λ s. is_lt (key_cmp row s) ≡ true) (λ s h. ap is_lt (key_cmp_total.trans row r s first h)) rows
          (AllPairs-head R r rows rise)
          in
          let none = filter_none (λ s. is_lt (key_cmp s row)) rows
          (All-weaker (λ s. is_lt (key_cmp row s) ≡ true) (λ s. is_lt (key_cmp s row) ≡ false)
          (λ s. key_cmp-one_way row s) rows later) in
          let all = filter_all (λ s. is_lt (key_cmp row s)) rows later in
          rw (key_cmp-one_way row r above, above, none, all) refl
    ]

-- without the rows of its key the rows are as before it was put in
taken_out : (row : Row) (rows : List Row) → AreRising rows → has_key_of row rows ≡ false
    → filter (λ r. not (is_eq (key_cmp row r))) (with_row row rows) ≡ rows
taken_out row rows rise new =
    let other : Row → Bool = λ r. not (is_eq (key_cmp row r)) in
    let below : Row → Bool = λ r. is_lt (key_cmp r row) in
    let above : Row → Bool = λ r. is_lt (key_cmp row r) in
    let lower : filter other (filter below rows) ≡ filter below rows =
    filter_all other (filter below rows)
    (All-weaker (λ r. below r ≡ true) (λ r. other r ≡ true)
    (λ r h. not_from_false (is_eq (key_cmp row r)) (one_key row r ∙ is_eq_apart (key_cmp r row) h)) (filter below rows)
    (filter_passes below rows)) in
    let higher = filter_all other (filter above rows)
    (All-weaker (λ r. above r ≡ true) (λ r. other r ≡ true)
    (λ r h. not_from_false (is_eq (key_cmp row r)) (is_eq_apart (key_cmp row r) h)) (filter above rows)
    (filter_passes above rows)) in
    filter-append other (filter below rows) (row ∷ filter above rows)
    ∙ (rw (lower, tied_itself key_cmp_total row, higher) (rows_around row rows rise new))

pub one_row_more : (row : Row) (rows : List Row) → AreRising rows → has_key_of row rows ≡ false
    → length (with_row row rows) ≡ suc (length rows)
one_row_more row rows rise new =
    let both : length (filter (λ r. is_lt (key_cmp r row)) rows) + length (filter (λ r. is_lt (key_cmp row r)) rows) ≡ length rows =
    sym (length-append (filter (λ r. is_lt (key_cmp r row)) rows) (filter (λ r. is_lt (key_cmp row r)) rows)) ∙ ap length
    (rows_around row rows rise new)
    in
    rw length-append (omega arith)

-- ---- rows put in

-- Rows that were put in before others: before, no row had one of their keys. Afterwards those that have none are the rows
-- from before, and there are so many more.
record ArePutIn (rows before after : List Row) : Type 0 where
  fresh : All (λ r. has_key_of r rows ≡ false) before
  kept : filter (λ r. not (has_key_of r rows)) after ≡ before
  counted : length after ≡ length before + length rows

-- what has no key of several rows has none of the first and none of the others
neither : (x y : Bool) → not (x || y) ≡ (not y && not x)
neither true true = refl
neither true false = refl
neither false true = refl
neither false false = refl

put_in_more : (row : Row) (rows before after : List Row) → AreRising before → has_key_of row before ≡ false
    → ArePutIn rows (with_row row before) after → ArePutIn (row ∷ rows) before after
put_in_more row rows before after rise new later =
    let other : Row → Bool = λ r. not (is_eq (key_cmp row r)) in
    let lacks : Row → Bool = λ r. not (has_key_of r rows) in
    let out = taken_out row before rise new in
    let passing = filter_passes other (with_row row before) in
    let lacking = All-filter other (λ r. has_key_of r rows ≡ false) (with_row row before) later.fresh in
    record {
      fresh =
          subst (All (λ r. has_key_of r (row ∷ rows) ≡ false)) out
          (λ k d l. or_from (is_eq (key_cmp row (get_or (filter other (with_row row before)) k d)))
          (has_key_of (get_or (filter other (with_row row before)) k d) rows)
          (not-true (is_eq (key_cmp row (get_or (filter other (with_row row before)) k d))) (passing k d l)) (lacking k d l));
      kept =
          filter_agree (λ r. not (has_key_of r (row ∷ rows))) (λ r. lacks r && other r)
          (λ r. neither (is_eq (key_cmp row r)) (has_key_of r rows)) after
          ∙ sym (filter-filter other lacks after) ∙ ap (filter other) later.kept ∙ out;
      counted =
          let one = one_row_more row before rise new in
          let more = later.counted in
          omega arith;
    }

-- a record that is loaded has a new key, and its row is in the table
record_put_in : (limits : Limits) (tables : Database) (n : TableNumber) (k : ℕ) (row : Row) (first : Database)
    → with_record limits tables n k row ≡ Ok first
    → (table : Table) × (slice_get tables n.0 ≡ Some table) × (has_key_of row table.rows ≡ false)
    × (first ≡ set tables n.0 (grown_by row table))
record_put_in limits tables n k row first is =
    insert_satisfies
    (λ e. left_with k e.database e.outcome ≡ Ok first
    → (table : Table) × (slice_get tables n.0 ≡ Some table) × (has_key_of row table.rows ≡ false)
    × (first ≡ set tables n.0 (grown_by row table)))
    limits tables n row (λ why h. absurd (not_Ok (in_record k why) first h))
    (λ table there passed h. (table, there, passed.0, sym (same_Ok (set tables n.0 (grown_by row table)) first h))) is

-- the table with these rows
abbrev having : Table → List Row → Table
having table rows = record table { rows = rows }

loaded_put_in : (limits : Limits) (tables : Database) (n : TableNumber) (table : Table) (k : ℕ) (rows : List Row) (new : Database)
    (before : List Row)
    → slice_get tables n.0 ≡ Some (having table before) → AreRising before → loaded limits tables n k rows ≡ Ok new
    → (after : List Row) × (new ≡ set tables n.0 (having table after)) × ArePutIn rows before after
loaded_put_in limits tables n table k [] new before there rise all = (
  before,
  sym (same_Ok tables new all) ∙ sym (set_itself tables n.0 (having table before) there),
  record {
    fresh = λ i d l. refl;
    kept = filter_all (λ r. not (has_key_of r [])) before (λ k d l. refl);
    counted = omega arith;
  },
)
loaded_put_in limits tables n table k (row ∷ rows) new before there rise all =
    let (first, one, others) = goes_on_parts (λ d. loaded limits d n (k + 1) rows) (with_record limits tables n k row) new all in
    let (found, at, fresh, grown) = record_put_in limits tables n k row first one in
    let is : found ≡ having table before = same_Some found (having table before) (sym at ∙ there) in
    let more : Table = having table (with_row row before) in
    let left : first ≡ set tables n.0 more = grown ∙ ap (λ t. set tables n.0 (grown_by row t)) is in
    let absent : has_key_of row before ≡ false = subst (λ (t : Table). has_key_of row t.rows ≡ false) is fresh in
    let here : slice_get first n.0 ≡ Some more =
    ap (λ d. slice_get d n.0) left ∙ slice_get_set tables n.0 more (slice_get_within tables n.0 (having table before) there) in
    let (after, last, put) = loaded_put_in limits first n table (k + 1) rows new (with_row row before) here
    (with_row-rises row before rise) others in (
      after,
      last ∙ ap (λ d. set d n.0 (having table after)) left ∙ set-set tables n.0 more (having table after),
      put_in_more row rows before after rise absent put,
    )

-- ---- no row refers to those that were loaded

-- a table is found by its name
named_at : (tables : Database) (n : ℕ) (table : Table) → slice_get tables n ≡ Some table → AllPairs (λ t u. t.name ≢ u.name) tables
    → table_named table.name tables ≡ Some table
named_at [] n table there apart = absurd (none-some table there)
named_at (t ∷ tables) zero table there apart =
    let here : t ≡ table = same_Some t table there in
    let named : is_named table.name t ≡ true = (bytes_eq-Decides t.name table.name).1 (ap (λ u. u.name) here) in
    rw named there
named_at (t ∷ tables) (suc n) table there apart =
    let other = All-at (λ u. t.name ≢ u.name) tables n table (AllPairs-head (λ t u. t.name ≢ u.name) t tables apart) there in
    let unnamed : is_named table.name t ≡ false = false_from_ne_true (bytes_eq t.name table.name)
    (λ e. other ((bytes_eq-Decides t.name table.name).0 e)) in
    rw unnamed (named_at tables n table there (AllPairs-tail (λ t u. t.name ≢ u.name) t tables apart))

-- a reference, if it is to this table, is to one of its rows
abbrev NamesRowOf : Table → Reference → Type 0
NamesRowOf table r = bytes_eq table.name r.0 ≡ true → has_key_of (r.1 ∷ []) table.rows ≡ true

held_names_row : (tables : Database) (table : Table) → table_named table.name tables ≡ Some table → (r : Reference)
    → is_held tables r ≡ true
    → NamesRowOf table r
held_names_row tables table named r held to =
    let found : table_named r.0 tables ≡ Some table =
    subst (λ name. table_named name tables ≡ Some table) ((bytes_eq-Decides table.name r.0).0 to) named in
    rw found at held

all_name_rows : (limits : Limits) (tables : Database) (n : ℕ) (table : Table) (rows : List Row) → IsSound limits tables
    → slice_get tables n ≡ Some table
    → All (NamesRowOf table) (flat_map table_references (set tables n (having table rows)))
all_name_rows limits tables n table rows sound there =
    let named = named_at tables n table there sound.apart in
    let elsewhere = refers_not_to_itself [] tables n table there sound.refer_back sound.apart in
    let fine : Table → Type 0 = λ t. All (NamesRowOf table) (table_references t) in
    All-flat_map (NamesRowOf table) table_references (set tables n (having table rows))
    (All-set fine tables n (having table rows)
    (All-flat_map (NamesRowOf table) (references table.columns) rows
    (λ k d l. All-weaker (λ r. bytes_eq table.name r.0 ≡ false) (NamesRowOf table)
    (λ r other to. absurd (both_ways (bytes_eq table.name r.0) other to))
    (references table.columns (get_or rows k d)) (references_elsewhere table.name table.columns (get_or rows k d) elsewhere)))
    (All-weaker (RowsFit tables) fine
    (λ t fit. All-flat_map (NamesRowOf table) (references t.columns) t.rows
    (All-weaker (IsRowOf tables t.columns) (λ row. All (NamesRowOf table) (references t.columns row))
    (λ row fits. All-weaker (λ r. is_held tables r ≡ true) (NamesRowOf table) (held_names_row tables table named)
    (references t.columns row) (row_holds tables t.columns row fits)) t.rows fit)) tables sound.rows_fit))

-- a reference to one of the rows from before isn't to a row that has the key of one that was put in
is_to_another : (table : Table) (rows : List Row) → All (λ r. has_key_of r rows ≡ false) table.rows → (row : Row)
    → has_key_of row rows ≡ true
    → (r : Reference) → NamesRowOf table r → is_to table.name row r ≡ false
is_to_another table rows fresh row has r names =
    false_from_ne_true (is_to table.name row r) (λ to.
    let parts = and_parts (bytes_eq table.name r.0) (is_eq (key_cmp row (r.1 ∷ []))) to in
    let key : Row = r.1 ∷ [] in
    both_ways (has_key_of key table.rows)
    (list_any_none (λ s. is_eq (key_cmp s key)) table.rows
    (All-weaker (λ s. has_key_of s rows ≡ false) (λ s. is_eq (key_cmp s key) ≡ false)
    (λ s lacks. false_from_ne_true (is_eq (key_cmp s key)) (λ same.
    let with_key : has_key_of row rows ≡ has_key_of key rows = same_key rows row key (is_eq-Equal (key_cmp row key) parts.1) in
    let with_old : has_key_of s rows ≡ has_key_of key rows = same_key rows s key (is_eq-Equal (key_cmp s key) same) in
    both_ways (has_key_of s rows) lacks (with_old ∙ sym with_key ∙ has))) table.rows fresh))
    (names parts.0))

none_referenced : (limits : Limits) (tables : Database) (n : ℕ) (table : Table) (rows after : List Row) → IsSound limits tables
    → slice_get tables n ≡ Some table → All (λ r. has_key_of r rows ≡ false) table.rows
    → list_any (is_referenced (set tables n (having table after)) table.name) (filter (λ row. has_key_of row rows) after) ≡ false
none_referenced limits tables n table rows after sound there fresh =
    let others : Database = set tables n (having table after) in
    let refs : List Reference = flat_map table_references others in
    list_any_none (is_referenced others table.name) (filter (λ row. has_key_of row rows) after)
    (All-weaker (λ row. has_key_of row rows ≡ true) (λ row. is_referenced others table.name row ≡ false)
    (λ row has. list_any_none (is_to table.name row) refs
    (All-weaker (NamesRowOf table) (λ r. is_to table.name row r ≡ false) (is_to_another table rows fresh row has) refs
    (all_name_rows limits tables n table after sound there)))
    (filter (λ row. has_key_of row rows) after) (filter_passes (λ row. has_key_of row rows) after))

-- ---- taken back

-- where no row that is picked is referred to, a delete takes the picked rows out
deleted : (tables : Database) (n : TableNumber) (table : Table) (picks : Row → Bool) → slice_get tables n.0 ≡ Some table
    → list_any (is_referenced tables table.name) (picked picks table) ≡ false
    → delete tables n picks ≡ record {
      database = set tables n.0 (without picks table);
      outcome = Changed
          (length (picked picks table));
    }
deleted tables n table picks there free = rw (there, free) refl

pub load_can_be_taken_back : LoadCanBeTakenBack
load_can_be_taken_back limits tables new n k rows sound (table, there, t) all =
    let table_sound : IsSoundTable limits table = All-at (IsSoundTable limits) tables n.0 table sound.each there in
    let (after, is, put) = loaded_put_in limits tables n table k rows new table.rows there table_sound.rows_rise all in
    let picks : Row → Bool = λ row. has_key_of row rows in
    let last : Table = having table after in
    let others : Database = set tables n.0 last in
    let made : Database → ℕ → Effect = λ d count. record { database = d; outcome = Changed count } in
    let gone = deleted others n last picks (slice_get_set tables n.0 last (slice_get_within tables n.0 table there))
    (none_referenced limits tables n.0 table rows after sound there put.fresh) in
    let back : set others n.0 (without picks last) ≡ tables =
    set-set tables n.0 last (without picks last) ∙ ap (λ rs. set tables n.0 (having table rs)) put.kept
    ∙ set_itself tables n.0 table there in
    let count : length (picked picks last) ≡ length rows =
    let both = length-filter_both picks (λ row. not (picks row)) (λ row. refl) after in
    let kept = ap length put.kept in
    let counted = put.counted in
    omega arith
    in
    ap (λ d. delete d n picks) is ∙ gone ∙ ap (λ d. made d (length (picked picks last))) back ∙ ap (made tables) count
