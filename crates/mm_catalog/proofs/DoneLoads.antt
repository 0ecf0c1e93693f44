-- A load that is done leaves the same whatever the order of its rows.
use Rattle.std.proofs.Common.{◌≡◌, ℕ, ◌+◌, ◌<◌, ◌≤◌, true, false, List, [], ◌∷◌, Some, refl, sym, ap, ◌∙◌, subst, arith, length, set, get_or, inl, inr}
use Rattle.std.specs.Prelude.{Result, Ok, Err}
use Rattle.std.specs.List.{All, AllZip, count_by, list_all, slice_get}
use Rattle.std.specs.List.Sorted.{IsPermutation}
use Rattle.std.specs.Ordering.{is_eq, ordering_reverse}
use Rattle.std.specs.Str.{bytes_eq}
use Rattle.std.proofs.lemmas.Bool.{both_ways, cases_Bool, leb-false, not-false}
use Rattle.std.proofs.lemmas.List.{set-set}
use Rattle.std.proofs.lemmas.List.Elements.{All-contains, All-contains_itself, All-cons, All-nil, All-weaker}
use Rattle.std.proofs.lemmas.List.Folds.{list_any_none}
use Rattle.std.proofs.lemmas.List.Sorted.{IsPermutation-sym}
use Rattle.std.proofs.lemmas.List.Sums.{sum_by-cons}
use Rattle.std.proofs.lemmas.Option.{same_Some, slice_get_within}
use Rattle.common_lemmas.proofs.Counts.{one}
use Rattle.common_lemmas.proofs.Elements.{AllZip-set, All-from_list_all}
use Rattle.common_lemmas.proofs.Orders.{is_eq-Equal, is_eq-reverse}
use Rattle.common_lemmas.proofs.Options.{not_Ok, same_Ok}
use Rattle.common_lemmas.proofs.Places.{set_itself, slice_get_set}
use Rattle.common_lemmas.proofs.Tests.{fails_where_none}
use Rattle.plain_tables.specs.Tables.{Table, Row, AreRising, key_cmp, has_key_of, with_row}
use Rattle.plain_tables.specs.Databases.{Database}
use Rattle.plain_tables.specs.Doing.{in_record, left_with, loaded, load_effect, load, with_record}
use Rattle.plain_tables.specs.Effects.{Changed, grown_by}
use Rattle.plain_tables.specs.References.{Reference, is_held, references}
use Rattle.plain_tables.specs.declared.command.Limits.{Limits}
use Rattle.plain_tables.specs.declared.numbers.TableNumber.{TableNumber}
use Rattle.plain_tables.specs.declared.refusal.Refusal.{Refusal}
use Rattle.plain_tables.proofs.Effects.{goes_on_parts, insert_satisfies}
use Rattle.plain_tables.proofs.Held.{KeepsKey, keeps_itself, held_stays}
use Rattle.plain_tables.proofs.Referring.{RefersElsewhere, references_elsewhere}
use Rattle.plain_tables.proofs.Rows.{key_cmp_total, with_row-rises}
use Rattle.plain_tables.proofs.Taken.{one_row_more}
use Rattle.mm_catalog.proofs.AnyOrder.{has_key, AllHeld, AllNew, other_with, member_with, load_in_any_order}
use Rattle.mm_catalog.proofs.Anywhere.{all_pass, none_counted}

-- ---- a table with a row of a new key more

-- rows that are new beside it are new without it, and none has its key
module _ (most : ℕ) (row : Row) (held rows : List Row) (fresh : has_key_of row held ≡ false) (new : AllNew most (with_row row held) rows) where
  absent : (r : Row) → has_key_of r (with_row row held) ≡ false → All (λ s. is_eq (key_cmp s r) ≡ false) (with_row row held)
  absent r none = fails_where_none (λ s. is_eq (key_cmp s r)) (with_row row held) none

  others_apart : All (λ r. is_eq (key_cmp row r) ≡ false) rows
  others_apart = All-weaker (λ r. has_key_of r (with_row row held) ≡ false) (λ r. is_eq (key_cmp row r) ≡ false)
      (λ r none. All-contains (λ s. is_eq (key_cmp s r) ≡ false) (with_row row held) row (absent r none) (member_with row held)) rows new.fresh

  still_new : All (λ r. has_key_of r held ≡ false) rows
  still_new = All-weaker (λ r. has_key_of r (with_row row held) ≡ false) (λ r. has_key_of r held ≡ false)
      (λ r none. list_any_none (λ s. is_eq (key_cmp s r)) held (λ k d l.
      let s = get_or held k d in
      let there = All-contains_itself held k d l in
      let other = fails_where_none (λ q. is_eq (key_cmp q row)) held fresh k d l in
      All-contains (λ q. is_eq (key_cmp q r) ≡ false) (with_row row held) s (absent r none) (other_with row held s there other))) rows new.fresh

  none_alike : (key : Row) → has_key key row ≡ true → All (λ r. has_key key r ≡ false) rows
  none_alike key same = All-weaker (λ r. is_eq (key_cmp row r) ≡ false) (λ r. has_key key r ≡ false)
      (λ r other. ap is_eq (key_cmp_total.antisymm r key ∙ ap ordering_reverse (sym (key_cmp_total.congr row key r (is_eq-Equal (key_cmp row key) same)))) ∙ is_eq-reverse (key_cmp row r) ∙ other)
      rows others_apart

  pub with_first : AreRising held → length (with_row row held) ≤ most → AllNew most held (row ∷ rows)
  with_first rise few = record {
    room = omega (arith, new.room, one_row_more row held rise fresh);
    apart = λ key.
        let all : count_by (has_key key) (row ∷ rows) ≡ one (has_key key) row + count_by (has_key key) rows = sum_by-cons (one (has_key key)) row rows in
        elim (cases_Bool (has_key key row)) [
          | inr other ↦
              let here : one (has_key key) row ≡ 0 = rw other refl in
              omega (arith, all, here, new.apart key)
          | inl same ↦
              let here : one (has_key key) row ≡ 1 = rw same refl in
              omega (arith, all, here, none_counted (has_key key) rows (none_alike key same))
        ];
    fresh = All-cons (λ r. has_key_of r held ≡ false) row rows fresh still_new;
  }

-- ---- loads that are done

module _ (limits : Limits) (n : TableNumber) where
  -- what is held with a row more was held before, but in the row's table
  held_before : (tables : Database) (table : Table) (row : Row) → slice_get tables n.0 ≡ Some table → (r : Reference) → bytes_eq table.name r.0 ≡ false
      → is_held (set tables n.0 (grown_by row table)) r ≡ true → is_held tables r ≡ true
  held_before tables table row there r other =
      let grown = grown_by row table in
      let next = set tables n.0 grown in
      let keeps : KeepsKey r grown table = (refl, λ named held. absurd (both_ways (bytes_eq table.name r.0) other named)) in
      let here = slice_get_set tables n.0 grown (slice_get_within tables n.0 table there) in
      let again : set next n.0 table ≡ tables = set-set tables n.0 grown table ∙ set_itself tables n.0 table there in
      held_stays r next tables (subst (AllZip (KeepsKey r) next) again (AllZip-set (KeepsKey r) (keeps_itself r) next n.0 grown table here keeps))

  all_held_before : (tables : Database) (table : Table) (row : Row) → slice_get tables n.0 ≡ Some table → RefersElsewhere table.name table
      → (rows : List Row) → AllHeld (set tables n.0 (grown_by row table)) table.columns rows → AllHeld tables table.columns rows
  all_held_before tables table row there elsewhere rows held = λ k d l.
      let r = get_or rows k d in
      let next = set tables n.0 (grown_by row table) in
      let names = All-from_list_all (is_held next) (references table.columns r) (held k d l) in
      all_pass (is_held tables) (references table.columns r) (λ i e m.
      held_before tables table row there (get_or (references table.columns r) i e) (references_elsewhere table.name table.columns r elsewhere i e m) (names i e m))

  -- The rows come in, one after the other: each row that they name is there, and all are new.
  abbrev Come : Database → Table → List Row → Type 0
  Come tables table rows = AllHeld tables table.columns rows × AllNew limits.rows table.rows rows

  come_next : (tables : Database) (table : Table) (k : ℕ) (row : Row) (rows : List Row) (first : Database) → slice_get tables n.0 ≡ Some table
      → RefersElsewhere table.name table → AreRising table.rows → with_record limits tables n k row ≡ Ok first
      → ((mid : Table) → mid ≡ grown_by row table → slice_get first n.0 ≡ Some mid → length mid.rows ≤ limits.rows → Come first mid rows)
      → Come tables table (row ∷ rows)
  come_next tables table k row rows first there elsewhere rise is later =
      insert_satisfies (λ e. left_with k e.database e.outcome ≡ Ok first → Come tables table (row ∷ rows)) limits tables n row
      (λ why h. absurd (not_Ok (in_record k why) first h))
      (λ found at passed h.
      let same : found ≡ table = same_Some found table (sym at ∙ there) in
      let grown = grown_by row table in
      let next = set tables n.0 grown in
      let left : first ≡ next = sym (same_Ok (set tables n.0 (grown_by row found)) first h) ∙ ap (λ t. set tables n.0 (grown_by row t)) same in
      let fresh : has_key_of row table.rows ≡ false = subst (λ (t : Table). has_key_of row t.rows ≡ false) same passed.0 in
      let names : list_all (is_held tables) (references table.columns row) ≡ true = subst (λ (t : Table). list_all (is_held tables) (references t.columns row) ≡ true) same (not-false _ passed.1.0) in
      let under : length table.rows < limits.rows = subst (λ (t : Table). length t.rows < limits.rows) same (leb-false limits.rows (length found.rows) passed.1.1.0) in
      let few : length (with_row row table.rows) ≤ limits.rows = omega (arith, under, one_row_more row table.rows rise fresh) in
      let here : slice_get first n.0 ≡ Some grown = ap (λ d. slice_get d n.0) left ∙ slice_get_set tables n.0 grown (slice_get_within tables n.0 table there) in
      let (held, new) = later grown refl here few in (
        All-cons (λ r. list_all (is_held tables) (references table.columns r) ≡ true) row rows names
            (all_held_before tables table row there elsewhere rows (subst (λ d. AllHeld d table.columns rows) left held)),
        with_first limits.rows row table.rows rows fresh new rise few,
      )) is

  all_come : (tables : Database) (table : Table) (k : ℕ) (rows : List Row) (new : Database) → slice_get tables n.0 ≡ Some table
      → RefersElsewhere table.name table → AreRising table.rows → length table.rows ≤ limits.rows → loaded limits tables n k rows ≡ Ok new → Come tables table rows
  all_come tables table k [] new there elsewhere rise few all = (
    All-nil (λ row. list_all (is_held tables) (references table.columns row) ≡ true),
    record { room = omega (arith, few); apart = λ key. omega arith; fresh = All-nil (λ row. has_key_of row table.rows ≡ false) },
  )
  all_come tables table k (row ∷ rows) new there elsewhere rise few all =
      let (first, one, others) = goes_on_parts (λ d. loaded limits d n (k + 1) rows) (with_record limits tables n k row) new all in
      come_next tables table k row rows first there elsewhere rise one
      (λ mid same here room. all_come first mid (k + 1) rows new here (subst (λ (t : Table). RefersElsewhere t.name t) (sym same) elsewhere)
      (subst (λ (t : Table). AreRising t.rows) (sym same) (with_row-rises row table.rows rise)) room others)

  -- so a load that is done in an order is the same in another
  pub load_moved : (tables : Database) (table : Table) (rows others : List Row) (count : ℕ) → slice_get tables n.0 ≡ Some table
      → RefersElsewhere table.name table → AreRising table.rows → length table.rows ≤ limits.rows → IsPermutation rows others
      → (load limits tables n others).outcome ≡ Changed count → load limits tables n others ≡ load limits tables n rows
  load_moved tables table rows others count there elsewhere rise few moved done =
      by_answer (loaded limits tables n 1 others) refl (done_answer (loaded limits tables n 1 others) done)
    where
      done_answer : (answer : Result Database Refusal) → (load_effect tables others answer).outcome ≡ Changed count → (new : Database) × (answer ≡ Ok new)
      done_answer (Ok new) h = (new, refl)
      done_answer (Err why) h = cc

      by_answer : (answer : Result Database Refusal) → loaded limits tables n 1 others ≡ answer → (new : Database) × (answer ≡ Ok new) → load limits tables n others ≡ load limits tables n rows
      by_answer answer is (new, ok) =
          let (held, all) = all_come tables table 1 others new there elsewhere rise few (is ∙ ok) in
          sym (load_in_any_order limits n tables table others rows there held rise all (IsPermutation-sym rows others moved))
