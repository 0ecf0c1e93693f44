-- Many rows: rows of values that make changes of a statement, and what comes of them.
use Rattle.std.proofs.Common.{◌≡◌, ◌∙◌, ◌+◌, ℕ, suc, List, [], ◌∷◌, ◌++◌, drop, map, length, refl, sym, ap, subst, take, arith, Option, None, Result, Ok, Err, Some}
use Rattle.std.specs.Prelude.{slice_set}
use Rattle.std.specs.List.{All, slice_get}
use Rattle.std.specs.Option.{option_map_or}
use Rattle.std.proofs.lemmas.List.{length-map}
use Rattle.std.proofs.lemmas.List.Elements.{All-append, All-cons, All-head, All-nil, All-tail}
use Rattle.std.proofs.Math.Seq.{drop-cons, take-suc}
use Rattle.std.proofs.lemmas.Option.{get_or_from_slice_get, slice_get_within}
use Rattle.common_lemmas.proofs.Places.{slice_get_set}
use Rattle.plain_tables.specs.Databases.{Database}
use Rattle.plain_tables.specs.Doing.{goes_on, insert, insert_checks, left_with, load, load_effect, loaded}
use Rattle.plain_tables.specs.Effects.{Changed, Effect, Refused, checked, grown_by, refused}
use Rattle.plain_tables.specs.ResolvedLaws.{OfTable}
use Rattle.plain_tables.specs.Tables.{Row, Table}
use Rattle.plain_tables.specs.declared.command.Limits.{Limits}
use Rattle.plain_tables.specs.declared.numbers.TableNumber.{TableNumber}
use Rattle.plain_tables.specs.declared.refusal.Refusal.{Refusal}
use Rattle.plain_tables.specs.declared.refusal.Refusal.TheVariants.{NoSuchTable}
use Rattle.plain_tables.specs.declared.resolved.Resolved.{Resolved}
use Rattle.plain_tables.specs.declared.resolved.Resolved.TheVariants as resolved
use Rattle.plain_tables.specs.declared.value.Value.{Value}
use Rattle.plain_tables.proofs.Effects.{checked_satisfies}
use Rattle.plain_statements.specs.declared.resolution.Resolution.{Resolution}
use Rattle.plain_statements.specs.Finishing.{finished}
use Rattle.mm_prepared.specs.Many.{IsChangeWith, after_outcome, all_or_none, as_change, each_in_turn, effect_with, effect_with_each, first_refusal, first_unfit, refusal_or}

-- from a place on there is its item, and what stands behind that
pub from-place : {X : Type 0} (xs : List X) (k : ℕ) (x : X) → slice_get xs k ≡ Some x → drop k xs ≡ x ∷ drop (k + 1) xs
from-place xs k x at =
    let next : suc k ≡ k + 1 = omega arith in
    drop-cons xs k x (slice_get_within xs k x at) ∙ ap (λ y. y ∷ drop (suc k) xs) (get_or_from_slice_get xs k x x at) ∙ ap (λ j. x ∷ drop j xs) next

-- what holds of those before a place and of its item holds of all of these
pub all-next : {X : Type 0} (P : X → Type 0) (xs : List X) (k : ℕ) (x : X) → slice_get xs k ≡ Some x → All P (take k xs) → P x → All P (take (k + 1) xs)
all-next P xs k x at before here =
    let next : suc k ≡ k + 1 = omega arith in
    let taken : take (k + 1) xs ≡ take k xs ++ x ∷ [] =
    ap (λ j. take j xs) (sym next) ∙ take-suc xs k x (slice_get_within xs k x at) ∙ ap (λ y. take k xs ++ y ∷ []) (get_or_from_slice_get xs k x x at) in
    subst (All P) (sym taken) (All-append P (take k xs) (x ∷ []) before (All-cons P x [] here (All-nil P)))

-- ---- which rows make changes

module _ (r : Resolution) where
  refusal-next : (row : List Value) (other : Option Refusal) → IsChangeWith r row → refusal_or other (as_change (finished row r)) ≡ other
  refusal-next row other is = ap (λ m. refusal_or other (as_change m)) is.means ∙ ap (refusal_or other) is.change

  -- where the row of a place makes a change, those behind it are asked
  pub unfit-behind : (rows : List (List Value)) (k : ℕ) (row : List Value) → slice_get rows k ≡ Some row → IsChangeWith r row
      → first_unfit r (drop k rows) ≡ first_unfit r (drop (k + 1) rows)
  unfit-behind rows k row at is = ap (first_unfit r) (from-place rows k row at) ∙ refusal-next row (first_unfit r (drop (k + 1) rows)) is

  -- and where it makes none, it is refused so
  pub unfit-here : (rows : List (List Value)) (k : ℕ) (row : List Value) (why : Refusal) → slice_get rows k ≡ Some row
      → as_change (finished row r) ≡ Err why → first_unfit r (drop k rows) ≡ Some why
  unfit-here rows k row why at is =
      ap (first_unfit r) (from-place rows k row at) ∙ ap (refusal_or (first_unfit r (drop (k + 1) rows))) is

  fit-means : (row : List Value) (other : Option Refusal) (m : Result Resolved Refusal) → finished row r ≡ m → refusal_or other (as_change m) ≡ None
      → IsChangeWith r row
  fit-means row other (Err why) is none = cc
  fit-means row other (Ok (resolved.Select query)) is none = cc
  fit-means row other (Ok command) is none = record { command = command; means = is; change = refl }

  fit-others : (other : Option Refusal) (m : Result Resolved Refusal) → refusal_or other (as_change m) ≡ None → other ≡ None
  fit-others other (Err why) none = cc
  fit-others other (Ok (resolved.Select query)) none = cc
  fit-others other (Ok command) none = none

  -- where none is refused, each makes a change
  pub fit-each : (rows : List (List Value)) → first_unfit r rows ≡ None → All (IsChangeWith r) rows
  fit-each [] none = All-nil (IsChangeWith r)
  fit-each (row ∷ rows) none =
      All-cons (IsChangeWith r) row rows (fit-means row (first_unfit r rows) (finished row r) refl none)
      (fit-each rows (fit-others (first_unfit r rows) (finished row r) none))

-- rows mean the same to both
pub first-same : (f g : List Value → Result Resolved Refusal) → ((row : List Value) → f row ≡ g row) → (rows : List (List Value))
    → first_refusal f rows ≡ first_refusal g rows
first-same f g same [] = refl
first-same f g same (row ∷ rows) =
    ap (λ m. refusal_or (first_refusal f rows) (as_change m)) (same row)
    ∙ ap (λ other. refusal_or other (as_change (g row))) (first-same f g same rows)

-- ---- inserts in turn are a load

-- Where the first is loaded, what comes next changes the tables to these; where one is refused, it is refused so.
abbrev Agrees : ℕ → Result Database Refusal → Effect → Type 0
Agrees count (Ok new) e = e ≡ record { database = new; outcome = Changed count }
Agrees count (Err why) e = e.outcome ≡ Refused why

module _ (limits : Limits) (n : TableNumber) (r : Resolution) (row_of : List Value → Row) where
  -- with each of these values the statement is the insert of that row
  abbrev pub Inserts : List Value → Type 0
  Inserts values = finished values r ≡ Ok (resolved.Insert n (row_of values))

  inserted-next : (rows : List (List Value)) (k count : ℕ) (tables : Database) (row : Row) → OfTable n tables (λ table. Unit {0})
      → ((next : Database) → OfTable n next (λ table. Unit {0}) → Agrees (count + 1 + length rows) (loaded limits next n (k + 1) (map row_of rows)) (each_in_turn (effect_with limits r) rows (k + 1) (count + 1) next))
      → let e = insert limits tables n row in
      Agrees (count + 1 + length rows) (goes_on (λ next. loaded limits next n (k + 1) (map row_of rows)) (left_with k e.database e.outcome))
      (after_outcome k count (each_in_turn (effect_with limits r) rows (k + 1)) e.database e.outcome)
  inserted-next rows k count tables row (table, there, t) later =
      let effect : Table → Effect = λ u. checked tables (insert_checks limits tables u row) (record { database = slice_set tables n.0 (grown_by row u); outcome = Changed 1 }) in
      let told : Effect → Type 0 = λ e. Agrees (count + 1 + length rows) (goes_on (λ next. loaded limits next n (k + 1) (map row_of rows)) (left_with k e.database e.outcome))
      (after_outcome k count (each_in_turn (effect_with limits r) rows (k + 1)) e.database e.outcome) in
      let here : option_map_or effect (slice_get tables n.0) (refused tables NoSuchTable) ≡ effect table =
      ap (λ found. option_map_or effect found (refused tables NoSuchTable)) there in
      subst told (sym here)
      (checked_satisfies told tables (insert_checks limits tables table row) (record { database = slice_set tables n.0 (grown_by row table); outcome = Changed 1 })
      (λ why. refl)
      (λ passed. later (slice_set tables n.0 (grown_by row table))
      (grown_by row table, slice_get_set tables n.0 (grown_by row table) (slice_get_within tables n.0 table there), tt)))

  inserted-in-turn : (rows : List (List Value)) (k count : ℕ) (tables : Database) → OfTable n tables (λ table. Unit {0}) → All Inserts rows
      → Agrees (count + length rows) (loaded limits tables n k (map row_of rows)) (each_in_turn (effect_with limits r) rows k count tables)
  inserted-in-turn [] k count tables there all = let same : count + 0 ≡ count = omega arith in rw same refl
  inserted-in-turn (values ∷ rows) k count tables there all =
      let number : count + suc (length rows) ≡ count + 1 + length rows = omega arith in
      let means : finished values r ≡ Ok (resolved.Insert n (row_of values)) = All-head Inserts values rows all in
      rw (number, means)
      (inserted-next rows k count tables (row_of values) there
      (λ next here. inserted-in-turn rows (k + 1) (count + 1) next here (All-tail Inserts values rows all)))

agreeing-load : (tables : Database) (rows : List Row) (count : ℕ) (found : Result Database Refusal) (e : Effect) → count ≡ length rows
    → Agrees count found e → all_or_none tables e ≡ load_effect tables rows found
agreeing-load tables rows count (Ok new) e same is = rw (is, same) refl
agreeing-load tables rows count (Err why) e same is = rw is refl

-- Where the statement is an insert with each of these rows of values, it does what a load of its rows does.
pub inserts-load : (limits : Limits) (n : TableNumber) (r : Resolution) (row_of : List Value → Row) (rows : List (List Value)) (tables : Database)
    → OfTable n tables (λ table. Unit {0}) → All (Inserts limits n r row_of) rows
    → all_or_none tables (effect_with_each limits r rows tables) ≡ load limits tables n (map row_of rows)
inserts-load limits n r row_of rows tables there all =
    let from : 0 + length rows ≡ length rows = omega arith in
    agreeing-load tables (map row_of rows) (0 + length rows) (loaded limits tables n 1 (map row_of rows)) (effect_with_each limits r rows tables)
    (from ∙ sym (length-map rows row_of)) (inserted-in-turn limits n r row_of rows 1 0 tables there all)
