-- Lists of values in their order: each that occurs once, rising.
use Rattle.std.proofs.Common.{◌≡◌, arith, List, [], ◌∷◌, inl, inr, refl, sym, ap, ◌∙◌, subst, ◌⊎◌}
use Rattle.std.specs.List.{All, Contains, filter}
use Rattle.std.specs.Ordering.{is_lt}
use Rattle.std.specs.Cmp.{IsTotalOrder}
use Rattle.std.specs.FinSet.{slice_cmp-IsAntisymmetric}
use Rattle.std.specs.declared.cmp.Ordering.{Ordering}
use Rattle.std.specs.declared.cmp.Ordering.TheVariants.{Less, Equal, Greater}
use Rattle.std.proofs.lemmas.Cmp.{lists_total, tied_itself}
use Rattle.std.proofs.lemmas.List.Elements.{All-nil, All-cons, All-head, All-tail, All-append, All-filter, All-contains, All-contains_itself, Contains-append_left, Contains-append_right}
use Rattle.common_lemmas.proofs.Elements.{Contains-cons_cases, Contains-filter, Contains-head, Contains-cons}
use Rattle.plain_tables.specs.Values.{value_cmp_total}
use Rattle.plain_tables.specs.Tables.{Row}
use Rattle.plain_tables.specs.Joining.{row_cmp, with_values, distinct_rows}
use Rattle.plain_tables.specs.QueryLaws.{Rise, HaveTheSame, DistinctRise, DistinctOccur, RisingAreOne, DistinctShowsTheSame}
use Rattle.common_lemmas.proofs.Pairs.{AllPairs-nil, AllPairs-head, AllPairs-tail}
use Rattle.plain_tables.proofs.Rows.{inserted_rise}
use Rattle.plain_tables.proofs.Values.{value_cmp-exact}

pub row_cmp_total : IsTotalOrder row_cmp
row_cmp_total = lists_total value_cmp_total

row_cmp-exact : (r s : Row) → row_cmp r s ≡ Equal → r ≡ s
row_cmp-exact = slice_cmp-IsAntisymmetric (λ x y. (value_cmp-exact x y).0)

-- a list of values isn't below itself
not_below : (row : Row) → row_cmp row row ≡ Less → ⊥
not_below row h = let same = tied_itself row_cmp_total row in cc

-- ---- they rise

pub distinct_rise : DistinctRise
distinct_rise [] = AllPairs-nil (λ r s. row_cmp r s ≡ Less)
distinct_rise (row ∷ rows) = inserted_rise row_cmp row_cmp_total row (distinct_rows rows) (distinct_rise rows)

-- ---- they occur

-- what holds of lists of values holds of each that occurs
pub All-distinct : (P : Row → Type 0) (rows : List Row) → All P rows → All P (distinct_rows rows)
All-distinct P [] all = All-nil P
All-distinct P (row ∷ rows) all =
    let others = All-distinct P rows (All-tail P row rows all) in
    All-append P (filter (λ r. is_lt (row_cmp r row)) (distinct_rows rows)) (row ∷ filter (λ r. is_lt (row_cmp row r)) (distinct_rows rows))
    (All-filter (λ r. is_lt (row_cmp r row)) P (distinct_rows rows) others)
    (All-cons P row (filter (λ r. is_lt (row_cmp row r)) (distinct_rows rows)) (All-head P row rows all)
    (All-filter (λ r. is_lt (row_cmp row r)) P (distinct_rows rows) others))

-- the list itself is among those that have it, and what was among them still is
has_itself : (row : Row) (rows : List Row) → Contains (with_values row rows) row
has_itself row rows =
    Contains-append_right (filter (λ r. is_lt (row_cmp r row)) rows) (row ∷ filter (λ r. is_lt (row_cmp row r)) rows) row
    (Contains-head row (filter (λ r. is_lt (row_cmp row r)) rows))

still_has : (o : Ordering) (row other : Row) (rows : List Row) → row_cmp other row ≡ o → Contains rows other → Contains (with_values row rows) other
still_has Less row other rows below there =
    Contains-append_left (filter (λ r. is_lt (row_cmp r row)) rows) (row ∷ filter (λ r. is_lt (row_cmp row r)) rows) other
    (Contains-filter (λ r. is_lt (row_cmp r row)) rows other there (rw below refl))
still_has Equal row other rows same there =
    subst (Contains (with_values row rows)) (sym (row_cmp-exact other row same)) (has_itself row rows)
still_has Greater row other rows above there =
    Contains-append_right (filter (λ r. is_lt (row_cmp r row)) rows) (row ∷ filter (λ r. is_lt (row_cmp row r)) rows) other
    (Contains-cons row (filter (λ r. is_lt (row_cmp row r)) rows) other
    (Contains-filter (λ r. is_lt (row_cmp row r)) rows other there (rw (row_cmp_total.antisymm row other, above) refl)))

occurs : (rows : List Row) (row : Row) → Contains rows row → Contains (distinct_rows rows) row
occurs [] row there = absurd (let l = there.1 in omega arith)
occurs (r ∷ rows) row there =
    elim (Contains-cons_cases r rows row there) [
      | inl here ↦ subst (Contains (distinct_rows (r ∷ rows))) (sym here) (has_itself r (distinct_rows rows))
      | inr later ↦ still_has (row_cmp row r) r row (distinct_rows rows) refl (occurs rows row later)
    ]

pub distinct_occur : DistinctOccur
distinct_occur rows row =
    (All-contains (Contains rows) (distinct_rows rows) row (All-distinct (Contains rows) rows (All-contains_itself rows)), occurs rows row)

pub distinct_shows_the_same : DistinctShowsTheSame
distinct_shows_the_same tables its source joins = distinct_occur _

-- ---- they are one

-- of two lists that rise and have the same elements neither begins below the other
first_there : (r s : Row) (rows others : List Row) → Rise (s ∷ others) → Contains (s ∷ others) r → (s ≡ r) ⊎ (row_cmp s r ≡ Less)
first_there r s rows others rise there =
    elim (Contains-cons_cases s others r there) [
      | inl here ↦ inl (sym here)
      | inr later ↦ inr (All-contains (λ t. row_cmp s t ≡ Less) others r (AllPairs-head (λ t u. row_cmp t u ≡ Less) s others rise) later)
    ]

same_first : (r s : Row) (rows others : List Row) → Rise (r ∷ rows) → Rise (s ∷ others) → HaveTheSame (r ∷ rows) (s ∷ others) → r ≡ s
same_first r s rows others rise up same =
    elim (first_there r s rows others up ((same r).0 (Contains-head r rows))) [
      | inl here ↦ sym here
      | inr below ↦ elim (first_there s r others rows rise ((same s).1 (Contains-head s others))) [
        | inl here ↦ here
        | inr above ↦ absurd (not_below r (row_cmp_total.trans r s r above below))
      ]
    ]

-- an element behind the first isn't the first
later_too : (r row : Row) (rows others : List Row) → Rise (r ∷ rows) → Contains rows row → Contains (r ∷ others) row → Contains others row
later_too r row rows others rise there in_others =
    elim (Contains-cons_cases r others row in_others) [
      | inl here ↦
          let below = All-contains (λ t. row_cmp r t ≡ Less) rows row (AllPairs-head (λ t u. row_cmp t u ≡ Less) r rows rise) there in
          absurd (not_below row (subst (λ t. row_cmp t row ≡ Less) (sym here) below))
      | inr later ↦ later
    ]

pub rising_are_one : RisingAreOne
rising_are_one [] [] rise up same = refl
rising_are_one [] (s ∷ others) rise up same = absurd (let l = ((same s).1 (Contains-head s others)).1 in omega arith)
rising_are_one (r ∷ rows) [] rise up same = absurd (let l = ((same r).0 (Contains-head r rows)).1 in omega arith)
rising_are_one (r ∷ rows) (s ∷ others) rise up same =
    let first : r ≡ s = same_first r s rows others rise up same in
    let up_too : Rise (r ∷ others) = subst (λ t. Rise (t ∷ others)) (sym first) up in
    let all : HaveTheSame (r ∷ rows) (r ∷ others) = subst (λ t. HaveTheSame (r ∷ rows) (t ∷ others)) (sym first) same in
    let R : Row → Row → Type 0 = λ t u. row_cmp t u ≡ Less in
    let rest = rising_are_one rows others (AllPairs-tail R r rows rise) (AllPairs-tail R s others up)
    (λ row. (
      λ there. later_too r row rows others rise there ((all row).0 (Contains-cons r rows row there)),
      λ there. later_too r row others rows up_too there ((all row).1 (Contains-cons r others row there)),
    ))
    in
    ap (λ t. t ∷ rows) first ∙ ap (λ ts. s ∷ ts) rest
