-- Rows put in, one after the other, each at the place of its key.
use Rattle.std.proofs.Common.{◌≡◌, true, false, List, [], ◌∷◌, refl, sym, ap, ◌∙◌, subst, arith, inl, inr}
use Rattle.std.specs.List.{All, Contains}
use Rattle.std.specs.Ordering.{is_eq, ordering_reverse}
use Rattle.std.specs.declared.cmp.Ordering.TheVariants.{Less}
use Rattle.std.proofs.lemmas.Bool.{false≢true}
use Rattle.std.proofs.lemmas.List.Elements.{All-contains}
use Rattle.common_lemmas.proofs.Elements.{Contains-cons, Contains-cons_cases, Contains-head}
use Rattle.common_lemmas.proofs.Pairs.{AllPairs-head, AllPairs-nil, AllPairs-tail}
use Rattle.plain_tables.specs.Tables.{AreRising, Row, key_cmp, with_row}
use Rattle.plain_tables.proofs.Rows.{All-with_row, key_cmp_total, with_row-rises}
use Rattle.mm_catalog.proofs.AnyOrder.{member_with, other_with}
use Rattle.mm_catalog.proofs.Rising.{rising_same}
use Rattle.mm_transactions.specs.Tables.{in_key_order}

pub in_key_order-rises : (rows : List Row) → AreRising (in_key_order rows)
in_key_order-rises [] = AllPairs-nil (λ r s. key_cmp r s ≡ Less)
in_key_order-rises (row ∷ rows) = with_row-rises row (in_key_order rows) (in_key_order-rises rows)

-- nothing else is there
pub from_key_order : (rows : List Row) → All (Contains rows) (in_key_order rows)
from_key_order [] = λ k d l. absurd (omega arith)
from_key_order (row ∷ rows) =
    All-with_row (Contains (row ∷ rows)) row (in_key_order rows) (Contains-head row rows)
    (λ k d l. Contains-cons row rows _ (from_key_order rows k d l))

-- rows of one key are one row
abbrev pub DifferByKey : List Row → Type 0
DifferByKey rows = (x y : Row) → Contains rows x → Contains rows y → is_eq (key_cmp x y) ≡ true → x ≡ y

-- so none is left out
pub in_key_order-has : (rows : List Row) → DifferByKey rows → (x : Row) → Contains rows x → Contains (in_key_order rows) x
in_key_order-has [] differ x there = absurd (omega (arith, there.1))
in_key_order-has (row ∷ rows) differ x there =
    elim (Contains-cons_cases row rows x there) [
      | inl same ↦ subst (Contains (with_row row (in_key_order rows))) (sym same) (member_with row (in_key_order rows))
      | inr behind ↦
          let rest = in_key_order-has rows (λ a b first second. differ a b (Contains-cons row rows a first) (Contains-cons row rows b second)) x behind in
          elim (is_eq (key_cmp x row)) as (λ b. is_eq (key_cmp x row) ≡ b → Contains (with_row row (in_key_order rows)) x) [
            | true ↦ λ e. subst (Contains (with_row row (in_key_order rows))) (sym (differ x row there (Contains-head row rows) e)) (member_with row (in_key_order rows))
            | false ↦ λ e. other_with row (in_key_order rows) x rest e
          ] refl
    ]

-- rows that rise differ by their keys
pub rising_differ : (rows : List Row) → AreRising rows → DifferByKey rows
rising_differ [] rise x y first second e = absurd (omega (arith, first.1))
rising_differ (row ∷ rows) rise x y first second e =
    let below = AllPairs-head (λ r s. key_cmp r s ≡ Less) row rows rise in
    elim (Contains-cons_cases row rows x first) [
      | inl here ↦ elim (Contains-cons_cases row rows y second) [
        | inl there ↦ here ∙ sym there
        | inr behind ↦
            let less : key_cmp x y ≡ Less = ap (λ r. key_cmp r y) here ∙ All-contains (λ s. key_cmp row s ≡ Less) rows y below behind in
            absurd (false≢true (ap is_eq (sym less) ∙ e))
      ]
      | inr behind ↦ elim (Contains-cons_cases row rows y second) [
        | inl there ↦
            let less : key_cmp y x ≡ Less = ap (λ r. key_cmp r x) there ∙ All-contains (λ s. key_cmp row s ≡ Less) rows x below behind in
            absurd (false≢true (ap (λ o. is_eq (ordering_reverse o)) (sym less) ∙ ap is_eq (sym (key_cmp_total.antisymm x y)) ∙ e))
        | inr after ↦ rising_differ rows (AllPairs-tail (λ r s. key_cmp r s ≡ Less) row rows rise) x y behind after e
      ]
    ]

-- rows that rise are what their members, put in in any order, give
pub in_key_order-is : (rows all : List Row) → AreRising rows → ((x : Row) → Contains all x → Contains rows x) → ((x : Row) → Contains rows x → Contains all x) → in_key_order all ≡ rows
in_key_order-is rows all rise in' back =
    rising_same key_cmp key_cmp_total (in_key_order all) rows (in_key_order-rises all) rise
    (λ x there. in' x (All-contains (Contains all) (in_key_order all) x (from_key_order all) there))
    (λ x there. in_key_order-has all (λ a b first second. rising_differ rows rise a b (in' a first) (in' b second)) x (back x there))
