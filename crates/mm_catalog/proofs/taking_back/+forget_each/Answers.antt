use Rattle.std.proofs.Common.{◌≡◌, ◌<◌, List, ◌∷◌, Some, get_or, rules, set, sym, ap, ◌∙◌, subst, arith, length, map}
use Rattle.std.specs.List.{All, slice_get}
use Rattle.std.proofs.lemmas.List.Elements.{All-head, All-tail}
use Rattle.std.proofs.lemmas.Option.{slice_get-get_or}
use Rattle.common_lemmas.proofs.Places.{slice_get-inside}
use Rattle.plain_tables.specs.declared.numbers.TableNumber.{TableNumber}
use Rattle.mm_relation.specs.Rows.{HaveNoReferrers}
use Rattle.mm_relation.specs.State.{RelationState}
use Rattle.mm_catalog.specs.Created.{without_counts}
use Rattle.mm_catalog.specs.Outline.{changed_at, changed_each}
use Rattle.mm_catalog.proofs.Outlined.{changed_here}
use Rattle.mm_catalog.proofs.Uncounting.{as_before, as_many_changed}
use Rattle.mm_catalog.proofs.taking_back.+forget_each.Goals as goal

abbrev IsUncounted : List RelationState → TableNumber → Type 0
IsUncounted relations n = (s : RelationState) → slice_get relations n.0 ≡ Some s → HaveNoReferrers s.rows s.referrers

pub forget_each-requires : goal.forget_each-requires
forget_each-requires t c =
    let tables : c.args.tables.now ≡ c.in-Some.table.now ∷ c.in-Some.others.now = c.in-Some.ensures.cases.0 in (
      search rules,
      (
        All-tail (λ (n : TableNumber). n.0 < length c.args.relations.now) c.in-Some.table.now c.in-Some.others.now (subst (All (λ (n : TableNumber). n.0 < length c.args.relations.now)) tables c.requires.within),
        All-tail (IsUncounted c.args.relations.now) c.in-Some.table.now c.in-Some.others.now (subst (All (IsUncounted c.args.relations.now)) tables c.requires.none),
      ),
    )

pub forget_counts-requires : goal.forget_counts-requires
forget_counts-requires t c =
    let first = c.in-Some.table.now in
    let rest = map (λ (n : TableNumber). n.0) c.in-Some.others.now in
    let old = c.args.relations.now in
    let mid = c.forget_each.new.relations in
    let tables : c.args.tables.now ≡ first ∷ c.in-Some.others.now = c.in-Some.ensures.cases.0 in
    let within = All-head (λ (n : TableNumber). n.0 < length old) first c.in-Some.others.now (subst (All (λ (n : TableNumber). n.0 < length old)) tables c.requires.within) in
    let s = slice_get-inside old first.0 within in
    let u : RelationState = get_or mid first.0 c.index-relations-table.result in
    let here : slice_get mid first.0 ≡ Some u = slice_get-get_or mid first.0 c.index-relations-table.result (omega (arith, within, ap length c.forget_each.ensures, as_many_changed without_counts rest old)) in
    let same = as_before rest old first.0 s.0 u s.1 (ap (λ (rs : List RelationState). slice_get rs first.0) (sym c.forget_each.ensures) ∙ here) in
    subst (λ (v : RelationState). HaveNoReferrers v.rows v.referrers) (sym same)
    (All-head (IsUncounted old) first c.in-Some.others.now (subst (All (IsUncounted old)) tables c.requires.none) s.0 s.1)

pub returns-in-Some : goal.returns-in-Some
returns-in-Some t c =
    let first = c.in-Some.table.now in
    let rest = map (λ (n : TableNumber). n.0) c.in-Some.others.now in
    let old = c.args.relations.now in
    let mid = c.forget_each.new.relations in
    let tables : c.args.tables.now ≡ first ∷ c.in-Some.others.now = c.in-Some.ensures.cases.0 in
    let within = All-head (λ (n : TableNumber). n.0 < length old) first c.in-Some.others.now (subst (All (λ (n : TableNumber). n.0 < length old)) tables c.requires.within) in
    let u : RelationState = get_or mid first.0 c.index-relations-table.result in
    let here : slice_get mid first.0 ≡ Some u = slice_get-get_or mid first.0 c.index-relations-table.result (omega (arith, within, ap length c.forget_each.ensures, as_many_changed without_counts rest old)) in
    ap (set mid first.0) c.forget_counts.ensures ∙ sym (changed_here without_counts first.0 mid u here) ∙ ap (changed_at without_counts first.0) c.forget_each.ensures
    ∙ ap (λ (ts : List TableNumber). changed_each without_counts (map (λ (n : TableNumber). n.0) ts) old) (sym tables)
