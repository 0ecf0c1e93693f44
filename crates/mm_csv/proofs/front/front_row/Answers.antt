use Rattle.std.proofs.Common.{◌≡◌, ◌∙◌, ◌+◌, ◌++◌, ◌∷◌, [], List, sym, ap, subst, get_or, take}
use Rattle.std.proofs.lemmas.List.{map-append, take_all, take_more}
use Rattle.mm_csv.specs.BlockReading.{column_of, columns_of}
use Rattle.mm_csv.specs.declared.field.Field.{Field}
use Rattle.mm_csv.proofs.Fronts.{HasValues, all-values, no-values, one-value-more}
use Rattle.mm_csv.proofs.front.front_row.Goals as goal

pub loop-column-init : goal.loop-column-init
loop-column-init c = rw c.clear.ensures.items (no-values c.args.text.now (sym c.begins_blank.ensures ∙ c.if-begins_blank.false))

pub loop-column-preserved : goal.loop-column-preserved
loop-column-preserved c =
    let others = c.in-Some.others.now in
    let i = c.loop-column.column-index in
    let column = c.column-item.result in
    let next : columns_of (take (i + 1) others) ≡ columns_of (take i others) ++ column_of column ∷ [] =
    ap columns_of (take_more others i column c.loop-column-test.true) ∙ map-append column_of (take i others) (get_or others i column ∷ [])
    ∙ ap (λ (f : Field). columns_of (take i others) ++ column_of f ∷ []) (sym c.column-item.is) in
    let front = c.in-Some-front_field.front in
    rw (next, c.in_ok-push.ensures.items)
    (one-value-more (columns_of (take i others)) (column_of column) c.args.text.now c.loop-column.left.now front.field.now front.left.now c.loop-column.row.items c.in-Some-2.value
    c.loop-column.invariant c.in-Some-front_field.ensures.0 c.in-Some-front_field.ensures.1 (sym c.in_ok-value.ensures ∙ c.in-Some-2.is))

pub returns : goal.returns
returns c =
    let others = c.in-Some.others.now in
    let last = c.in-Some.last.now in
    let whole : columns_of c.args.layout.now ≡ columns_of others ++ column_of last ∷ [] =
    ap columns_of c.in-Some.ensures.cases.0 ∙ map-append column_of others (last ∷ []) in
    let front = c.in-Some-front_field-2.front in
    let ended = take_all c.loop-column.column-index others c.loop-column-test.false in
    let so_far = subst (λ (fs : List Field). HasValues (columns_of fs) c.args.text.now c.loop-column.left.now c.loop-column.row.items) ended c.loop-column.invariant in
    rw (whole, c.in_ok-push-2.ensures.items)
    (all-values (columns_of others) (column_of last) c.args.text.now c.loop-column.left.now front.field.now front.left.now c.loop-column.row.items c.in-Some-3.value
    so_far c.in-Some-front_field-2.ensures.0 c.in-Some-front_field-2.ensures.1 (sym c.in_ok-value-2.ensures ∙ c.in-Some-3.is))
