use Rattle.std.proofs.Common.{◌≡◌, ◌∙◌, ◌+◌, ◌++◌, ◌∷◌, [], List, sym, ap, subst, get_or, take}
use Rattle.std.proofs.lemmas.List.{map-append, take_all, take_more}
use Rattle.mm_csv.specs.BlockReading.{column_of, columns_of}
use Rattle.mm_csv.specs.declared.field.Field.{Field}
use Rattle.mm_csv.proofs.Fronts.{HasFields, all-names, names_of, no-fields, one-name-more}
use Rattle.mm_csv.proofs.Reading.{text-same}
use Rattle.mm_csv.proofs.front.behind_header.Goals as goal

pub loop-column-init : goal.loop-column-init
loop-column-init c = no-fields c.args.text.now (sym c.begins_blank.ensures ∙ c.if-begins_blank.false)

pub loop-column-preserved : goal.loop-column-preserved
loop-column-preserved c =
    let others = c.in_ok-last.others.now in
    let i = c.loop-column.column-index in
    let column = c.column-item.result in
    let next : columns_of (take (i + 1) others) ≡ columns_of (take i others) ++ column_of column ∷ [] =
    ap columns_of (take_more others i column c.loop-column-test.true) ∙ map-append column_of (take i others) (get_or others i column ∷ [])
    ∙ ap (λ (f : Field). columns_of (take i others) ++ column_of f ∷ []) (sym c.column-item.is) in
    let front = c.in_ok-front.front in
    let named : front.field.now ≡ column.name = text-same front.field.now c.as_bytes.result.now c.if-ne.ensures ∙ c.as_bytes.ensures in
    subst (λ columns. HasFields (names_of columns) c.args.text.now front.left.now) (sym next)
    (one-name-more (columns_of (take i others)) (column_of column) c.args.text.now c.loop-column.left.now front.left.now c.loop-column.invariant
    (rw named at c.in_ok-front.ensures.0) (rw named at c.in_ok-front.ensures.1))

pub returns : goal.returns
returns c =
    let others = c.in_ok-last.others.now in
    let last = c.in_ok-last.last.now in
    let whole : columns_of c.args.layout.now ≡ columns_of others ++ column_of last ∷ [] =
    ap columns_of c.in_ok-last.ensures.cases.0 ∙ map-append column_of others (last ∷ []) in
    let front = c.in_ok-front-2.front in
    let ended = take_all c.loop-column.column-index others c.loop-column-test.false in
    let so_far = subst (λ (fs : List Field). HasFields (names_of (columns_of fs)) c.args.text.now c.loop-column.left.now) ended c.loop-column.invariant in
    let named : front.field.now ≡ last.name = text-same front.field.now c.as_bytes-2.result.now c.if-ne-2.ensures ∙ c.as_bytes-2.ensures in
    rw whole
    (all-names (columns_of others) (column_of last) c.args.text.now c.loop-column.left.now front.left.now so_far
    (rw named at c.in_ok-front-2.ensures.0) (rw named at c.in_ok-front-2.ensures.1))
