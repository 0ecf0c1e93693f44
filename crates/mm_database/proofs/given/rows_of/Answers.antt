use Rattle.std.proofs.Common.{rules, ◌≡◌, ◌∙◌, ◌+◌, ◌*◌, ◌++◌, ◌∷◌, List, [], ap, arith, drop, length, map, sym, subst, take, Err, inl}
use Rattle.std.specs.List.{All, flat_map}
use Rattle.plain_tables.specs.declared.value.Value.{Value}
use Rattle.std.proofs.lemmas.List.{length-append, length-map}
use Rattle.std.proofs.lemmas.List.Elements.{All-append, All-cons, All-drop, All-nil, All-take}
use Rattle.std.proofs.lemmas.Result.{err_from_is_err_and}
use Rattle.mm_cells.specs.Reading.{cell_value}
use Rattle.mm_database.specs.Given.{IsCell, IsWritten}
use Rattle.mm_database.specs.declared.given.Unread.TheVariants as unread
use Rattle.mm_database.proofs.GivenRows.{row-count, row-more}
use Rattle.mm_database.proofs.given.rows_of.Goals as goal

pub returns-in_err-row_of-clause-elsewhere : goal.returns-in_err-row_of-clause-elsewhere
returns-in_err-row_of-clause-elsewhere c =
    let e = err_from_is_err_and c.from_residual.result c.from_residual.ensures.1 in
    rw (e.1, e.2)
    (λ is.
    let same : c.in_err-row_of.field-0.0 ≡ unread.NotRows = cc in
    inl (λ all. c.row_of.ensures.elsewhere (c.in_err-row_of.was ∙ ap Err same)
    (subst (All (IsCell c.args.texts.now)) (sym c.split_at.ensures.front) (All-take (IsCell c.args.texts.now) c.args.places c.loop-rest.rest.now (c.loop-rest.invariant.cells all)))))

pub loop-rest-preserved : goal.loop-rest-preserved
loop-rest-preserved c =
    let f = cell_value c.args.texts.now in
    let rest = c.loop-rest.rest.now in
    let rows = c.loop-rest.rows.items in
    let places = c.args.places in
    let row = c.in_ok-row_of.field-0 in
    let pushed : c.push.new.self.items ≡ rows ++ row ∷ [] = search rules in
    let made : row ≡ map f (take places rest) = c.in_ok-row_of.ensures.row ∙ ap (map f) c.split_at.ensures.front in
    let width : length row ≡ places = ap length c.in_ok-row_of.ensures.row ∙ length-map c.split_at.result.0.now f ∙ c.split_at.ensures.front_len in
    let more : length c.push.new.self.items ≡ length rows + 1 = ap length pushed ∙ length-append rows (row ∷ []) in
    let times : length c.push.new.self.items * places ≡ length rows * places + places = row-count (length rows) (length c.push.new.self.items) places more in
    record {
      all =
          row-more f c.args.cells.now rest rows places c.loop-rest.invariant.all
          ∙ ap (λ l. flat_map (λ (r : List Value). r) (rows ++ l ∷ []) ++ map f (drop places rest)) (sym made)
          ∙ ap (λ l. flat_map (λ (r : List Value). r) l ++ map f (drop places rest)) (sym pushed)
          ∙ ap (λ l. flat_map (λ (r : List Value). r) c.push.new.self.items ++ map f l) (sym c.split_at.ensures.back);
      each =
          subst (All (λ (r : List Value). length r ≡ places)) (sym pushed)
          (All-append (λ (r : List Value). length r ≡ places) rows (row ∷ []) c.loop-rest.invariant.each
          (All-cons (λ (r : List Value). length r ≡ places) row [] width (All-nil (λ (r : List Value). length r ≡ places))));
      count = omega (arith, times, c.loop-rest.invariant.count, c.split_at.ensures.back_len, c.if-rest-places.false);
      cells = λ all. subst (All (IsCell c.args.texts.now)) (sym c.split_at.ensures.back) (All-drop (IsCell c.args.texts.now) places rest (c.loop-rest.invariant.cells all));
      written = λ all. subst (All (IsWritten c.args.texts.now)) (sym c.split_at.ensures.back) (All-drop (IsWritten c.args.texts.now) places rest (c.loop-rest.invariant.written all));
    }
