use Rattle.std.proofs.Common.{◌≡◌, ◌∙◌, ℕ, ◌+◌, sym, ap, subst, IsSome, List, get_or, arith}
use Rattle.std.specs.FinMap as finite
use Rattle.std.proofs.lemmas.List.{get_or-drop}
use Rattle.std.proofs.lemmas.List.Filters.{FiltersInPlace-more_no, FiltersInPlace-more_set}
use Rattle.part_raw.specs.declared.tuple_ref.TupleRef.{TupleRef}
use Rattle.plain_tables.specs.Queries.{stands}
use Rattle.temp_list.proofs.search.keep_standing.Goals as goal
use Rattle.temp_list.proofs.search.keep_standing.Goals.{then-passes, else-passes}

pub read-requires-clause-held : goal.read-requires-clause-held
read-requires-clause-held g c =
    let r : TupleRef = c.index-r.result.now in
    let rows : List TupleRef = c.loop-i.rows.items in
    let first : List TupleRef = c.args.rows.now.items in
    let here : c.loop-i.i + 0 ≡ c.loop-i.i = omega arith in
    let same : get_or first c.loop-i.i r ≡ r =
    ap (λ (k : ℕ). get_or first k r) (sym here) ∙ sym (get_or-drop c.loop-i.i first 0 r) ∙ ap (λ (rs : List TupleRef). get_or rs 0 r) (sym c.loop-i.invariant.rest)
    ∙ get_or-drop c.loop-i.i rows 0 r ∙ ap (λ (k : ℕ). get_or rows k r) here ∙ sym c.index-r.ensures
    in
    subst (λ (q : TupleRef). IsSome (finite.get c.args.relation.now.rows q)) same (c.requires.held c.loop-i.i r (omega (arith, c.len-i-end.ensures)))

pub loop-i-preserved : goal.loop-i-preserved
loop-i-preserved g c =
    let told = sym (c.passes.ensures ∙ ap (λ v. stands c.args.test.now.op v c.args.test.now.value) c.read.ensures) in
    elim c.if-passes.branch [
      | then-passes w ↦
          rw (w.rows-is, w.kept-is) (FiltersInPlace-more_set c.loop-i.invariant (omega (arith, c.len-i-end.ensures, c.loop-i.invariant.long)) (told ∙ w.if-passes.true) c.index-r.ensures)
      | else-passes w ↦
          rw (w.rows-is, w.kept-is) (FiltersInPlace-more_no c.loop-i.invariant (omega (arith, c.len-i-end.ensures, c.loop-i.invariant.long)) (told ∙ w.if-passes.false) c.index-r.ensures)
    ]
