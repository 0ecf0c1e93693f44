use Rattle.std.proofs.Common.{◌≡◌, ◌+◌, length, set, get_or, Some, None, [], ◌∷◌, sym, ap, ◌∙◌, arith}
use Rattle.std.proofs.lemmas.List.{length-set, length-append, get_or-set_other, nil_from_length}
use Rattle.part_raw.specs.Rows.{put_run}
use Rattle.part_raw.proofs.Rows.{put_run-last, put_run-none}
use Rattle.part_raw.proofs.row.write_row.Goals as goal

pub loop-value-preserved : goal.loop-value-preserved
loop-value-preserved g c =
    let items = c.in-Some.ensures.items in
    let left : c.len.result ≡ length c.pop.new.self.items = omega (arith, c.len.ensures, c.pop.new.self.ok) in
    let wrote = c.write.ensures ∙ ap (λ k. set c.loop-value.block (c.args.from + k) (Some c.in-Some.value)) left in
    let count = ap length items in
    let one = length-append c.pop.new.self.items (c.in-Some.value ∷ []) in
    record {
      places = ap (λ b. put_run b c.args.from c.pop.new.self.items) wrote ∙ put_run-last c.loop-value.block c.args.from c.pop.new.self.items c.in-Some.value
          ∙ ap (put_run c.loop-value.block c.args.from) (sym items) ∙ c.loop-value.invariant.places;
      long = ap length wrote ∙ length-set _ _ _ ∙ c.loop-value.invariant.long;
      fewer = omega (arith, count, one, c.loop-value.invariant.fewer);
      empty = λ i small. ap (λ b. get_or b (c.args.from + i) None) wrote ∙ get_or-set_other c.loop-value.block (c.args.from + length c.pop.new.self.items) (c.args.from + i) _ None (omega (arith, small))
          ∙ c.loop-value.invariant.empty i (omega (arith, count, one, small));
      capacity = c.pop.ensures.capacity ∙ c.loop-value.invariant.capacity;
    }

pub returns-clause-places : goal.returns-clause-places
returns-clause-places g c =
    let none = nil_from_length c.loop-value.row.items (sym c.loop-value.row.ok.0 ∙ c.in_default.ensures.cases.0) in
    sym (put_run-none c.loop-value.block c.args.from) ∙ ap (put_run c.loop-value.block c.args.from) (sym none) ∙ c.loop-value.invariant.places
