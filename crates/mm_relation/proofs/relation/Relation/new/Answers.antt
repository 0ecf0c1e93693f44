use Rattle.std.proofs.Common.{◌≡◌, length, ap, refl, arith, ◌∙◌}
use Rattle.mm_relation.proofs.Declared.{kept_new, current_new}
use Rattle.mm_relation.proofs.Owed.{nothing_owed, none_in}
use Rattle.mm_relation.proofs.relation.Relation.new.Goals as goal

pub invariant_of-result : goal.invariant_of-result
invariant_of-result c =
    let width : length c.resize.new.self.items ≡ length c.args.schema.columns = omega (arith, c.resize.new.self.ok.0, c.in_ok-resize.ensures.len, c.len.ensures) in (
      kept_new c.new-rows.result.aside c.args.schema c.resize.new.self.items c.new.result.items c.new-rows.result.tuples c.new-2.result.tree c.new-3.result
          width c.new.ensures.items (ap (λ s. s.tuples) c.new-rows.ensures) (rw c.new-2.ensures.tree refl) c.new-3.ensures,
      ap (λ s. s.width) c.new-rows.ensures ∙ c.len-2.ensures,
      rw c.new-rows.ensures (nothing_owed _ c.new-2.result c.new-3.result (omega (arith, none_in))),
    )

pub returns-clause-current : goal.returns-clause-current
returns-clause-current c = λ keys.
    current_new c.new-rows.result.aside c.args.schema c.resize.new.self.items c.new.result.items c.new-rows.result.tuples c.new-2.result.tree c.new-3.result
    (ap (λ s. s.tuples) c.new-rows.ensures) c.new-3.ensures keys
