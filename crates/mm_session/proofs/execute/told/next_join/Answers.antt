use Rattle.std.proofs.Common.{◌∙◌, arith, sym}
use Rattle.mm_session.proofs.Told.{few_alike, many_alike}
use Rattle.mm_session.proofs.execute.told.next_join.Goals as goal

pub returns : goal.returns
returns c =
    let outer = c.args.outer.now in
    let inner = c.args.inner.now in
    record {
      few = λ n few. few_alike outer inner c.args.policy n 0 few (omega arith) ∙ sym c.choose_next_join.ensures.chosen;
      many = λ n many. many_alike outer inner c.args.policy n _ many (omega (arith, c.len-half.ensures.value)) ∙ sym c.choose_next_join-2.ensures.chosen;
    }
