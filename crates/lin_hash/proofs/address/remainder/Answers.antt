use Rattle.std.proofs.Common.{◌-◌, ◌%◌, ◌∙◌, ap, sym, arith}
use Rattle.std.proofs.lemmas.Nat.{and_mask, pow_pos}
use Rattle.std.specs.Int.Bits.{bit_and}
use Rattle.lin_hash.proofs.address.remainder.Goals as goal

pub overflow_sub-result : goal.overflow_sub-result
overflow_sub-result c =
    let k = c.requires.0 in
    let is = c.requires.1 in
    let positive = pow_pos k in
    omega arith

pub returns : goal.returns
returns c =
    let k = c.requires.0 in
    ap (λ n. bit_and c.args.hash (n - 1)) c.requires.1 ∙ and_mask c.args.hash k ∙ ap (λ n. c.args.hash % n) (sym c.requires.1)
