use Rattle.std.proofs.Common.{◌≡◌, ◌-◌, ◌*◌, ◌/◌, ◌∙◌, length, ap, arith}
use Rattle.std.specs.Int.{div_ceil}
use Rattle.ttree.proofs.Packing.{middle}
use Rattle.ttree.proofs.build.around_middle.Goals as goal

pub returns : goal.returns
returns g c =
    let refs = c.args.refs.now in
    let first = c.split_at.result in let second = c.split_at-2.result in
    let before : length first.0.now ≡ (div_ceil (length refs) g.row.MAX - 1) / 2 * g.row.MAX = c.split_at.ensures.front_len ∙ ap (λ k. (k - 1) / 2 * g.row.MAX) c.div_ceil-nodes.ensures in
    middle g.row.MAX refs first.0.now first.1.now second.0.now second.1.now c.requires.two c.requires.some c.split_at.ensures.by_index.0 c.split_at-2.ensures.by_index.0
    before (omega (arith, c.split_at-2.ensures.front_len, c.min.ensures))
