use Rattle.std.proofs.Common.{◌<◌, length, ap, ◌∙◌, subst, arith}
use Rattle.lin_hash.specs.RowNodes.{is_used, row_node_at}
use Rattle.lin_hash.proofs.InRowBlocks.{length-row_nodes_in, used-beyond}
use Rattle.lin_hash.proofs.row_nodes.RowNodes.holds.Goals as goal

pub returns-then-at-len : goal.returns-then-at-len
returns-then-at-len c =
    let bs = c.self.inside.blocks.items in
    used-beyond bs c.args.place (omega (arith, c.if-at-len.true, c.len.ensures, c.self.inside.blocks.ok.0)) ∙ ap (λ ns. is_used (row_node_at ns c.args.place)) (ap (λ v. v.items) c.self.view_is)

pub get-requires : goal.get-requires
get-requires c =
    let long = length-row_nodes_in c.self.inside.blocks.items in
    subst (λ ns. c.args.place < length ns) (ap (λ v. v.items) c.self.view_is) (omega (arith, long, c.if-at-len.false, c.len.ensures, c.self.inside.blocks.ok.0))
