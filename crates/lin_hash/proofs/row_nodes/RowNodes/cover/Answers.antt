use Rattle.std.proofs.Common.{◌≡◌, ◌/◌, ◌++◌, ◌↔◌, Bool, true, false, List, length, get_or, set, ap, sym, refl, ◌∙◌, subst, arith}
use Rattle.std.specs.List.{count_by}
use Rattle.std.proofs.lemmas.List.{length-set}
use Rattle.lin_hash.specs.declared.row_block.RowBlock.{RowBlock}
use Rattle.lin_hash.specs.HeldRows.{IsCovered, KeepsRows}
use Rattle.lin_hash.specs.RowNodes.{row_at}
use Rattle.lin_hash.specs.RowBlocks.{covered_by, is_spare, row_nodes_in}
use Rattle.lin_hash.proofs.InRowBlocks.{length-row_nodes_in}
use Rattle.lin_hash.proofs.Sheds.{covered-spare, covered-at, covered-kept, covered-keeps}
use Rattle.lin_hash.proofs.row_nodes.RowNodes.cover.Goals as goal

-- what is not so by a test that tells it
not_so : (b told : Bool) → (told ≡ true ↔ b ≡ true) → told ≡ false → b ≡ false
not_so b told both none = elim b as (λ x. (told ≡ true ↔ x ≡ true) → x ≡ false) [ true ↦ λ h. (let yes = h.1 refl in cc) | false ↦ λ h. refl ] both

pub invariant_of-self-2 : goal.invariant_of-self-2
invariant_of-self-2 c =
    let bs = c.self.inside.blocks.items in
    let more = c.lengthen.ensures.blocks in
    let whole = more.1 ∙ ap (λ (cs : List RowBlock). cs ++ more.0) c.reserve_by_doubling.ensures.items in
    let all = ap length whole in
    let long = c.lengthen.ensures.long in
    let few = c.lengthen.ensures.few in
    let covered = ap (λ v. v.covered) c.self.view_is in
    let free : get_or (covered_by bs) (c.args.place / 256) false ≡ false = ap (λ cs. get_or cs (c.args.place / 256) false) covered ∙ not_so _ _ c.is_covered.ensures c.if-is_covered.false in
    let spare = covered-spare bs more.0 more.2 (c.args.place / 256) (omega (arith, long, all, c.lengthen.new.blocks.ok.0)) free c.in_ok-block.block c.in_ok-block.ensures.there c.in_ok-block.ensures.unused c.in_ok-block.ensures.used in
    let same : count_by is_spare (set c.lengthen.new.blocks.items (c.args.place / 256) c.in_ok-block.block) ≡ count_by is_spare (set (bs ++ more.0) (c.args.place / 256) c.in_ok-block.block) = ap (λ ds. count_by is_spare (set ds (c.args.place / 256) c.in_ok-block.block)) whole in
    let counted = c.self.invariant.counted in
    let few_before = c.self.invariant.few in
    record { counted = omega (arith, spare, same, counted); few = omega (arith, few, few_before, c.requires, c.reserve_by_doubling.ensures.len) }

pub returns-clause-covered : goal.returns-clause-covered
returns-clause-covered c =
    let bs = c.self.inside.blocks.items in
    let more = c.lengthen.ensures.blocks in
    let whole = more.1 ∙ ap (λ (cs : List RowBlock). cs ++ more.0) c.reserve_by_doubling.ensures.items in
    let all = ap length whole in
    let long = c.lengthen.ensures.long in
    let covered = ap (λ v. v.covered) c.self.view_is in
    let free : get_or (covered_by bs) (c.args.place / 256) false ≡ false = ap (λ cs. get_or cs (c.args.place / 256) false) covered ∙ not_so _ _ c.is_covered.ensures c.if-is_covered.false in
    subst (λ ds. IsCovered (covered_by (set ds (c.args.place / 256) c.in_ok-block.block)) (row_at c.args.place)) (sym whole)
    (covered-at bs more.0 more.2 (c.args.place / 256) (omega (arith, long, all, c.lengthen.new.blocks.ok.0)) free c.in_ok-block.block c.in_ok-block.ensures.there c.in_ok-block.ensures.unused c.in_ok-block.ensures.used)

pub returns-clause-kept : goal.returns-clause-kept
returns-clause-kept c = λ r h.
    let bs = c.self.inside.blocks.items in
    let more = c.lengthen.ensures.blocks in
    let whole = more.1 ∙ ap (λ (cs : List RowBlock). cs ++ more.0) c.reserve_by_doubling.ensures.items in
    let all = ap length whole in
    let long = c.lengthen.ensures.long in
    let covered = ap (λ v. v.covered) c.self.view_is in
    let free : get_or (covered_by bs) (c.args.place / 256) false ≡ false = ap (λ cs. get_or cs (c.args.place / 256) false) covered ∙ not_so _ _ c.is_covered.ensures c.if-is_covered.false in
    subst (λ ds. IsCovered (covered_by (set ds (c.args.place / 256) c.in_ok-block.block)) r) (sym whole)
    (covered-kept bs more.0 more.2 (c.args.place / 256) (omega (arith, long, all, c.lengthen.new.blocks.ok.0)) free c.in_ok-block.block c.in_ok-block.ensures.there c.in_ok-block.ensures.unused c.in_ok-block.ensures.used (r.number / 256)
    (ap (λ cs. get_or cs (r.number / 256) false) covered ∙ h))

pub returns-clause-keeps : goal.returns-clause-keeps
returns-clause-keeps c =
    let bs = c.self.inside.blocks.items in
    let more = c.lengthen.ensures.blocks in
    let whole = more.1 ∙ ap (λ (cs : List RowBlock). cs ++ more.0) c.reserve_by_doubling.ensures.items in
    let all = ap length whole in
    let long = c.lengthen.ensures.long in
    let covered = ap (λ v. v.covered) c.self.view_is in
    let free : get_or (covered_by bs) (c.args.place / 256) false ≡ false = ap (λ cs. get_or cs (c.args.place / 256) false) covered ∙ not_so _ _ c.is_covered.ensures c.if-is_covered.false in
    let kept = covered-keeps bs more.0 more.2 (c.args.place / 256) (omega (arith, long, all, c.lengthen.new.blocks.ok.0)) free c.in_ok-block.block c.in_ok-block.ensures.there c.in_ok-block.ensures.unused c.in_ok-block.ensures.used in
    subst (λ ns. KeepsRows ns (row_nodes_in (set c.lengthen.new.blocks.items (c.args.place / 256) c.in_ok-block.block))) (ap (λ v. v.items) c.self.view_is)
    (subst (λ ds. KeepsRows (row_nodes_in bs) (row_nodes_in (set ds (c.args.place / 256) c.in_ok-block.block))) (sym whole) kept)

pub returns-clause-few : goal.returns-clause-few
returns-clause-few c = λ _.
    let few = c.lengthen.ensures.few in
    let few_before = c.self.invariant.few in
    let long = length-row_nodes_in (set c.lengthen.new.blocks.items (c.args.place / 256) c.in_ok-block.block) in
    let same = length-set c.lengthen.new.blocks.items (c.args.place / 256) c.in_ok-block.block in
    omega (arith, few, few_before, long, same, c.requires, c.reserve_by_doubling.ensures.len, c.lengthen.new.blocks.ok.0)
