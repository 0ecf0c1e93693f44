-- Blocks of which the same is shown have the same nodes, the same memory, and as many blocks that no row uses.
use Rattle.std.proofs.Common.{◌≡◌, ◌∙◌, ◌==◌, ◌&&◌, ℕ, Bool, List, [], ◌∷◌, ◌++◌, length, map, refl, sym, ap}
use Rattle.std.specs.List.{count_by}
use Rattle.std.proofs.lemmas.List.{length-map}
use Rattle.std.proofs.lemmas.Simd.{map-map}
use Rattle.common_lemmas.proofs.Counts.{count_by-map}
use Rattle.lin_hash.specs.declared.row_block.RowBlock.{RowBlock}
use Rattle.lin_hash.specs.declared.row_node.RowNode.{RowNode}
use Rattle.lin_hash.specs.Copies.{shown}
use Rattle.lin_hash.specs.RowBlocks.{row_nodes_in, covered_by, is_spare}
use Rattle.lin_hash.specs.RowNodes.{block_nodes}

abbrev Shown : Type 0
Shown = List RowNode × Bool × ℕ

abbrev memory_shown : Shown → Bool
memory_shown t = t.1

abbrev spare_shown : Shown → Bool
spare_shown t = t.1 && (t.2 == 0)

pub shown-length : (bs cs : List RowBlock) → map shown bs ≡ map shown cs → length bs ≡ length cs
shown-length bs cs same = sym (length-map bs shown) ∙ ap length same ∙ length-map cs shown

pub shown-covered : (bs cs : List RowBlock) → map shown bs ≡ map shown cs → covered_by bs ≡ covered_by cs
shown-covered bs cs same = sym (map-map memory_shown shown bs) ∙ ap (map memory_shown) same ∙ map-map memory_shown shown cs

pub shown-spares : (bs cs : List RowBlock) → map shown bs ≡ map shown cs → count_by is_spare bs ≡ count_by is_spare cs
shown-spares bs cs same = sym (count_by-map spare_shown shown bs) ∙ ap (count_by spare_shown) same ∙ count_by-map spare_shown shown cs

pub shown-nodes : (bs cs : List RowBlock) → map shown bs ≡ map shown cs → row_nodes_in bs ≡ row_nodes_in cs
shown-nodes [] [] same = refl
shown-nodes [] (c ∷ cs) same = absurd (cc)
shown-nodes (b ∷ bs) [] same = absurd (cc)
shown-nodes (b ∷ bs) (c ∷ cs) same =
    let here : shown b ≡ shown c = cc in let rest : map shown bs ≡ map shown cs = cc in
    ap (λ (t : Shown). t.0 ++ row_nodes_in bs) here ∙ ap (λ ns. block_nodes c.nodes ++ ns) (shown-nodes bs cs rest)
