-- Nodes in blocks, by the place of a block and that within it.
use Rattle.std.proofs.Common.{◌≡◌, ℕ, zero, suc, ◌+◌, ◌-◌, ◌*◌, ◌/◌, ◌%◌, ◌<◌, ◌≤◌, List, [], ◌∷◌, ◌++◌, length, get_or, set, take, drop, refl, sym, ap, ◌∙◌, arith}
use Rattle.std.proofs.Math.Seq.{take-set-lt}
use Rattle.std.proofs.lemmas.List.{append_assoc, length-append, length-take, length-take-le, get_or_append_left, get_or-append_right, set-append_left, set-append_right, take-append-drop, take-append-le, get_or-take, take_more, take_more_set}
use Rattle.lin_hash.specs.declared.block.Block.{Block}
use Rattle.lin_hash.specs.declared.node.Node.{Node}
use Rattle.lin_hash.specs.Blocks.{nodes_in}

pub length-nodes_in : (bs : List Block) → length (nodes_in bs) ≡ 256 * length bs
length-nodes_in [] = refl
length-nodes_in (b ∷ bs) =
    let rest = length-nodes_in bs in
    let here = b.full in
    let both = length-append b.nodes.value (nodes_in bs) in
    omega (arith, rest, here, both)

pub nodes_in-append : (bs cs : List Block) → nodes_in (bs ++ cs) ≡ nodes_in bs ++ nodes_in cs
nodes_in-append [] cs = refl
nodes_in-append (b ∷ bs) cs = ap (λ ns. b.nodes.value ++ ns) (nodes_in-append bs cs) ∙ sym (append_assoc b.nodes.value (nodes_in bs) (nodes_in cs))

pub nodes_in-pushed : (bs cs ds : List Block) (b : Block) (added : List Node) → nodes_in cs ≡ nodes_in bs ++ added → ds ≡ cs ++ b ∷ [] → nodes_in ds ≡ nodes_in bs ++ (added ++ nodes_in (b ∷ []))
nodes_in-pushed bs cs ds b added h is =
    ap nodes_in is ∙ nodes_in-append cs (b ∷ []) ∙ ap (λ ns. ns ++ nodes_in (b ∷ [])) h ∙ append_assoc (nodes_in bs) added (nodes_in (b ∷ []))

-- the first of them, which are in use
pub length-filled : (bs : List Block) (n : ℕ) → n ≤ 256 * length bs → length (take n (nodes_in bs)) ≡ n
length-filled bs n within = let long = length-nodes_in bs in length-take-le n (nodes_in bs) (omega arith)

-- the node at a place, and the nodes with another one there
pub node_in_block : (bs : List Block) (i j p : ℕ) (b : Block) (d : Node) → i < length bs → j < 256 → p ≡ 256 * i + j → b ≡ get_or bs i b → get_or (nodes_in bs) p d ≡ get_or b.nodes.value j d
node_in_block [] i j p b d inside within at is = absurd (omega arith)
node_in_block (c ∷ bs) zero j p b d inside within at is =
    let first : p ≡ j = omega arith in
    let full = c.full in
    get_or_append_left c.nodes.value (nodes_in bs) d p (omega arith) ∙ ap (λ k. get_or c.nodes.value k d) first ∙ ap (λ (e : Block). get_or e.nodes.value j d) (sym is)
node_in_block (c ∷ bs) (suc i) j p b d inside within at is =
    get_or-append_right c.nodes.value (nodes_in bs) 256 p d c.full (omega arith)
    ∙ node_in_block bs i j (p - 256) b d (omega arith) within (omega arith) is

pub nodes_in-set : (bs : List Block) (i j p : ℕ) (b new : Block) (n : Node) → i < length bs → j < 256 → p ≡ 256 * i + j → b ≡ get_or bs i b → new.nodes.value ≡ set b.nodes.value j n → nodes_in (set bs i new) ≡ set (nodes_in bs) p n
nodes_in-set [] i j p b new n inside within at is put = absurd (omega arith)
nodes_in-set (c ∷ bs) zero j p b new n inside within at is put =
    let first : j ≡ p = omega arith in
    let full = c.full in
    let changed : new.nodes.value ≡ set c.nodes.value p n = put ∙ ap (λ (e : Block). set e.nodes.value j n) is ∙ ap (λ k. set c.nodes.value k n) first in
    ap (λ ns. ns ++ nodes_in bs) changed ∙ sym (set-append_left c.nodes.value (nodes_in bs) p n (omega arith))
nodes_in-set (c ∷ bs) (suc i) j p b new n inside within at is put =
    ap (λ ns. c.nodes.value ++ ns) (nodes_in-set bs i j (p - 256) b new n (omega arith) within (omega arith) is put)
    ∙ sym (set-append_right c.nodes.value (nodes_in bs) 256 p n c.full (omega arith))

-- and of the first, which are in use
pub filled-set : (bs : List Block) (n p : ℕ) (b new : Block) (m : Node) → n ≤ 256 * length bs → p < n → b ≡ get_or bs (p / 256) b → new.nodes.value ≡ set b.nodes.value (p % 256) m → take n (nodes_in (set bs (p / 256) new)) ≡ set (take n (nodes_in bs)) p m
filled-set bs n p b new m within inside is put =
    ap (take n) (nodes_in-set bs (p / 256) (p % 256) p b new m (omega arith) (omega arith) (omega arith) is put) ∙ take-set-lt n (nodes_in bs) p m inside

pub filled-at : (bs : List Block) (n p : ℕ) (b : Block) (d : Node) → n ≤ 256 * length bs → p < n → b ≡ get_or bs (p / 256) b → get_or (take n (nodes_in bs)) p d ≡ get_or b.nodes.value (p % 256) d
filled-at bs n p b d within inside is =
    get_or-take n (nodes_in bs) p d inside ∙ node_in_block bs (p / 256) (p % 256) p b d (omega arith) (omega arith) (omega arith) is

pub filled-push : (bs : List Block) (n : ℕ) (b new : Block) (m : Node) → n < 256 * length bs → b ≡ get_or bs (n / 256) b → new.nodes.value ≡ set b.nodes.value (n % 256) m → take (n + 1) (nodes_in (set bs (n / 256) new)) ≡ take n (nodes_in bs) ++ m ∷ []
filled-push bs n b new m within is put =
    let long = length-nodes_in bs in
    ap (take (n + 1)) (nodes_in-set bs (n / 256) (n % 256) n b new m (omega arith) (omega arith) (omega arith) is put) ∙ take_more_set (nodes_in bs) n m (omega arith)

pub filled-pop : (bs : List Block) (n : ℕ) (d : Node) → 0 < n → n ≤ 256 * length bs → take n (nodes_in bs) ≡ take (n - 1) (nodes_in bs) ++ get_or (take n (nodes_in bs)) (n - 1) d ∷ []
filled-pop bs n d some within =
    let long = length-nodes_in bs in
    let last = get_or-take n (nodes_in bs) (n - 1) d (omega arith) in
    let one : n ≡ (n - 1) + 1 = omega arith in
    ap (λ k. take k (nodes_in bs)) one ∙ take_more (nodes_in bs) (n - 1) d (omega arith) ∙ ap (λ m. take (n - 1) (nodes_in bs) ++ m ∷ []) (sym last)

-- with more blocks and with fewer the first nodes are the same
pub filled-more : (bs cs : List Block) (added : List Node) (n : ℕ) → nodes_in cs ≡ nodes_in bs ++ added → n ≤ 256 * length bs → take n (nodes_in cs) ≡ take n (nodes_in bs)
filled-more bs cs added n more within =
    let long = length-nodes_in bs in
    ap (take n) more ∙ take-append-le n (nodes_in bs) added (omega arith)

pub nodes_in-fewer : (bs : List Block) (k n : ℕ) → n ≤ 256 * k → n ≤ 256 * length bs → take n (nodes_in (take k bs)) ≡ take n (nodes_in bs)
nodes_in-fewer bs k n enough within =
    let long = length-nodes_in (take k bs) in
    let kept = length-take k bs in
    let whole : nodes_in bs ≡ nodes_in (take k bs) ++ nodes_in (drop k bs) = ap nodes_in (sym (take-append-drop k bs)) ∙ nodes_in-append (take k bs) (drop k bs) in
    sym (ap (take n) whole ∙ take-append-le n (nodes_in (take k bs)) (nodes_in (drop k bs)) (omega (arith, long, kept)))
