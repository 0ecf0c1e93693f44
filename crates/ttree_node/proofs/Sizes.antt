-- A node's bytes, for not too many items.
use Rattle.std.proofs.Common.{◌≡◌, ℕ, ◌+◌, ◌-◌, ◌*◌, ◌%◌, ◌<◌, ◌≤◌, ◌^◌, arith, lit<}
use prog.Memory.{up}
use Rattle.std.proofs.Common as common
use Rattle.ttree_node.specs.declared.parts.TheConstants.{MOST_ITEMS}

pub rounds : (k e : ℕ) → 0 < k → up k e < e + k
rounds k e h = omega (arith, common.mod-lt (k - e % k) h)

pub node_fits : (n : ℕ) → n ≤ MOST_ITEMS → up 8 (up 1 (up 8 (0 + up 4 (0 + n * 4)) + 8) + 0) < 9223372036854775808
node_fits n le =
    omega (arith, le, rounds 4 (0 + n * 4) (lit< tt), rounds 8 (0 + up 4 (0 + n * 4)) (lit< tt), rounds 1 (up 8 (0 + up 4 (0 + n * 4)) + 8) (lit< tt), rounds 8 (up 1 (up 8 (0 + up 4 (0 + n * 4)) + 8) + 0) (lit< tt))
