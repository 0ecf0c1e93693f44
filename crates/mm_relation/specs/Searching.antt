-- How often a search compares.
use Rattle.std.specs.Prelude.{ℕ, ◌+◌}
use Rattle.ttree.specs.Held.{height}
use Rattle.mm_relation.specs.State.{RowTree}

-- at most so often does one search of a tree compare: once a level, and once more for each binary digit of the 32 references that a node has at most
abbrev pub most_compared : RowTree → ℕ
most_compared t = height t + 6
