use Rattle.std.proofs.Common.{◌≡◌, length}
use Rattle.plain_tables.specs.Effects.{repeats}
use Rattle.plain_tables.specs.Queries.{same_place}
use Rattle.mm_resolver.proofs.checks.repeats_place.Given as goal

abbrev pub invariant-loop-first : goal.invariant-loop-first
invariant-loop-first g l = repeats same_place l.rest ≡ repeats same_place l.fn.places

abbrev pub decreases-loop-first : goal.decreases-loop-first
decreases-loop-first g l = length l.rest
