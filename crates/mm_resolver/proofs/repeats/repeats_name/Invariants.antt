use Rattle.std.proofs.Common.{◌≡◌, length, map}
use Rattle.std.specs.Str.{bytes_eq}
use Rattle.plain_tables.specs.Effects.{repeats}
use Rattle.mm_resolver.proofs.repeats.repeats_name.Given as goal

abbrev pub invariant-loop-first : goal.invariant-loop-first
invariant-loop-first g l = repeats bytes_eq (map g.N.HasName.named l.rest) ≡ repeats bytes_eq (map g.N.HasName.named l.fn.items)

abbrev pub decreases-loop-first : goal.decreases-loop-first
decreases-loop-first g l = length l.rest
