use Rattle.std.proofs.Common.{◌≡◌, drop}
use Rattle.temp_list.specs.Ranges.{place_between}
use Rattle.temp_list.proofs.bounds_probe.place_between.Given as goal

-- all of those so far place it Equal
abbrev pub invariant-loop-test : goal.invariant-loop-test
invariant-loop-test l = place_between l.column.0 (drop l.test-index l.tests) l.value ≡ place_between l.column.0 l.tests l.value
