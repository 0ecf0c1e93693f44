use Rattle.std.proofs.Common.{◌≡◌, ◌<◌, ◌^◌, take}
use Rattle.std.specs.Str.Parse.{AllDigits, digits_value}
use Rattle.plain_tables.proofs.digits.magnitude.Given as goal

-- the number of the digits so far
abbrev pub invariant-loop-c : goal.invariant-loop-c
invariant-loop-c l = AllDigits 10 (take l.c-index l.digits) × (l.value ≡ digits_value 10 (take l.c-index l.digits)) × (l.value < 2 ^ 64)
