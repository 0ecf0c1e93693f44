use Rattle.std.proofs.Common.{◌≡◌, ◌++◌, length}
use Rattle.std.specs.List.{flat_map}
use Rattle.std.specs.Str.{IsUtf8}
use Rattle.std.specs.String.{string_bytes}
use Rattle.plain_tables.specs.Spelling.{doubled}
use Rattle.mm_lang.proofs.texts.joined.Given as goal

-- what is read is the text so far
abbrev pub invariant-loop-part : goal.invariant-loop-part
invariant-loop-part l = IsUtf8 l.rest × (l.fn.marked ≡ flat_map doubled (string_bytes l.text) ++ l.rest)

abbrev pub decreases-loop-part : goal.decreases-loop-part
decreases-loop-part l = length l.rest
