use Rattle.std.proofs.Common.{◌≡◌, ◌++◌, length}
use Rattle.std.specs.List.{flat_map}
use Rattle.std.specs.Str.{IsUtf8}
use Rattle.plain_tables.specs.Spelling.{doubled}
use Rattle.mm_lang.proofs.texts.push_doubled.Given as goal

-- what is written and what is left are the whole
abbrev pub invariant-loop-part : goal.invariant-loop-part
invariant-loop-part g l =
    IsUtf8 l.rest × (g.S.Sink.held l.line ++ flat_map doubled l.rest ≡ g.S.Sink.held l.fn.line ++ flat_map doubled l.fn.text)

abbrev pub decreases-loop-part : goal.decreases-loop-part
decreases-loop-part g l = length l.rest
