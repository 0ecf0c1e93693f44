use Rattle.std.proofs.Common.{◌≡◌, ◌≤◌, ◌+◌, ◌-◌, length, drop}
use Rattle.plain_tables.specs.Reading.{text_length}
use Rattle.mm_lang.proofs.lexemes.quoted_length.Given as goal

abbrev pub invariant-loop-at : goal.invariant-loop-at
invariant-loop-at l =
    (l.at ≤ length l.characters) × (text_length l.characters ≡ l.at + text_length (drop l.at l.characters))

abbrev pub decreases-loop-at : goal.decreases-loop-at
decreases-loop-at l = length l.characters - l.at
