use Rattle.std.proofs.Common.{◌≡◌, ◌++◌, map, take}
use Rattle.mm_catalog.specs.Seen.{database_of}
use Rattle.mm_session.specs.Listing.{command_lines}
use Rattle.mm_session.specs.Saving.{declaration, first_line}
use Rattle.mm_session.proofs.execute.saving.push_declarations.Given as goal

abbrev pub invariant-loop-number : goal.invariant-loop-number
invariant-loop-number l = l.answer ≡ l.fn.answer ++ (first_line ++ command_lines (map declaration (take l.number (database_of l.catalog))))
