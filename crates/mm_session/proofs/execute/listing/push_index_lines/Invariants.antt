use Rattle.std.proofs.Common.{◌≡◌, ◌++◌, take}
use Rattle.mm_session.specs.Listing.{command_lines, index_commands}
use Rattle.mm_session.proofs.execute.listing.push_index_lines.Given as goal

abbrev pub invariant-loop-index : goal.invariant-loop-index
invariant-loop-index l =
    l.answer ≡ l.fn.answer ++ command_lines (index_commands l.name l.columns (take l.index-index l.index-items))
