use Rattle.std.proofs.Common.{◌≡◌, map, take}
use Rattle.plain_tables.specs.ResolvedLaws.{emptied}
use Rattle.mm_catalog.specs.Seen.{database_of}
use Rattle.mm_shared.specs.Noted.{noted_table}
use Rattle.mm_shared.proofs.noted.note_tables.Given as goal

-- so many tables are noted
abbrev pub invariant-loop-number : goal.invariant-loop-number
invariant-loop-number l = map noted_table l.tables.items ≡ take l.number (map emptied (database_of l.catalog))
