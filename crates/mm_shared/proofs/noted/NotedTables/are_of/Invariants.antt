use Rattle.std.proofs.Common.{◌≡◌, map, take}
use Rattle.plain_tables.specs.ResolvedLaws.{emptied}
use Rattle.mm_catalog.specs.Seen.{database_of}
use Rattle.mm_shared.specs.Noted.{noted_tables}
use Rattle.mm_shared.proofs.noted.NotedTables.are_of.Given as goal

-- so many tables are those of the catalog
abbrev pub invariant-loop-number : goal.invariant-loop-number
invariant-loop-number l = take l.number (noted_tables l.self) ≡ take l.number (map emptied (database_of l.catalog))
