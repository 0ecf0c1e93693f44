-- What a relation of these parts is seen as.
use Rattle.std.specs.Prelude.{ℕ, List, Option, map}
use Rattle.part_raw.specs.Store.{Tuples}
use Rattle.plain_tables.specs.declared.schema.Schema.{Schema}
use Rattle.mm_relation.specs.Rows.{Aside, Row}
use Rattle.mm_relation.specs.declared.numbers.DeclaredIndex.{DeclaredIndex}
use Rattle.mm_relation.specs.State.{RelationState, RowTree}
use Rattle.mm_relation.specs.Indexes.{Indexes, seen, trees_of, hashes_of, all_buckets}

abbrev pub state : Aside → Schema → List (Option ℕ) → List DeclaredIndex → Tuples Row → RowTree → Indexes → RelationState
state aside schema targets declared rows by_key all =
    record { schema = schema; targets = targets; declared = declared; rows = rows; by_key = by_key; trees = trees_of (map seen all); hashes = hashes_of (map seen all); buckets = all_buckets (map seen all); referrers = aside.numbers; counted = aside.counted; hidden = aside.hidden; owed = aside.owed }
