-- What of a relation stays where its schema does.
use Rattle.part_raw.specs.declared.tuple_ref.TupleRef.{TupleRef}
use Rattle.mm_relation.specs.Changes.{IsInserted, IsRemoved, KeepsSchema}
use Rattle.mm_relation.specs.Rows.{Row}
use Rattle.mm_relation.specs.State.{RelationState}
use Rattle.mm_catalog.specs.Deleted.{IsGone}
use Rattle.mm_catalog.specs.Hidden.{IsMore}
use Rattle.mm_catalog.specs.Recounted.{KeepsColumns, KeepsAside}

module _ (old new : RelationState) where
  pub columns_kept : KeepsSchema old new → KeepsColumns old new
  columns_kept keeps = record { schema = keeps.schema; targets = keeps.targets; declared = keeps.declared; counted = keeps.counted }

  pub aside_kept : KeepsSchema old new → KeepsAside old new
  aside_kept keeps = record { hidden = keeps.hidden; owed = keeps.owed }

  pub row_gone : (r : TupleRef) → IsRemoved old new r → IsGone old new r
  row_gone r removed = record { rows = removed.rows; referrers = removed.referrers; keeps = columns_kept removed.keeps }

  pub row_more : (r : TupleRef) (row : Row) → IsInserted old new r row → IsMore old new r row
  row_more r row inserted = record { free = inserted.free; rows = inserted.rows; referrers = inserted.referrers; keeps = columns_kept inserted.keeps }
