use Rattle.std.proofs.Common.{Bool, List, [], ◌≡◌, ◌≢◌, ◌<◌, length, arith}
use Rattle.part_raw.specs.declared.tuple_ref.TupleRef.{TupleRef}
use Rattle.plain_tables.specs.Doing.{delete}
use Rattle.plain_tables.specs.Effects.{Refused}
use Rattle.plain_tables.specs.Tables.{Row}
use Rattle.plain_tables.specs.declared.numbers.TableNumber.{TableNumber}
use Rattle.plain_tables.specs.declared.refusal.Refusal.{Refusal}
use Rattle.mm_catalog.specs.Picked.{ArePicked}
use Rattle.mm_catalog.specs.Seen.{database_of}
use Rattle.mm_catalog.specs.State.{CatalogState}
use Rattle.mm_transactions.specs.State.{IsUndoable, saved_of}
use Rattle.mm_transactions.proofs.Undoing.{changed_so, kept_outline, refused_inside, refused_outside, saved_some}
use Rattle.mm_transactions.proofs.transactional.TransactionalCatalog.delete.Goals as goal
use Rattle.mm_transactions.proofs.transactional.TransactionalCatalog.delete.Goals.{After-delete-2}

-- a delete of these rows is refused so
abbrev IsDeclined : CatalogState → TableNumber → List TupleRef → Refusal → Type 0
IsDeclined c n rows refusal = (picks : Row → Bool) → ArePicked c n.0 rows picks → (delete (database_of c) n picks).outcome ≡ Refused refusal

both : (c : After-delete-2) → IsUndoable c.delete-2.new.catalog c.delete-2.new.self.changes c.delete-2.new.self.marks
    × (saved_of (record { catalog = c.delete-2.new.catalog; changes = c.delete-2.new.self.changes; marks = c.delete-2.new.self.marks })
    ≡ saved_of (record { catalog = c.self.inside.catalog; changes = c.self.inside.log.changes; marks = c.self.inside.log.marks }))
both c =
    let some : 0 < length c.self.inside.log.marks = omega (arith, c.depth.ensures, c.if-depth-eq0.false) in
    changed_so c.self.inside.catalog c.delete-2.new.catalog c.self.inside.log c.delete-2.new.self c.self.invariant c.delete-2.result c.a_catalog_is_consistent.ensures some c.delete-2.ensures.noted
    (kept_outline c.self.inside.catalog c.delete-2.new.catalog c.delete-2.result c.delete-2.ensures.kept) c.delete-2.ensures.unchanged

pub invariant_of-self-2 : goal.invariant_of-self-2
invariant_of-self-2 c = (both (goal.at.invariant_of-self-2 c).After-delete-2).0

pub returns-clause-saved : goal.returns-clause-saved
returns-clause-saved c = rw (← c.self.view_is) (both (goal.at.returns-clause-saved c).After-delete-2).1

pub returns-then-depth-eq0-clause-deleted : goal.returns-then-depth-eq0-clause-deleted
returns-then-depth-eq0-clause-deleted c = rw (← c.self.view_is) c.delete.ensures.deleted

pub returns-then-depth-eq0-clause-refused : goal.returns-then-depth-eq0-clause-refused
returns-then-depth-eq0-clause-refused c =
    let log = c.self.inside.log in
    rw (← c.self.view_is)
    (refused_outside (saved_of (record { catalog = c.self.inside.catalog; changes = log.changes; marks = log.marks }) ≢ []) (IsDeclined c.self.inside.catalog c.args.table c.args.rows.now) c.delete.result c.delete.ensures.refused)

pub returns-clause-deleted : goal.returns-clause-deleted
returns-clause-deleted c = rw (← c.self.view_is) c.delete-2.ensures.deleted

pub returns-clause-refused : goal.returns-clause-refused
returns-clause-refused c =
    let log = c.self.inside.log in
    let some : 0 < length log.marks = omega (arith, c.depth.ensures, c.if-depth-eq0.false) in
    rw (← c.self.view_is)
    (refused_inside (IsDeclined c.self.inside.catalog c.args.table c.args.rows.now) c.delete-2.result (saved_some (record { catalog = c.self.inside.catalog; changes = log.changes; marks = log.marks }) some) c.delete-2.ensures.refused)
