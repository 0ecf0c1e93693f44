use Rattle.std.proofs.Common.{true, ◌≡◌, refl, sym, ap, ◌∙◌, subst}
use Rattle.common_lemmas.proofs.Options.{same_Ok}
use Rattle.plain_tables.specs.Transactions.{rolled_back}
use Rattle.mm_catalog.specs.Outline.{outline_of}
use Rattle.mm_transactions.specs.Log.{LogState}
use Rattle.mm_transactions.specs.State.{IsUndoable, transactional_of}
use Rattle.mm_transactions.specs.Undoing.{undone}
use Rattle.mm_transactions.proofs.SameTables.{emptied_alike}
use Rattle.mm_transactions.proofs.Undoing.{rolled_back_so, settled_same}
use Rattle.mm_transactions.proofs.transactional.TransactionalCatalog.rollback.Goals as goal
use Rattle.mm_transactions.proofs.transactional.TransactionalCatalog.rollback.Goals.{After-a_catalog_is_consistent}

module _ (c : After-a_catalog_is_consistent) where
  all : IsUndoable c.undo_to-kept.new.catalog c.undo_to-kept.new.self.changes c.undo_to-kept.new.self.marks
      × (transactional_of (record { catalog = c.undo_to-kept.new.catalog; changes = c.undo_to-kept.new.self.changes; marks = c.undo_to-kept.new.self.marks })
      ≡ rolled_back (transactional_of (record { catalog = c.self.inside.catalog; changes = c.self.inside.log.changes; marks = c.self.inside.log.marks })))
      × (c.undo_to-kept.new.catalog.limits ≡ c.self.inside.catalog.limits)
  all =
      rolled_back_so c.self.inside.catalog c.undo_to-kept.new.catalog c.self.inside.log c.undo_to-kept.new.self c.self.invariant c.in-Some.mark c.close.new.self.marks
      c.a_catalog_is_consistent.ensures c.in-Some.ensures.closed c.undo_to-kept.ensures.marks c.undo_to-kept.ensures.ready c.undo_to-kept.ensures.left
      (λ m below. c.undo_to-kept.ensures.earlier m below ∙ ap (λ changes. undone m changes (outline_of c.self.inside.catalog)) c.in-Some.ensures.changes)

  same : c.forget.new.self ≡ c.undo_to-kept.new.self
  same =
      settled_same c.undo_to-kept.new.catalog c.undo_to-kept.new.self c.forget.new.self c.forget.ensures.marks c.forget.ensures.inside c.forget.ensures.outside
      all.0 c.undo_to-kept.new.self.marks refl

pub invariant_of-self-2 : goal.invariant_of-self-2
invariant_of-self-2 c =
    let at = (goal.at.invariant_of-self-2 c).After-a_catalog_is_consistent in
    subst (λ (l : LogState). IsUndoable c.undo_to-kept.new.catalog l.changes l.marks) (sym (same at)) (all at).0

pub returns-clause-limits : goal.returns-clause-limits
returns-clause-limits c = rw (← c.self.view_is) (all (goal.at.returns-clause-limits c).After-a_catalog_is_consistent).2

pub returns-clause-rolled_back : goal.returns-clause-rolled_back
returns-clause-rolled_back c =
    let at = (goal.at.returns-clause-rolled_back c).After-a_catalog_is_consistent in
    rw (← c.self.view_is)
    (ap (λ (l : LogState). transactional_of (record { catalog = c.undo_to-kept.new.catalog; changes = l.changes; marks = l.marks })) (same at) ∙ (all at).1)

pub returns-clause-tables : goal.returns-clause-tables
returns-clause-tables c so =
    rw (← c.self.view_is) (emptied_alike c.self.inside.catalog c.undo_to-kept.new.catalog (c.undo_to-kept.ensures.tables (same_Ok c.undo_to-kept.result true so)))
