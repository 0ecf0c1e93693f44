use Rattle.std.proofs.Common.{◌≡◌, ◌+◌, ◌∷◌, [], refl, sym, ap, ◌∙◌, arith, subst, length, reverse, append-nil}
use Rattle.mm_catalog.specs.Outline.{Outline, outline_of}
use Rattle.mm_catalog.specs.Unindexed.{CanHaveIndex, with_index_of}
use Rattle.mm_transactions.specs.Undoing.{Change, IndexDropped}
use Rattle.mm_transactions.proofs.Steps.{none_dropped}
use Rattle.mm_transactions.proofs.Undoing.{lead_back_then}
use Rattle.mm_transactions.specs.Log.{ArePlaced, changes_of}
use Rattle.mm_transactions.specs.declared.step.Kind.TheVariants as kind
use Rattle.mm_transactions.specs.declared.step.Step.{Step}
use Rattle.mm_transactions.proofs.Steps.{few_commands, noted_so}
use Rattle.mm_transactions.proofs.log.UndoLog.drop_index.Goals as goal
use Rattle.mm_transactions.proofs.log.UndoLog.drop_index.Goals.{After-note}

both : (c : After-note) → (changes_of (reverse c.note.new.steps.items) c.self.inside.refs.items c.self.inside.cells.items ≡ IndexDropped c.args.table.0 c.put-dropped.result ∷ changes_of (reverse c.self.inside.steps.items) c.self.inside.refs.items c.self.inside.cells.items)
    × ArePlaced (reverse c.note.new.steps.items) c.self.inside.refs.items c.self.inside.cells.items (c.self.inside.commands + 1)
both c =
    let steps = c.self.inside.steps.items in
    let refs = c.self.inside.refs.items in
    let cells = c.self.inside.cells.items in
    let step : Step = record { kind = kind.IndexDropped c.put-dropped.result; table = c.args.table; start = c.len-start.result; cells_start = c.len-cells_start.result } in
    let start : c.len-start.result ≡ length refs = omega (arith, c.len-start.ensures, c.self.inside.refs.ok.0) in
    let from : c.len-cells_start.result ≡ length cells = omega (arith, c.len-cells_start.ensures, c.self.inside.cells.ok.0) in
    noted_so steps c.reserve.new.self.items c.note.new.steps.items step 0 c.note.ensures.noted c.in_ok-reserve.ensures.items
    refs refs [] cells cells [] (sym (append-nil refs)) (sym (append-nil cells)) start from refl refl c.self.inside.commands c.self.invariant

pub overflow_add-self : goal.overflow_add-self
overflow_add-self c =
    let log = c.self.inside in
    omega (arith, few_commands log.steps.items log.refs.items log.cells.items log.commands c.self.invariant, log.steps.ok.0, log.steps.ok.1, log.steps.small, log.refs.ok.0, log.refs.ok.1, log.refs.small)

pub invariant_of-self-2 : goal.invariant_of-self-2
invariant_of-self-2 c = (both (goal.at.invariant_of-self-2 c).After-note).1

pub returns-clause-noted : goal.returns-clause-noted
returns-clause-noted c =
    let taken = c.in_ok-take_index_out.ensures.taken in
    let old : Outline = outline_of c.args.catalog.now in
    let new : Outline = outline_of c.take_index_out.new.self in
    let n = c.args.table.0 in
    let index : Change = IndexDropped n c.put-dropped.result in
    rw (← c.self.view_is) (record {
      made = index ∷ [];
      undone =
          lead_back_then index [] new old old (subst (CanHaveIndex new n) (sym c.put-dropped.ensures) taken.can)
          (ap (λ d. with_index_of n d new) c.put-dropped.ensures ∙ taken.others) (c.args.catalog.now, c.a_catalog_is_consistent.ensures, refl) refl;
      changes = (both (goal.at.returns-clause-noted c).After-note).0;
      marks = refl;
    })

pub returns-then-not-has_index-clause-done : goal.returns-then-not-has_index-clause-done
returns-then-not-has_index-clause-done c = none_dropped c.args.catalog.now c.args.table c.args.column c.args.kind (sym c.has_index.ensures ∙ c.if-not-has_index.true)

pub returns-then-not-has_index-clause-noted : goal.returns-then-not-has_index-clause-noted
returns-then-not-has_index-clause-noted c = record { made = []; undone = refl; changes = refl; marks = refl }
