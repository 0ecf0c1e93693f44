use Rattle.std.proofs.Common.{◌≡◌, ◌+◌, ◌∷◌, [], ◌++◌, refl, sym, ap, ◌∙◌, arith, length, reverse, append-nil}
use Rattle.mm_transactions.specs.Undoing.{Came}
use Rattle.mm_transactions.specs.Log.{ArePlaced, changes_of}
use Rattle.mm_transactions.specs.declared.step.Kind.TheVariants as kind
use Rattle.mm_transactions.specs.declared.step.Step.{Step}
use Rattle.mm_transactions.proofs.Steps.{few_commands, held_there, noted_so}
use Rattle.mm_transactions.proofs.log.UndoLog.insert.Goals as goal
use Rattle.mm_transactions.proofs.log.UndoLog.insert.Goals.{After-note}

both : (c : After-note) → (changes_of (reverse c.note.new.steps.items) c.push_reserved.new.self.items c.self.inside.cells.items ≡ Came c.args.table.0 (c.in_ok-r.r ∷ []) ∷ changes_of (reverse c.self.inside.steps.items) c.self.inside.refs.items c.self.inside.cells.items)
    × ArePlaced (reverse c.note.new.steps.items) c.push_reserved.new.self.items c.self.inside.cells.items (c.self.inside.commands + 1)
both c =
    let steps = c.self.inside.steps.items in
    let refs = c.self.inside.refs.items in
    let cells = c.self.inside.cells.items in
    let step : Step = record { kind = kind.Came 0; table = c.args.table; start = c.len.result; cells_start = c.len-2.result } in
    let old_refs = c.in_ok-make_room.ensures.refs in
    let start : c.len.result ≡ length refs = omega (arith, c.len.ensures, c.make_room.new.refs.ok.0, ap length old_refs) in
    let from : c.len-2.result ≡ length cells = omega (arith, c.len-2.ensures, c.self.inside.cells.ok.0) in
    noted_so steps c.make_room.new.steps.items c.note.new.steps.items step 1 c.note.ensures.noted c.in_ok-make_room.ensures.steps
    refs c.push_reserved.new.self.items (c.in_ok-r.r ∷ []) cells cells []
    (c.push_reserved.ensures.items ∙ ap (λ rs. rs ++ c.in_ok-r.r ∷ []) old_refs) (sym (append-nil cells)) start from refl refl c.self.inside.commands c.self.invariant

pub overflow_add-self : goal.overflow_add-self
overflow_add-self c =
    let log = c.self.inside in
    omega (arith, few_commands log.steps.items log.refs.items log.cells.items log.commands c.self.invariant, log.steps.ok.0, log.steps.ok.1, log.steps.small, log.refs.ok.0, log.refs.ok.1, log.refs.small)

pub invariant_of-self-2 : goal.invariant_of-self-2
invariant_of-self-2 c = (both (goal.at.invariant_of-self-2 c).After-note).1

pub returns-clause-noted : goal.returns-clause-noted
returns-clause-noted c =
    let more = c.in_ok-r.ensures.came in
    rw (← c.self.view_is) (record {
      change = Came c.args.table.0 (c.in_ok-r.r ∷ []);
      ready = more.held;
      undone = more.others;
      changes = (both (goal.at.returns-clause-noted c).After-note).0;
      marks = refl;
    })

pub cover_many-requires : goal.cover_many-requires
cover_many-requires c = held_there _ _ _ c.in_ok-r.ensures.came.held
