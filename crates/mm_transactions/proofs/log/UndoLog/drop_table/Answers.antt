use Rattle.std.proofs.Common.{◌≡◌, ◌+◌, ◌-◌, ◌∷◌, [], refl, sym, ap, ◌∙◌, subst, arith, length, reverse, append-nil, length-append}
use Rattle.mm_catalog.specs.DroppedTables.{CanHaveTable, with_table}
use Rattle.mm_catalog.specs.Outline.{Outline, outline_of}
use Rattle.mm_transactions.specs.Log.{ArePlaced, changes_of}
use Rattle.mm_transactions.specs.Undoing.{Change, LeadBack, TableDropped, Went}
use Rattle.mm_transactions.specs.declared.step.Kind.TheVariants as kind
use Rattle.mm_transactions.specs.declared.step.Step.{Step}
use Rattle.mm_transactions.proofs.Steps.{few_commands, noted_so}
use Rattle.mm_transactions.proofs.Undoing.{lead_back_then}
use Rattle.mm_transactions.proofs.log.UndoLog.drop_table.Goals as goal
use Rattle.mm_transactions.proofs.log.UndoLog.drop_table.Goals.{After-note, After-note-2}

first : (c : After-note) → (changes_of (reverse c.note.new.steps.items) c.empty_table.new.refs.items c.self.inside.cells.items ≡ Went c.args.table.0 c.in_ok-empty_table.ensures.hidden.refs ∷ changes_of (reverse c.self.inside.steps.items) c.self.inside.refs.items c.self.inside.cells.items)
    × ArePlaced (reverse c.note.new.steps.items) c.empty_table.new.refs.items c.self.inside.cells.items (c.self.inside.commands + 1)
first c =
    let steps = c.self.inside.steps.items in
    let refs = c.self.inside.refs.items in
    let cells = c.self.inside.cells.items in
    let all = c.empty_table.new.refs.items in
    let out = c.in_ok-empty_table.ensures.hidden in
    let went : Step = record { kind = kind.Went 0; table = c.args.table; start = c.len-start.result; cells_start = c.len-cells_start.result } in
    let start : c.len-start.result ≡ length refs = omega (arith, c.len-start.ensures, c.self.inside.refs.ok.0) in
    let from : c.len-cells_start.result ≡ length cells = omega (arith, c.len-cells_start.ensures, c.self.inside.cells.ok.0) in
    let rows = c.len-end.result - c.len-start.result in
    let count : length out.refs ≡ rows = omega (arith, c.len-end.ensures, c.empty_table.new.refs.ok.0, ap length out.list, length-append refs out.refs, start) in
    noted_so steps c.reserve.new.self.items c.note.new.steps.items went rows c.note.ensures.noted c.in_ok-reserve.ensures.items
    refs all out.refs cells cells [] out.list (sym (append-nil cells)) start from count (omega arith) c.self.inside.commands c.self.invariant

both : (c : After-note-2) → ArePlaced (reverse c.note.new.steps.items) c.empty_table.new.refs.items c.self.inside.cells.items (c.self.inside.commands + 1)
    → (changes_of (reverse c.note-2.new.steps.items) c.empty_table.new.refs.items c.self.inside.cells.items ≡ TableDropped c.put-dropped.result ∷ changes_of (reverse c.note.new.steps.items) c.empty_table.new.refs.items c.self.inside.cells.items)
    × ArePlaced (reverse c.note-2.new.steps.items) c.empty_table.new.refs.items c.self.inside.cells.items (c.self.inside.commands + 1 + 1)
both c placed =
    let cells = c.self.inside.cells.items in
    let all = c.empty_table.new.refs.items in
    let dropped : Step = record { kind = kind.TableDropped c.put-dropped.result; table = c.args.table; start = c.len-end.result; cells_start = c.len-cells_start.result } in
    let end : c.len-end.result ≡ length all = omega (arith, c.len-end.ensures, c.empty_table.new.refs.ok.0) in
    let from : c.len-cells_start.result ≡ length cells = omega (arith, c.len-cells_start.ensures, c.self.inside.cells.ok.0) in
    noted_so c.note.new.steps.items c.note.new.steps.items c.note-2.new.steps.items dropped 0 c.note-2.ensures.noted refl
    all all [] cells cells [] (sym (append-nil all)) (sym (append-nil cells)) end from refl refl (c.self.inside.commands + 1) placed

pub overflow_add-self : goal.overflow_add-self
overflow_add-self c =
    let log = c.self.inside in
    omega (arith, few_commands log.steps.items log.refs.items log.cells.items log.commands c.self.invariant, c.in_ok-reserve.ensures, c.reserve.new.self.small, c.reserve.new.self.ok.0, log.steps.ok.0, log.refs.ok.0, log.refs.ok.1, log.refs.small)

pub invariant_of-self-2 : goal.invariant_of-self-2
invariant_of-self-2 c =
    let at = goal.at.invariant_of-self-2 c in
    subst (ArePlaced (reverse c.note-2.new.steps.items) c.empty_table.new.refs.items c.self.inside.cells.items) (omega arith) (both at.After-note-2 (first at.After-note).1).1

pub returns-clause-noted : goal.returns-clause-noted
returns-clause-noted c =
    let at = goal.at.returns-clause-noted c in
    let one = first at.After-note in
    let out = c.in_ok-empty_table.ensures.hidden in
    let taken = c.take_table_out.ensures.taken in
    let old : Outline = outline_of c.args.catalog.now in
    let mid : Outline = outline_of c.empty_table.new.self in
    let new : Outline = outline_of c.take_table_out.new.self in
    let rows : Change = Went c.args.table.0 out.refs in
    let table : Change = TableDropped c.put-dropped.result in
    let last : LeadBack (rows ∷ []) mid old = lead_back_then rows [] mid old old out.more.hides out.more.others (c.args.catalog.now, c.a_catalog_is_consistent.ensures, refl) refl in
    rw (← c.self.view_is) (record {
      made = table ∷ rows ∷ [];
      undone =
          lead_back_then table (rows ∷ []) new mid old (subst (CanHaveTable new) (sym c.put-dropped.ensures) taken.can)
          (ap (λ d. with_table d new) c.put-dropped.ensures ∙ taken.others) (c.empty_table.new.self, c.a_catalog_is_consistent-2.ensures, refl) last;
      changes = (both at.After-note-2 one.1).0 ∙ ap (λ changes. table ∷ changes) one.0;
      marks = refl;
    })
