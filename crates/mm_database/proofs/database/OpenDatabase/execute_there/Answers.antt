-- The cells that the statement has shown are filled where they stand.
use Rattle.std.proofs.Common.{◌≡◌, ◌∙◌, ℕ, List, [], Some, Err, refl, ap, sym, subst, get_or-set_same}
use Rattle.std.proofs.lemmas.Result.{err_from_is_err_and}
use Rattle.std.specs.Option.{option_map_or}
use Rattle.std.specs.Prelude.{slice_get, slice_set}
use Rattle.mm_cells.specs.Reading.{AreFull}
use Rattle.mm_cells.specs.Values.{values_of}
use Rattle.mm_cells.specs.declared.cells.Cells.{Cells}
use Rattle.mm_statements.specs.Executing.{HasGiven}
use Rattle.mm_statements.specs.declared.faults.ExecuteFault.TheVariants as fault
use Rattle.mm_database.specs.StatementCalls.{Tells}
use Rattle.mm_database.proofs.RowCells.{set-other, set-same}
use Rattle.mm_database.proofs.database.OpenDatabase.execute_there.Goals as goal

pub returns-in_err-executed-clause-others : goal.returns-in_err-executed-clause-others
returns-in_err-executed-clause-others c = record {
  others = λ other cells apart there. set-other c.args.self.now.shown.items c.args.number other c.execute.new.shown cells apart there;
  queried = refl;
  columns = refl;
}

pub returns-in_err-executed-clause-too_long : goal.returns-in_err-executed-clause-too_long
returns-in_err-executed-clause-too_long c =
    let e = err_from_is_err_and c.from_residual.result c.from_residual.ensures.1 in
    let cells : Cells = c.execute.new.shown in
    let there : slice_get (slice_set c.args.self.now.shown.items c.args.number cells) c.args.number ≡ Some cells =
    set-same c.args.self.now.shown.items c.args.number cells c.requires in
    rw (e.1, e.2)
    (λ is.
    let same : c.in_err-executed.field-0.0 ≡ fault.TooLong = cc in
    subst (λ o. AreFull (option_map_or values_of o [])) (sym there) (c.in_err-executed.ensures.too_long (ap Err same)))

pub returns-clause-done : goal.returns-clause-done
returns-clause-done c =
    let items : List Cells = c.args.self.now.shown.items in
    let n : ℕ = c.args.number in
    let cells : Cells = c.execute.new.shown in
    let given = c.in_ok-executed.executed in
    let done = c.in_ok-executed.ensures.done in
    let there : slice_get (slice_set items n cells) n ≡ Some cells = set-same items n cells c.requires in
    let told : c.index.result.now ≡ cells = c.index.ensures ∙ get_or-set_same items n cells c.index.result.now c.requires in (
      given,
      record {
        effect = done.0;
        is = done.1;
        gave = subst (HasGiven c.execute.new.self.session done.0 given) (sym (ap (λ o. option_map_or values_of o []) there)) done.2;
        stream = c.execute.ensures.stream;
        shared = c.execute.ensures.keeps;
        statements = c.execute.ensures.statements;
      },
      rw there (subst (λ (p : Cells). Tells p given c.tell.new.self) told c.tell.ensures),
    )

pub returns-clause-others : goal.returns-clause-others
returns-clause-others c = record {
  others = λ other cells apart there. set-other c.args.self.now.shown.items c.args.number other c.execute.new.shown cells apart there;
  queried = refl;
  columns = refl;
}
