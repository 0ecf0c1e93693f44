use Rattle.std.proofs.Common.{◌∙◌, refl}
use Rattle.plain_tables.specs.declared.refusal.Refusal.TheVariants.{NoMemory}
use Rattle.mm_database.proofs.database.OpenDatabase.execute.Goals as goal

pub returns-then-is_err-clause-refused : goal.returns-then-is_err-clause-refused
returns-then-is_err-clause-refused c _ = record {
  why = NoMemory;
  declined = λ other. absurd (other refl);
  answer = c.refuse.ensures;
}

pub returns-in-Ok-clause-done : goal.returns-in-Ok-clause-done
returns-in-Ok-clause-done c =
    let told = c.in-Ok.ensures.done in
    let done = told.1 in
    record {
      done = (told.0, record { effect = done.effect; is = done.is; gave = done.gave; stream = done.stream; shared = done.shared; statements = done.statements }, told.2);
      answer = c.execute_there.ensures.answer ∙ c.clear.ensures;
    }

pub returns-in-Err-Refused-clause-others : goal.returns-in-Err-Refused-clause-others
returns-in-Err-Refused-clause-others c =
    let kept = c.execute_there.ensures.others in
    record {
      others = λ other parts apart there. kept.others other parts apart (c.make_room.ensures.others other parts there);
      queried = kept.queried;
      columns = kept.columns;
    }
