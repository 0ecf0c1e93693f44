use Rattle.std.proofs.Common.{◌∙◌, ap, subst, sym}
use Rattle.mm_session.specs.Restoring.{IsRestored}
use Rattle.mm_session.specs.Sessions.{State}
use Rattle.mm_database.specs.declared.database.OpenDatabase.{OpenDatabase}
use Rattle.mm_database.specs.declared.restoring.OpenRestore.{OpenRestore}
use Rattle.mmdb_c.proofs.restore_calls.open_restored.Goals as goal

pub returns-clause-done : goal.returns-clause-done
returns-clause-done c =
    let own : OpenRestore = c.args.own.value in
    let same = c.over.ensures.session ∙ c.into_session.ensures ∙ ap (λ (r : OpenRestore). r.inner.session) c.into_inner-inner.ensures in
    let whole = subst (λ (r : OpenRestore). IsRestored r.inner.session r.inner.session.database) c.deref.ensures c.in-Ok.ensures.restored in
    record {
      session = same;
      restored = subst (λ (s : State). IsRestored own.inner.session s.database) (sym same) whole;
      none = c.over.ensures.none;
      alone = c.over.ensures.alone;
      answer = ap (λ (d : OpenDatabase). d.answer) c.deref_mut.ensures.value ∙ c.in-Ok-new_database.ensures.answer;
      reason = ap (λ (d : OpenDatabase). d.reason) c.deref_mut.ensures.value ∙ c.in-Ok-new_database.ensures.reason;
    }
