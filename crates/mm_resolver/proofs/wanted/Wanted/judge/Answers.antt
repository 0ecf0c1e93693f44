use Rattle.std.proofs.Common.{refl, ap}
use Rattle.std.specs.Prelude.{◌||◌}
use Rattle.mm_resolver.specs.declared.wanted.Wanted.{Wanted}
use Rattle.mm_resolver.proofs.Adding.{adds-given}
use Rattle.mm_resolver.proofs.wanted.Wanted.judge.Goals as goal

pub returns : goal.returns
returns g c =
    let before = c.args.self.now in
    let after : Wanted = record {
      wants = before.wants;
      given_wrong = before.given_wrong || c.is_wrong-is_wrong.result;
      given_past = before.given_past || c.is_past-is_past.result;
      asked = c.saturating_add-self.result;
    } in
    adds-given before after c.args.value.now c.args.need refl
    (ap (λ b. before.given_wrong || b) c.is_wrong-is_wrong.ensures) (ap (λ b. before.given_past || b) c.is_past-is_past.ensures)
