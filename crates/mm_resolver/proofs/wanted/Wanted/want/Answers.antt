use Rattle.std.proofs.Common.{refl}
use Rattle.std.proofs.lemmas.Result.{IfOk-weaker}
use Rattle.mm_resolver.specs.declared.wanted.Wanted.{Wanted}
use Rattle.mm_resolver.proofs.Adding.{adds-hole}
use Rattle.mm_resolver.proofs.wanted.Wanted.want.Goals as goal

pub returns : goal.returns
returns c =
    let before = c.args.self.now in
    let after : Wanted = record { wants = c.push.new.self; given_wrong = before.given_wrong; given_past = before.given_past; asked = c.saturating_add-self.result } in
    IfOk-weaker c.push.result _ _ (λ _ pushed. adds-hole before after c.args.hole c.args.need pushed refl refl) c.push.ensures.pushed
