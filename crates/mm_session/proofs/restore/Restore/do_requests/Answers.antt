use Rattle.std.proofs.Common.{◌≡◌, ◌++◌, ◌∙◌, [], ℕ, List, ap, append_assoc, refl, subst, sym}
use Rattle.mm_session.specs.Refused.{TellsRefusal}
use Rattle.mm_session.proofs.Restoring.{TakesIn-append, takes_nothing, takes_request, takes_rest}
use Rattle.mm_session.proofs.restore.Restore.do_requests.Goals as goal

-- bytes of which something was done, and then a request and what follows it
split : (bytes done rest front others : List ℕ) → bytes ≡ done ++ rest → rest ≡ front ++ others → bytes ≡ (done ++ front) ++ others
split bytes done rest front others is parts = is ∙ ap (λ r. done ++ r) parts ∙ sym (append_assoc done front others)

pub loop-others-init : goal.loop-others-init
loop-others-init c = ([], takes_nothing c.args.self.now.session c.requires, refl, refl)

pub answer_next-requires : goal.answer_next-requires
answer_next-requires c = let (done, taken, is, same) = c.loop-others.invariant in taken.going_on

pub loop-others-preserved : goal.loop-others-preserved
loop-others-preserved c =
    let (done, taken, is, same) = c.loop-others.invariant in
    let (front, parts, next) = c.in-Some.ensures.some in
    let tells : TellsRefusal c.answer_next.new.answer 0 = subst (TellsRefusal c.answer_next.new.answer) c.if-refusal-ne0.false c.refusal.ensures in (
      done ++ front,
      TakesIn-append c.args.self.now.session c.loop-others.self.session c.answer_next.new.self done front taken
          (takes_request c.loop-others.self.session c.answer_next.new.self front c.answer_next.new.answer next tells),
      split c.args.bytes.now done c.loop-others.rest.now front c.in-Some.others.now is parts,
      same,
    )

pub returns-then-refusal-ne0-clause-refused : goal.returns-then-refusal-ne0-clause-refused
returns-then-refusal-ne0-clause-refused c = (
  refl,
  record {
    number = c.refusal.result;
    tells = c.refusal.ensures;
    refused = c.if-refusal-ne0.true;
  },
)

pub returns-clause-taken : goal.returns-clause-taken
returns-clause-taken c =
    let (done, taken, is, same) = c.loop-others.invariant in
    rw is (TakesIn-append c.args.self.now.session c.loop-others.self.session c.answer_next.new.self done c.loop-others.rest.now taken
    (takes_rest c.loop-others.self.session c.answer_next.new.self c.loop-others.rest.now c.in_default.ensures.none))

pub returns-clause-begun : goal.returns-clause-begun
returns-clause-begun c =
    let (done, taken, is, same) = c.loop-others.invariant in same

pub returns-then-refusal-ne0-clause-begun : goal.returns-then-refusal-ne0-clause-begun
returns-then-refusal-ne0-clause-begun c =
    let (done, taken, is, same) = c.loop-others.invariant in same
