use Rattle.mm_session.proofs.Results.{OnOk-map}
use Rattle.mm_session.proofs.session.Session.finish.Goals as goal

pub returns-clause-ok : goal.returns-clause-ok
returns-clause-ok g c = OnOk-map c.end.result _ _ (λ (gained, grows, finishes). (gained, grows, (c.end.new.self, finishes))) c.end.ensures.ok

pub returns-clause-write : goal.returns-clause-write
returns-clause-write g c = λ fault. let (sent, grows, breaks) = c.end.ensures.write fault in (sent, grows, (c.end.new.self, breaks))
