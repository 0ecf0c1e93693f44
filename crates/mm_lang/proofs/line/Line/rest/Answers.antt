use Rattle.std.proofs.Common.{[]}
use Rattle.mm_lang.proofs.Utf8.{of_text-after}
use Rattle.mm_lang.proofs.line.Line.rest.Goals as goal

pub returns-clause-of_text : goal.returns-clause-of_text
returns-clause-of_text c =
    let line = c.self.inside in
    rw c.self.invariant.3 (of_text-after line.text.now ([], c.self.invariant.0))
