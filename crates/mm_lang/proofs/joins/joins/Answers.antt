use Rattle.std.proofs.lemmas.Result.{IfOk-weaker}
use lib.Chars.{codes}
use Rattle.plain_tables.specs.Spelling.{joined_symbols}
use Rattle.mm_lang.specs.Parsing.{BeginsWithList, BeginsWithJoins}
use Rattle.mm_lang.proofs.Joining.{begins-no_join, begins-joins, begins-not_joins}
use Rattle.mm_lang.proofs.joins.joins.Goals as goal

pub returns-in-None-clause-joins : goal.returns-in-None-clause-joins
returns-in-None-clause-joins c =
    rw c.new.ensures.items (begins-no_join c.args.line.now c.in-None.ensures)

pub returns-in-Some-clause-joins : goal.returns-in-Some-clause-joins
returns-in-Some-clause-joins c =
    IfOk-weaker c.list.result (λ r. BeginsWithList joined_symbols (codes "join") c.in-Some.front.now r.0.items r.1.now)
    (λ r. BeginsWithJoins c.args.line.now r.0.items r.1.now)
    (λ r. begins-joins c.args.line.now c.in-Some.front.now r.0.items r.1.now c.in-Some.ensures.0 c.in-Some.ensures.1) c.list.ensures.items

pub returns-in-Some-clause-syntax : goal.returns-in-Some-clause-syntax
returns-in-Some-clause-syntax c = λ syntax.
    begins-not_joins c.args.line.now c.in-Some.front.now c.in-Some.ensures.0 c.in-Some.ensures.1 (c.list.ensures.syntax syntax)
