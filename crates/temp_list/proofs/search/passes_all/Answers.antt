use Rattle.std.proofs.Common.{◌∙◌, sym, length}
use Rattle.std.proofs.lemmas.Bool.{eqb-true}
use Rattle.temp_list.proofs.Reading.{passes_none}
use Rattle.temp_list.proofs.search.passes_all.Goals as goal

pub returns-then-is_empty : goal.returns-then-is_empty
returns-then-is_empty g c =
    passes_none (g.R.Relations.tables c.args.tables.now) c.args.relation.now c.args.r c.args.tests.now (eqb-true (length c.args.tests.now) 0 (sym c.is_empty.ensures ∙ c.if-is_empty.true))
