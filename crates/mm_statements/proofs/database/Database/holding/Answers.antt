use Rattle.std.proofs.Common.{ap, ◌∙◌}
use Rattle.std.specs.Option.{option_map}
use Rattle.mm_prepared.specs.Kept.{seen}
use Rattle.mm_statements.proofs.Seen.{statement-seen}
use Rattle.mm_statements.proofs.database.Database.holding.Goals as goal

pub returns-clause-none : goal.returns-clause-none
returns-clause-none c = λ number. statement-seen c.args.held c.new.result number ∙ ap (option_map seen) (c.new.ensures number)
