use Rattle.std.proofs.Common.{◌≡◌, ◌∙◌, ap, map, sym, Ok}
use Rattle.plain_tables.specs.Commands.{effect_of_resolved}
use Rattle.plain_tables.specs.Effects.{Changed, Effect}
use Rattle.plain_tables.specs.ResolvedLaws.{emptied}
use Rattle.plain_statements.specs.Finishing.{finished}
use Rattle.mm_prepared.specs.Many.{effect_with}
use Rattle.mm_statements.proofs.ManyRows.{meaning-stays, row-meant, row-schemas}
use Rattle.mm_statements.proofs.many.change_with.Goals as goal

pub change-requires-clause-meant : goal.change-requires-clause-meant
change-requires-clause-meant c =
    let s = c.args.held.now.session in
    row-meant s.limits s.database c.args.resolution.now c.args.values.now c.finish.new.kept c.requires.meaning c.as_slice.ensures.width
    (rw c.as_slice.ensures.values at c.in_ok-finish.ensures.done)

pub returns-in-Ok-clause-meaning : goal.returns-in-Ok-clause-meaning
returns-in-Ok-clause-meaning c =
    let s = c.args.held.now.session in
    let new = c.change.new.self.session in
    let r = c.args.resolution.now in
    let row = c.args.values.now in
    let means : finished row r ≡ Ok c.finish.new.kept = rw c.as_slice.ensures.values at c.in_ok-finish.ensures.done in
    let changed : effect_with s.limits r s.database row ≡ record { database = new.database; outcome = Changed c.in-Ok.count } =
    ap (effect_of_resolved s.limits s.database) means ∙ c.in-Ok.ensures.done in
    meaning-stays s.database new.database r
    (ap (λ (e : Effect). map emptied e.database) (sym changed) ∙ row-schemas s.limits r s.database row c.requires.change) c.requires.meaning
