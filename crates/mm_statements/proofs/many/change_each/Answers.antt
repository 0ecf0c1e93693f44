use Rattle.std.proofs.Common.{◌≡◌, ◌∙◌, ◌+◌, ℕ, ap, drop, length, refl, sym, subst, Some}
use Rattle.std.specs.List.{slice_get}
use Rattle.std.proofs.lemmas.Option.{slice_get_read}
use Rattle.std.proofs.lemmas.Result.{err_from_is_err_and}
use Rattle.plain_tables.specs.Databases.{Database}
use Rattle.plain_tables.specs.Effects.{Effect}
use Rattle.mm_prepared.specs.Many.{each_in_turn, effect_with, effect_with_each}
use Rattle.mm_prepared.proofs.ManyRows.{from-place}
use Rattle.mm_statements.specs.Many.{EndsBy, outcome_in_record}
use Rattle.mm_statements.proofs.ManyRows.{ends-in-turn}
use Rattle.mm_statements.proofs.many.change_each.Goals as goal

pub returns-in_err-count-clause-refused : goal.returns-in_err-count-clause-refused
returns-in_err-count-clause-refused c =
    let e = err_from_is_err_and c.from_residual.result c.from_residual.ensures.1 in
    let limits = c.args.held.now.session.limits in
    let r = c.args.resolution.now in
    let rows = c.args.rows.now in
    let place = c.loop-place.place in
    let tables = c.loop-place.held.session.database in
    let row = c.index-rows-place.result in
    let at : slice_get rows place ≡ Some row = slice_get_read rows (length rows) place row refl c.loop-place-test.true c.index-rows-place.is in
    let next : ℕ → Database → Effect = each_in_turn (effect_with limits r) (drop (place + 1) rows) (place + 1 + 1) in
    let all : effect_with_each limits r rows c.args.held.now.session.database ≡ each_in_turn (effect_with limits r) (drop place rows) (place + 1) c.loop-place.changed tables =
    c.loop-place.invariant.rest in
    let ends : EndsBy (outcome_in_record (place + 1) (effect_with limits r tables row).outcome) c.in_err-count.field-0.0 =
    subst (λ l. EndsBy (outcome_in_record (place + 1) (effect_with l r tables row).outcome) c.in_err-count.field-0.0) c.loop-place.invariant.stream.limits c.in_err-count.ensures.refused in
    rw (e.1, e.2)
    (subst (λ (it : Effect). EndsBy it.outcome c.in_err-count.field-0.0)
    (sym (all ∙ ap (λ rest. each_in_turn (effect_with limits r) rest (place + 1) c.loop-place.changed tables) (from-place rows place row at)))
    (ends-in-turn (place + 1) c.loop-place.changed next (effect_with limits r tables row).database (effect_with limits r tables row).outcome c.in_err-count.field-0.0 ends))
