use Rattle.std.proofs.Common.{rules, ◌≡◌, ◌∙◌, ◌<◌, ◌∷◌, ◌++◌, sym, ap, subst, length, take, List, [], ◌+◌, not}
use Rattle.std.specs.Prelude.{Err, ◌||◌}
use Rattle.std.proofs.lemmas.List.{take_more}
use Rattle.plain_tables.specs.declared.command.Join.{Join}
use Rattle.mm_resolver.specs.Select.{AreJoined}
use Rattle.mm_resolver.proofs.Scopes.{joined_more, table_lacks}
use Rattle.mm_resolver.proofs.Select.{table_missed}
use Rattle.mm_resolver.proofs.selected.scope_of.Goals as goal

pub loop-number-preserved : goal.loop-number-preserved
loop-number-preserved g c =
    let tables = g.S.Schemas.database c.args.schemas.now in
    let joins = c.args.joins.now in
    let i = c.loop-number.number in
    let within : i < length joins = search rules in
    let more : take (i + 1) joins ≡ take i joins ++ c.index-joins-number.result ∷ [] =
    take_more joins i c.index-joins-number.result within ∙ ap (λ (j : Join). take i joins ++ j ∷ []) (sym c.index-joins-number.is) in
    subst (λ (js : List Join). AreJoined tables c.args.table.now js (c.loop-number.missed || not c.in_ok-named.named) c.join.new.self) (sym more)
    (joined_more tables c.args.table.now (take i joins) c.index-joins-number.result c.loop-number.missed c.loop-number.scope c.in_ok-own.own c.loop-number.invariant c.in_ok-own.ensures.found
    c.join.new.self c.in_ok-named.named c.in_ok-named.ensures.tables c.in_ok-named.ensures.named c.in_ok-named.ensures.sides)

pub returns-in_err-own-clause-refused : goal.returns-in_err-own-clause-refused
returns-in_err-own-clause-refused g c =
    let tables = g.S.Schemas.database c.args.schemas.now in
    let joins = c.args.joins.now in
    let within : c.loop-number.number < length joins = search rules in
    let is : c.from_residual-in_err-own.result ≡ Err c.in_err-own.field-0.0 = search rules in
    let lacks = table_lacks tables c.args.table.now joins c.loop-number.number c.index-joins-number.result within c.index-joins-number.is c.in_err-own.ensures.missed in
    rw is (λ other distinct its conditions.
    table_missed tables distinct its c.args.table.now joins conditions lacks ∙ ap (λ e. Err e) (sym c.in_err-own.ensures.refused))
