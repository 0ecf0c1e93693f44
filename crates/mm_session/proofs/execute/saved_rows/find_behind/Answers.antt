use Rattle.std.proofs.Common.{◌≡◌, ◌∙◌, List, ap, subst, sym, take, arith}
use Rattle.std.proofs.lemmas.Option.{same_Some}
use Rattle.plain_tables.specs.declared.resolved.Test.{Test}
use Rattle.mm_relation.specs.State.{RelationState}
use Rattle.mm_catalog.proofs.Among.{some_columns}
use Rattle.mm_catalog.proofs.Tables.{database-length}
use Rattle.temp_list.specs.Reading.{HasColumns, passing}
use Rattle.mm_session.specs.SavedRows.{tests_behind}
use Rattle.mm_session.proofs.RowPieces.{place_held, tests_columns}
use Rattle.mm_session.proofs.Saves.{tests_pass}
use Rattle.mm_session.proofs.execute.saved_rows.find_behind.Goals as goal

pub at-requires : goal.at-requires
at-requires c = omega (arith, c.requires, database-length c.args.catalog.now c.a_catalog_is_consistent.ensures.named)

pub find_first_rows-requires-clause-there : goal.find_first_rows-requires-clause-there
find_first_rows-requires-clause-there c = omega (arith, c.requires, database-length c.args.catalog.now c.a_catalog_is_consistent.ensures.named)

pub find_first_rows-requires-clause-columns : goal.find_first_rows-requires-clause-columns
find_first_rows-requires-clause-columns c = λ s there.
    let catalog = c.args.catalog.now in
    let tests : c.as_slice.result.now ≡ tests_behind catalog s c.args.after =
    c.as_slice.ensures.value ∙ c.in_ok-tests.ensures.made ∙ ap (λ (g : RelationState). tests_behind catalog g c.args.after) (same_Some c.at.result.now s (sym c.at.ensures ∙ there)) in
    subst (λ (ts : List Test). HasColumns s ts) (sym tests) (tests_columns catalog c.a_catalog_is_consistent.ensures c.args.table.0 s there c.args.after)

pub find_first_rows-requires-clause-key : goal.find_first_rows-requires-clause-key
find_first_rows-requires-clause-key c = λ s there. some_columns c.args.catalog.now c.a_catalog_is_consistent.ensures c.args.table.0 s there

pub returns-clause-found : goal.returns-clause-found
returns-clause-found c = λ s there.
    let catalog = c.args.catalog.now in
    let tests : c.as_slice.result.now ≡ tests_behind catalog s c.args.after =
    c.as_slice.ensures.value ∙ c.in_ok-tests.ensures.made ∙ ap (λ (g : RelationState). tests_behind catalog g c.args.after) (same_Some c.at.result.now s (sym c.at.ensures ∙ there)) in
    c.in_ok-find_first_rows.ensures s there ∙ ap (λ (ts : List Test). take 16384 (passing catalog.relations s ts)) tests ∙ ap (take 16384) (tests_pass catalog s c.args.after)

pub returns-clause-there : goal.returns-clause-there
returns-clause-there c = place_held c.args.catalog.now c.args.table c.at.result.now c.at.ensures c.args.after c.requires c.in_ok-tests.ensures.held
