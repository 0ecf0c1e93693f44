use Rattle.std.proofs.Common.{rules, tests, ◌≡◌, ◌∙◌, sym, ap, position, Bool, None, zero-add, refl}
use Rattle.std.specs.Option.{option_map, option_to_list}
use Rattle.std.proofs.lemmas.Iterator.{YieldsList-from_slice}
use Rattle.std.proofs.lemmas.Iterator.Search.{position_from_yields_List}
use Rattle.std.proofs.lemmas.List.Quantifiers.{position-Some}
use Rattle.plain_tables.specs.Queries.{fits}
use Rattle.plain_tables.specs.declared.schema.Column.{Column}
use Rattle.mm_resolver.specs.Naming.{in_table, written, as_found}
use Rattle.mm_resolver.proofs.Columns.{fitted_none, fitted_one, position_none}
use Rattle.mm_resolver.proofs.named_table.NamedTable.column.Goals as goal

pub returns-in_err-number-clause-found : goal.returns-in_err-number-clause-found
returns-in_err-number-clause-found c =
    let named_table = c.args.self.now in
    let q : Column → Bool = λ d. fits (written c.args.name) (in_table named_table.name.now d) in
    let place : c.position.result ≡ position q named_table.columns.now =
    position_from_yields_List q _ _ c.position.result c.position.ensures.ran (YieldsList-from_slice named_table.columns.now cc) (λ x b k m. search (rules, tests)) in
    let none : c.from_residual.result ≡ None = search rules in
    fitted_none c.args.source named_table.name.now (written c.args.name) 0 named_table.columns.now (position_none q named_table.columns.now (sym place ∙ c.in_err-number.was))
    ∙ sym (ap (λ o. option_to_list (option_map as_found o)) none)

pub returns-clause-found : goal.returns-clause-found
returns-clause-found c =
    let named_table = c.args.self.now in
    let q : Column → Bool = λ d. fits (written c.args.name) (in_table named_table.name.now d) in
    let place : c.position.result ≡ position q named_table.columns.now =
    position_from_yields_List q _ _ c.position.result c.position.ensures.ran (YieldsList-from_slice named_table.columns.now cc) (λ x b k m. search (rules, tests)) in
    let number = c.in_ok-number.number in
    let at = position-Some q named_table.columns.now number c.index-self-number.result (sym place ∙ c.in_ok-number.was) in
    fitted_one c.args.source named_table.name.now (written c.args.name) 0 number named_table.columns.now c.index-self-number.result named_table.apart at.0 at.1
    ∙ rw (zero-add number) refl
