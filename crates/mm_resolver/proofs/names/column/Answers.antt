use Rattle.std.proofs.Common.{rules, ◌≡◌, ◌<◌, ◌∙◌, sym, ap, true, is_some, length, Some, None, List, refl, Option, get_or}
use Rattle.std.specs.Option.{option_map, option_to_list}
use Rattle.std.proofs.lemmas.List.{take_all}
use Rattle.mm_resolver.specs.declared.named_table.NamedTable.{NamedTable}
use Rattle.mm_resolver.specs.declared.names.NamedColumn.{NamedColumn}
use Rattle.mm_resolver.specs.Naming.{columns_of_all, written, as_found}
use Rattle.mm_resolver.proofs.Columns.{fitted, meant_one, found_more, found_twice, none_before, as_before}
use Rattle.mm_resolver.proofs.names.column.Goals as goal
use Rattle.mm_resolver.proofs.names.column.Goals.{in-Some+else-is_some, in_default}

pub returns-then-is_some-clause-meant : goal.returns-then-is_some-clause-meant
returns-then-is_some-clause-meant c =
    let name = written c.args.name in
    let named_tables = c.args.tables.now in
    let i = c.loop-source.source in
    let within : i < length named_tables = search rules in
    let at : c.index-tables-source.result ≡ get_or named_tables i c.index-tables-source.result =
    c.index-tables-source.is in
    let before = c.loop-source.found in
    let there : is_some before ≡ true = search rules in
    sym (found_twice name named_tables i before (Some c.in-Some.named)
    (found_more name named_tables i c.index-tables-source.result at within before (Some c.in-Some.named) c.loop-source.invariant.fitted c.in-Some.ensures.found) there refl)

pub loop-source-preserved : goal.loop-source-preserved
loop-source-preserved c =
    let name = written c.args.name in
    let named_tables = c.args.tables.now in
    let i = c.loop-source.source in
    let within : i < length named_tables = search rules in
    let at : c.index-tables-source.result ≡ get_or named_tables i c.index-tables-source.result =
    c.index-tables-source.is in
    let before = c.loop-source.found in
    elim c.match-column.branch [
      | in-Some+else-is_some w ↦
          let own : Option NamedColumn = Some w.in-Some.named in
          let more = found_more name named_tables i c.index-tables-source.result at within before own c.loop-source.invariant.fitted w.in-Some.ensures.found in
          record {
            fitted = more ∙ none_before before own (search rules) ∙ ap (λ o. option_to_list (option_map as_found o)) (sym w.found-is);
            within = search rules;
          }
      | in_default w ↦
          let none : c.column.result ≡ None = search rules in
          let more = found_more name named_tables i c.index-tables-source.result at within before c.column.result c.loop-source.invariant.fitted c.column.ensures.found in
          record {
            fitted = more ∙ as_before before c.column.result none ∙ ap (λ o. option_to_list (option_map as_found o)) (sym w.found-is);
            within = search rules;
          }
    ]

pub returns-clause-meant : goal.returns-clause-meant
returns-clause-meant c =
    let name = written c.args.name in
    let named_tables = c.args.tables.now in
    let all = take_all c.loop-source.source named_tables (search rules) in
    meant_one (columns_of_all named_tables) name c.loop-source.found (ap (λ (ss : List NamedTable). fitted name (columns_of_all ss)) (sym all) ∙ c.loop-source.invariant.fitted)
