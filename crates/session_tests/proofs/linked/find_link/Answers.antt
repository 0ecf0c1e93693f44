use Rattle.std.proofs.Common.{◌≡◌, ◌∙◌, ◌<◌, ap, sym, subst, refl, arith, Option, Some}
use Rattle.std.specs.Option.{option_map}
use Rattle.plain_tables.specs.declared.numbers.ColumnNumber.{ColumnNumber}
use Rattle.plain_tables.specs.declared.numbers.TableNumber.{TableNumber}
use Rattle.mm_catalog.proofs.Among.{among_at}
use Rattle.session_tests.proofs.Links.{joinable}
use Rattle.session_tests.proofs.linked.find_link.Goals as goal

pub target-target-requires : goal.target-target-requires
target-target-requires g c =
    let there = c.side-reference.ensures.there in
    let among = among_at c.args.catalog.now c.a_catalog_is_consistent.ensures c.side-reference.result.table.0 c.side-reference.result.relation.now there.lent in
    omega (arith, among.kept.width, there.column)

pub returns : goal.returns
returns g c =
    joinable c.args.catalog.now c.a_catalog_is_consistent.ensures c.side-key.result c.side-reference.result c.side-key.ensures.there c.side-reference.ensures.there
    (ap (λ (n : ColumnNumber). n.0) c.side-key.ensures.column) (subst (λ (n : ColumnNumber). 0 < n.0) (sym c.side-reference.ensures.column) (omega arith)) c.has_tree.ensures
    (c.target-target.ensures ∙ ap (λ (o : Option TableNumber). Some (option_map (λ (t : TableNumber). t.0) o)) c.expect.ensures ∙ ap (λ (t : TableNumber). Some (Some t.0)) (sym c.side-key.ensures.table))
