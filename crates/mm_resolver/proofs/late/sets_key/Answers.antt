use Rattle.std.proofs.Common.{rules, tests, ◌≡◌, ◌∙◌, sym}
use Rattle.std.specs.Prelude.{◌==◌}
use Rattle.std.specs.List.{list_any}
use Rattle.std.proofs.lemmas.Iterator.{YieldsList-from_slice}
use Rattle.std.proofs.lemmas.Iterator.Search.{any_from_yields_List}
use Rattle.common_lemmas.proofs.Tests.{list_any-map}
use Rattle.plain_statements.specs.declared.resolution.SlotAssignment.{SlotAssignment}
use Rattle.mm_resolver.proofs.late.sets_key.Goals as goal

pub returns : goal.returns
returns g c =
    let seen = g.A.AsSetting.as_assignment in
    let found : c.any.result ≡ list_any (λ a. (seen a).column.0 == 0) c.args.assignments.now =
    any_from_yields_List (λ a. (seen a).column.0 == 0) _ _ c.any.result c.any.ensures.ran (YieldsList-from_slice c.args.assignments.now cc) (λ x b q k. search (rules, tests)) in
    found ∙ sym (list_any-map (λ (a : SlotAssignment). a.column.0 == 0) seen c.args.assignments.now)
