use Rattle.std.proofs.Common.{◌≡◌, ◌∙◌, Some, get_or, length, map, refl, set, sym, ap}
use Rattle.std.specs.List.{slice_get}
use Rattle.std.specs.Option.{option_map}
use Rattle.std.proofs.lemmas.List.{map-set}
use Rattle.std.proofs.lemmas.Option.{same_Some, slice_get-map, slice_get_read}
use Rattle.std.proofs.lemmas.Result.{on_ok_weaker}
use Rattle.plain_statements.specs.declared.resolution.SlotSource.{SlotSource}
use Rattle.mm_resolver.specs.Slots.{with_slot_test}
use Rattle.mm_resolver.proofs.selected.add_test.Goals as goal

pub returns : goal.returns
returns g c =
    let seen = g.C.AsCondition.as_source in
    let sources = c.args.sources.now in
    let old = get_or sources c.args.source c.index-sources-source.result in
    let test = g.C.AsCondition.as_test c.args.test in
    let there : slice_get sources c.args.source ≡ Some old = slice_get_read sources (length sources) c.args.source c.index-sources-source.result refl c.requires c.index-sources-source.is ∙ ap Some c.index-sources-source.is in
    let at : slice_get (map seen sources) c.args.source ≡ Some (seen old) = slice_get-map seen sources c.args.source ∙ ap (option_map seen) there in
    on_ok_weaker c.add_test.result (λ added before is.
    map-set seen sources c.args.source c.add_test.new.source
    ∙ ap (set (map seen sources) c.args.source) (added ∙ ap (λ (s : SlotSource). with_slot_test s test) (same_Some (seen old) before (sym at ∙ is)))) c.add_test.ensures
