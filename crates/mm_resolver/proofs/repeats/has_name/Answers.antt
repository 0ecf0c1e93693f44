use Rattle.std.proofs.Common.{rules, tests, ◌≡◌, ◌∙◌, sym}
use Rattle.std.specs.List.{list_any}
use Rattle.std.specs.Str.{bytes_eq}
use Rattle.std.proofs.lemmas.Iterator.{YieldsList-from_slice}
use Rattle.std.proofs.lemmas.Iterator.Search.{any_from_yields_List}
use Rattle.common_lemmas.proofs.Tests.{list_any-map}
use Rattle.mm_resolver.proofs.repeats.has_name.Goals as goal

pub returns : goal.returns
returns g c =
    let found : c.any.result ≡ list_any (λ x. bytes_eq c.args.name.now (g.N.HasName.named x)) c.args.items.now =
    any_from_yields_List (λ x. bytes_eq c.args.name.now (g.N.HasName.named x)) _ _ c.any.result c.any.ensures.ran (YieldsList-from_slice c.args.items.now cc) (λ x b q k. search (rules, tests)) in
    found ∙ sym (list_any-map (bytes_eq c.args.name.now) g.N.HasName.named c.args.items.now)
