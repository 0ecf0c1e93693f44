use Rattle.std.proofs.Common.{◌∙◌, ap, map, arith}
use Rattle.std.specs.Prelude.{zip}
use Rattle.std.proofs.lemmas.Iterator.{YieldsList-from_zip}
use Rattle.std.proofs.lemmas.Iterator.Adapters.{YieldsList-from_vec}
use Rattle.std.proofs.lemmas.Iterator.Consumers.{YieldsList-at, YieldsList-end}
use Rattle.mm_resolver.specs.Slots.{slot_joined_by}
use Rattle.mm_resolver.proofs.Sources.{map-map, zip-first}
use Rattle.mm_resolver.proofs.scope.Scope.joins.Goals as goal

pub returns : goal.returns
returns g c =
    let sources = c.into_vec-sources.result in
    let sides = c.args.self.sides in
    let source = g.C.AsCondition.as_source in
    let second = c.zip-source-items.ensures.second in
    let pairs = YieldsList-at c.into_iter-source-iterator.ensures.into_iter_gives
    (YieldsList-from_zip
    (YieldsList-at c.zip-source-items.ensures.first (YieldsList-from_vec sources.items c.into_iter.ensures.rest (omega (arith, c.into_iter.ensures.len, sources.ok.0))))
    (YieldsList-from_vec sides.items second.0 (omega (arith, second.1, sides.ok.0)))) in
    let all = YieldsList-end pairs c.loop-source.yielded c.loop-source.source-iterator c.loop-source.yielded_by c.next.result c.next.new.self c.in-None.is c.next.ensures.steps in
    ap (map g.C.AsCondition.as_joined) c.from_vec.ensures
    ∙ c.loop-source.invariant
    ∙ map-map (λ s. slot_joined_by (source s.0) s.1) (λ s. (s.0, s.1)) c.loop-source.yielded
    ∙ ap (map (λ s. slot_joined_by (source s.0) s.1)) (all.0 ∙ ap (λ ss. zip ss sides.items) c.into_vec-sources.ensures)
    ∙ zip-first source slot_joined_by c.args.sources sides.items
