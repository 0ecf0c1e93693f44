use Rattle.std.proofs.Common.{◌≡◌, ap, ◌∙◌, arith, length}
use Rattle.plain_tables.specs.Queries.{places_meant}
use Rattle.mm_resolver.specs.Naming.{columns_of_all}
use Rattle.mm_resolver.proofs.Named.{places_fewer, places_all}
use Rattle.mm_resolver.proofs.scope.Scope.shown.Goals as goal
use Rattle.mm_resolver.proofs.scope.Scope.shown.Goals.{In_ok-places}
use Rattle.mm_resolver.proofs.scope.Scope.shown.Given.{Over}

many : (g : Over) (c : In_ok-places g) → length c.in_ok-places.places.items ≡ length (places_meant (columns_of_all c.args.self.now.tables.items) c.in-Named.names)
many g c = ap length (c.in_ok-places.ensures ∙ ap (places_meant (columns_of_all c.args.self.now.tables.items)) c.as_slice-names.ensures)

pub returns-then-len-names-clause-missed : goal.returns-then-len-names-clause-missed
returns-then-len-names-clause-missed g c =
    let made = many g (goal.at.returns-then-len-names-clause-missed g c).In_ok-places in
    λ _. rw c.in-Named.is (places_fewer (columns_of_all c.args.self.now.tables.items) c.in-Named.names (omega (arith, c.in_ok-places.places.ok.0, ap length c.as_slice-names.ensures)))

pub returns-clause-named : goal.returns-clause-named
returns-clause-named g c =
    let made = many g (goal.at.returns-clause-named g c).In_ok-places in
    rw c.in-Named.is (places_all (columns_of_all c.args.self.now.tables.items) c.in-Named.names (omega (arith, c.in_ok-places.places.ok.0, ap length c.as_slice-names.ensures)))
