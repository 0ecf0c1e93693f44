use Rattle.std.proofs.Common.{arith}
use Rattle.plain_tables.specs.declared.numbers.Place.{Place}
use Rattle.mm_session.proofs.execute.ReadExecutor.names_at.Goals as goal

pub full_name-requires-clause-place : goal.full_name-requires-clause-place
full_name-requires-clause-place c =
    let none : Place = record { source = 0; column = record { 0 = 0 } } in
    c.requires.places c.loop-place.place-index none (omega (arith, c.loop-place-test.true))
