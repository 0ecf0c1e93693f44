use Rattle.std.proofs.Common.{◌∙◌, IsSome, sym}
use Rattle.std.specs.FinMap as finite
use Rattle.mm_session.proofs.RowPieces.{key_unlinked}
use Rattle.mm_session.proofs.execute.saved_rows.tests_behind.Goals as goal

pub above_key-requires : goal.above_key-requires
above_key-requires c =
    let held : IsSome (finite.get c.args.relation.now.rows c.in-Some.r) = sym c.holds.ensures ∙ c.if-not-holds.false in
    key_unlinked c.args.catalog.now c.a_catalog_is_consistent.ensures c.requires.0 c.args.relation.now c.requires.1 c.in-Some.r c.key.result.now held c.key.ensures
