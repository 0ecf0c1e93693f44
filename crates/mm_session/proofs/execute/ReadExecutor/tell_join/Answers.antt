use Rattle.std.proofs.Common.{map}
use Rattle.plain_tables.specs.declared.numbers.TableNumber.{TableNumber}
use Rattle.mm_session.proofs.Queries.{outer_fits}
use Rattle.mm_session.proofs.execute.ReadExecutor.tell_join.Goals as goal

pub next_join-requires : goal.next_join-requires
next_join-requires c =
    outer_fits c.args.catalog.now c.a_catalog_is_consistent.ensures (map (λ (t : TableNumber). t.0) c.args.sources.now) c.args.join.now c.requires.sources c.requires.place c.outer_side-outer.result c.outer_side-outer.ensures

pub returns : goal.returns
returns c = record {
  outer = c.outer_side-outer.result;
  inner = c.side-inner.result;
  outer_side = c.outer_side-outer.ensures;
  inner_side = c.side-inner.ensures;
  chosen = c.next_join.ensures;
}
