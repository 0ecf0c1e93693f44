use Rattle.std.proofs.Common.{◌∙◌, arith}
use Rattle.mm_catalog.specs.Outline.{outline_of}
use Rattle.mm_catalog.specs.State.{CatalogState}
use Rattle.mm_catalog.proofs.Tables.{database-length}
use Rattle.mm_catalog.proofs.Reordered.{free_now, gone_now, held_now, once_now, without_now}
use Rattle.mm_catalog.proofs.catalog.Catalog.take_many_back.Goals as goal

pub at-requires : goal.at-requires
at-requires c = omega (arith, c.requires.there, database-length c.args.self.now c.a_catalog_is_consistent.ensures.named)

pub put_in_removal_order-requires-clause-held : goal.put_in_removal_order-requires-clause-held
put_in_removal_order-requires-clause-held c = c.requires.held c.at.result.now c.at.ensures

pub take_back-requires-clause-held : goal.take_back-requires-clause-held
take_back-requires-clause-held c = held_now c.put_in_removal_order.new.rows c.args.rows.now c.put_in_removal_order.ensures c.args.self.now c.args.table.0 c.requires.held

pub take_back-requires-clause-once : goal.take_back-requires-clause-once
take_back-requires-clause-once c = once_now c.put_in_removal_order.new.rows c.args.rows.now c.put_in_removal_order.ensures c.requires.once

pub take_back-requires-clause-free : goal.take_back-requires-clause-free
take_back-requires-clause-free c = free_now c.put_in_removal_order.new.rows c.args.rows.now c.put_in_removal_order.ensures c.args.self.now c.args.table.0 c.requires.free

pub returns : goal.returns
returns c =
    let now = c.put_in_removal_order.new.rows in
    let old : CatalogState = c.args.self.now in
    record {
      gone = gone_now now c.args.rows.now c.put_in_removal_order.ensures old c.take_back.new.self c.args.table.0 c.take_back.ensures.gone;
      outline = c.take_back.ensures.outline ∙ without_now now c.args.rows.now c.put_in_removal_order.ensures c.args.table.0 (outline_of old);
    }
