use Rattle.std.proofs.Common.{ap, set, Some, ◌+◌, ◌*◌, ◌∙◌}
use Rattle.common_lemmas.proofs.Options.{is_some-Some}
use Rattle.part_raw.proofs.Rows.{slot_within, value_at_place}
use Rattle.part_raw.proofs.RowSteps.{rows-exchanged}
use Rattle.part_raw.proofs.partition.exchange.Goals as goal

pub read-old-requires : goal.read-old-requires
read-old-requires g c = c.requires.laid.whole c.args.slot c.args.column (slot_within c.args.width c.args.slot c.args.block.now c.requires.held) c.requires.column ∙ c.requires.held

pub returns-clause-laid : goal.returns-clause-laid
returns-clause-laid g c =
    let found = is_some-Some _ c.requires.held in
    let wrote = c.write.ensures ∙ ap (λ b. set b (c.args.slot * c.args.width + c.args.column) (Some c.args.value)) c.read-old.ensures.places in
    rw wrote (rows-exchanged c.args.width c.args.block.now c.args.slot c.args.column found.0 c.args.value c.requires.column c.requires.laid found.1).0

pub returns-clause-value : goal.returns-clause-value
returns-clause-value g c = λ cells held. value_at_place c.args.width c.args.slot c.args.column c.args.block.now cells c.read-old.result c.requires.column c.requires.laid held c.read-old.ensures.value

pub returns-clause-slots : goal.returns-clause-slots
returns-clause-slots g c = λ cells held.
    let wrote = c.write.ensures ∙ ap (λ b. set b (c.args.slot * c.args.width + c.args.column) (Some c.args.value)) c.read-old.ensures.places in
    rw wrote (rows-exchanged c.args.width c.args.block.now c.args.slot c.args.column cells c.args.value c.requires.column c.requires.laid held).1
