use Rattle.std.proofs.Common.{ap, false, [], List, ◌∙◌}
use Rattle.part_raw.proofs.Mapped.{mapped-empty}
use Rattle.mm_relation.specs.declared.row.Cell.{Cell}
use Rattle.mm_relation.specs.Rows.{row_store, rows_in, row_of}
use Rattle.mm_relation.proofs.Parted.{retained-empty, in_set, not_in}
use Rattle.mm_relation.proofs.Hiding.{parted_none}
use Rattle.mm_relation.proofs.rows.Rows.new.Goals as goal

pub invariant_of-result : goal.invariant_of-result
invariant_of-result c = rw (c.new.ensures, c.new-2.ensures) (parted_none c.args.width)

pub returns : goal.returns
returns c = rw (c.new.ensures, c.new-2.ensures)
    (λ i. row_store c.args.width ((ap rows_in (retained-empty {X = List Cell} (not_in [])) ∙ mapped-empty (λ r. row_of)) i)
    (record { numbers = retained-empty (not_in []) i; counted = false; hidden = (ap rows_in (retained-empty {X = List Cell} (in_set [])) ∙ mapped-empty (λ r. row_of)) i; owed = 0 }) 0)
