use Rattle.std.proofs.Common.{◌∙◌, position, sym, ap}
use Rattle.mm_relation.specs.declared.index.IndexOn.{IndexOn}
use Rattle.mm_relation.specs.Declaring.{is_index}
use Rattle.mm_relation.specs.Indexes.{declaration_of}
use Rattle.mm_relation.proofs.Dropping.{nothing_first}
use Rattle.mm_relation.proofs.building.drop_index.Goals as goal

pub returns-in_default : goal.returns-in_default
returns-in_default c =
    sym (nothing_first (λ (on : IndexOn). is_index c.args.index (declaration_of on)) c.args.indexes.now
    (ap (position (λ (on : IndexOn). is_index c.args.index (declaration_of on))) (sym c.as_slice.ensures) ∙ sym c.first_index.ensures ∙ c.in_default.is))
