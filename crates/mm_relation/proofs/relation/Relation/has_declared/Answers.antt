use Rattle.std.proofs.Common.{◌∙◌, ap}
use Rattle.std.specs.List.{list_any}
use Rattle.mm_relation.specs.declared.index.IndexOn.{IndexOn}
use Rattle.mm_relation.specs.Declaring.{declaration, is_index}
use Rattle.mm_relation.specs.Indexes.{declaration_of}
use Rattle.mm_relation.proofs.Declared.{any_declared}
use Rattle.mm_relation.proofs.relation.Relation.has_declared.Goals as goal

pub returns : goal.returns
returns c =
    rw (← c.self.view_is)
    (c.is_declared.ensures ∙ ap (list_any (λ (on : IndexOn). is_index (declaration c.args.column c.args.kind) (declaration_of on))) c.as_slice.ensures
    ∙ any_declared c.self.inside.rows.aside c.self.inside.schema c.self.inside.targets.items c.self.inside.declared.items c.self.inside.rows.tuples c.self.inside.by_key.tree c.self.inside.indexes c.args.column c.args.kind)
