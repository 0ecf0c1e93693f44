use Rattle.std.proofs.Common.{◌≡◌, ◌∙◌, ◌++◌, List, [], ◌∷◌, sym, ap, subst}
use Rattle.mm_relation.specs.declared.numbers.DeclaredIndex.{DeclaredIndex}
use Rattle.mm_relation.specs.Declaring.{declaration, IsDeclared}
use Rattle.mm_relation.specs.Seen.{state}
use Rattle.mm_relation.specs.State.{linked_keys}
use Rattle.mm_relation.proofs.Keeping.{served}
use Rattle.mm_relation.proofs.Declared.{declared_added, current_with}
use Rattle.mm_relation.proofs.relation.Relation.add_index.Goals as goal

pub add_index-requires-clause-serve : goal.add_index-requires-clause-serve
add_index-requires-clause-serve g c =
    rw c.as_slice.ensures.value
    (served c.self.inside.rows.aside c.self.inside.schema c.self.inside.targets.items c.self.inside.declared.items c.self.inside.rows.tuples c.self.inside.by_key.tree c.self.inside.indexes c.self.invariant.0
    (linked_keys c.self.inside.targets.items (g.R.Relations.tables c.args.others.now)) (rw (← c.self.view_is) at c.requires.current))

pub returns-clause-declared : goal.returns-clause-declared
returns-clause-declared g c =
    let index = declaration c.args.column c.args.kind in
    let old = state c.self.inside.rows.aside c.self.inside.schema c.self.inside.targets.items c.self.inside.declared.items c.self.inside.rows.tuples c.self.inside.by_key.tree c.self.inside.indexes in
    let pushed : c.push_reserved.new.self.items ≡ c.self.inside.declared.items ++ index ∷ [] = c.push_reserved.ensures.items ∙ ap (λ (ds : List DeclaredIndex). ds ++ index ∷ []) c.reserve.ensures.items in
    rw (← c.self.view_is)
    (subst (λ ds. IsDeclared old (state c.self.inside.rows.aside c.self.inside.schema c.self.inside.targets.items ds c.self.inside.rows.tuples c.self.inside.by_key.tree c.add_index.new.indexes) index) (sym pushed)
    (declared_added c.self.inside.rows.aside c.self.inside.schema c.self.inside.targets.items c.self.inside.declared.items c.self.inside.rows.tuples c.self.inside.by_key.tree c.self.inside.indexes c.self.invariant.0
    c.args.kind c.args.column c.add_index.new.indexes c.in_ok-add_index.ensures.added))

pub returns-clause-current : goal.returns-clause-current
returns-clause-current g c =
    rw (← c.self.view_is)
    (current_with c.self.inside.rows.aside c.self.inside.schema c.self.inside.targets.items c.self.inside.declared.items c.self.inside.rows.tuples c.self.inside.by_key.tree c.self.inside.indexes c.self.invariant.0
    (linked_keys c.self.inside.targets.items (g.R.Relations.tables c.args.others.now)) c.push_reserved.new.self.items c.add_index.new.indexes (rw (← c.self.view_is) at c.requires.current) (rw c.as_slice.ensures.value at c.add_index.ensures.serve))
