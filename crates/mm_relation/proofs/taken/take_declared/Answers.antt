use Rattle.std.proofs.Common.{◌≡◌, ◌∙◌, Some, ap, position, sym}
use Rattle.std.proofs.lemmas.Bool.{false≢true}
use Rattle.std.proofs.lemmas.List.Quantifiers.{position-Some}
use Rattle.mm_relation.specs.Declaring.{is_index}
use Rattle.mm_relation.proofs.Dropping.{removed_first}
use Rattle.mm_relation.proofs.Firsts.{first_found, none_found}
use Rattle.mm_relation.proofs.PutBack.{is_declaration}
use Rattle.mm_relation.proofs.taken.take_declared.Goals as goal

pub unreachable-requires : goal.unreachable-requires
unreachable-requires c =
    let none = ap (position (is_index c.args.index)) (sym c.as_slice.ensures.value) ∙ sym c.first_declared.ensures ∙ c.in_default.is in
    false≢true (sym (none_found (is_index c.args.index) c.args.declared.now.items none) ∙ c.requires)

pub returns-clause-first : goal.returns-clause-first
returns-clause-first c =
    let found : position (is_index c.args.index) c.args.declared.now.items ≡ Some c.in-Some.place = ap (position (is_index c.args.index)) (sym c.as_slice.ensures.value) ∙ sym c.first_declared.ensures ∙ c.in-Some.is in
    first_found (is_index c.args.index) c.args.declared.now.items c.in-Some.place c.args.index found
    (is_declaration c.args.index _ (position-Some (is_index c.args.index) c.args.declared.now.items c.in-Some.place c.args.index found).1)

pub returns-clause-rest : goal.returns-clause-rest
returns-clause-rest c =
    let found : position (is_index c.args.index) c.args.declared.now.items ≡ Some c.in-Some.place = ap (position (is_index c.args.index)) (sym c.as_slice.ensures.value) ∙ sym c.first_declared.ensures ∙ c.in-Some.is in
    c.remove.ensures.items ∙ removed_first (is_index c.args.index) c.args.declared.now.items c.in-Some.place found
