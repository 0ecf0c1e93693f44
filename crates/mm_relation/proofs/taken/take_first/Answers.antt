use Rattle.std.proofs.Common.{Bool, ◌≡◌, ◌∙◌, Some, ap, position, sym}
use Rattle.std.proofs.lemmas.Bool.{false≢true}
use Rattle.mm_relation.specs.declared.index.IndexOn.{IndexOn}
use Rattle.mm_relation.specs.declared.numbers.DeclaredIndex.{DeclaredIndex}
use Rattle.mm_relation.specs.Declaring.{is_index}
use Rattle.mm_relation.specs.Indexes.{declaration_of}
use Rattle.mm_relation.proofs.Dropping.{removed_first}
use Rattle.mm_relation.proofs.Firsts.{first_found, none_found}
use Rattle.mm_relation.proofs.taken.take_first.Goals as goal

abbrev is_one : DeclaredIndex → IndexOn → Bool
is_one index on = is_index index (declaration_of on)

pub unreachable-requires : goal.unreachable-requires
unreachable-requires c =
    let none = ap (position (is_one c.args.index)) (sym c.as_slice.ensures) ∙ sym c.first_index.ensures ∙ c.in_default.is in
    false≢true (sym (none_found (is_one c.args.index) c.args.indexes.now none) ∙ c.requires)

pub returns-clause-first : goal.returns-clause-first
returns-clause-first c =
    let found : position (is_one c.args.index) c.args.indexes.now ≡ Some c.in-Some.place = ap (position (is_one c.args.index)) (sym c.as_slice.ensures) ∙ sym c.first_index.ensures ∙ c.in-Some.is in
    (c.in-Some.place, first_found (is_one c.args.index) c.args.indexes.now c.in-Some.place c.remove.result found (sym c.remove.ensures.value))

pub returns-clause-rest : goal.returns-clause-rest
returns-clause-rest c =
    let found : position (is_one c.args.index) c.args.indexes.now ≡ Some c.in-Some.place = ap (position (is_one c.args.index)) (sym c.as_slice.ensures) ∙ sym c.first_index.ensures ∙ c.in-Some.is in
    c.remove.ensures.rest ∙ removed_first (is_one c.args.index) c.args.indexes.now c.in-Some.place found
