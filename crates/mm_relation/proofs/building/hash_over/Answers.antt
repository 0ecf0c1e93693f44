use Rattle.std.proofs.Common.{◌∙◌, ◌++◌, ◌≡◌, ℕ, List, [], ◌∷◌, sym, ap, subst, append_assoc, arith, length}
use Rattle.std.proofs.lemmas.List.{append-nil}
use Rattle.part_raw.specs.declared.tuple_ref.TupleRef.{TupleRef}
use Rattle.ttree.specs.Held.{items_of_tree, rest_of}
use Rattle.mm_relation.proofs.Listing.{next_held, entries_few, not_entered, hash_serves_next}
use Rattle.mm_relation.specs.State.{HashServes}
use Rattle.mm_relation.proofs.building.hash_over.Given.{Over}
use Rattle.mm_relation.proofs.building.hash_over.Goals as goal
use Rattle.mm_relation.proofs.building.hash_over.Goals.{After-cover}

pub hash_in-requires : goal.hash_in-requires
hash_in-requires g c =
    c.requires.read c.in-Some.r
    (next_held c.args.rows.now.tuples (items_of_tree c.args.by_key.now) c.loop-r.yielded (rest_of c.next.new.self) c.in-Some.r c.requires.keyed
    (c.loop-r.invariant.split ∙ ap (λ (xs : List TupleRef). c.loop-r.yielded ++ xs) c.in-Some.ensures.steps))

-- the hash that has memory for the next row serves those before it
covered : (g : Over) (c : After-cover g) → HashServes (g.R.LinkedKeys.keys c.args.others.now) c.args.rows.now.tuples c.loop-r.yielded (c.args.column.0, c.cover.new.self.entries)
covered g c = subst (λ (entries : List (ℕ × TupleRef)). HashServes (g.R.LinkedKeys.keys c.args.others.now) c.args.rows.now.tuples c.loop-r.yielded (c.args.column.0, entries)) (sym c.cover.ensures.entries) c.loop-r.invariant.serves

pub insert-requires-clause-short : goal.insert-requires-clause-short
insert-requires-clause-short g c =
    entries_few c.args.rows.now.tuples (items_of_tree c.args.by_key.now) c.loop-r.yielded (rest_of c.next.new.self) c.in-Some.r c.requires.keyed
    (c.loop-r.invariant.split ∙ ap (λ (xs : List TupleRef). c.loop-r.yielded ++ xs) c.in-Some.ensures.steps)
    (g.R.LinkedKeys.keys c.args.others.now) c.args.column.0 c.cover.new.self.entries c.requires.few (covered g (goal.at.insert-requires-clause-short g c).After-cover)

pub insert-requires-clause-absent : goal.insert-requires-clause-absent
insert-requires-clause-absent g c =
    not_entered c.args.rows.now.tuples (items_of_tree c.args.by_key.now) c.loop-r.yielded (rest_of c.next.new.self) c.in-Some.r c.requires.keyed
    (c.loop-r.invariant.split ∙ ap (λ (xs : List TupleRef). c.loop-r.yielded ++ xs) c.in-Some.ensures.steps)
    (g.R.LinkedKeys.keys c.args.others.now) c.args.column.0 c.cover.new.self.entries (covered g (goal.at.insert-requires-clause-absent g c).After-cover)

pub loop-r-preserved : goal.loop-r-preserved
loop-r-preserved g c =
    let rest : List TupleRef = rest_of c.next.new.self in
    let steps : rest_of c.loop-r.r-iterator ≡ c.in-Some.r ∷ rest = c.in-Some.ensures.steps in
    let more : length (rest_of c.loop-r.r-iterator) ≡ length (c.in-Some.r ∷ rest) = ap length steps in
    record {
      split = c.loop-r.invariant.split ∙ ap (λ (xs : List TupleRef). c.loop-r.yielded ++ xs) steps ∙ sym (append_assoc c.loop-r.yielded (c.in-Some.r ∷ []) rest);
      serves = hash_serves_next (g.R.LinkedKeys.keys c.args.others.now) c.args.rows.now.tuples c.args.column.0 c.loop-r.yielded c.in-Some.r c.cover.new.self.entries c.insert.new.self.entries (rw c.hash_in.ensures at c.insert.ensures.entries) (covered g (goal.at.loop-r-preserved g c).After-cover);
      room = omega (arith, c.loop-r.invariant.room, c.cover.ensures.room, c.insert.ensures.room);
    }

pub returns : goal.returns
returns g c = record {
  serves = rw (c.loop-r.invariant.split ∙ ap (λ (xs : List TupleRef). c.loop-r.yielded ++ xs) c.in-None.ensures.steps.0 ∙ append-nil c.loop-r.yielded) c.loop-r.invariant.serves;
}
