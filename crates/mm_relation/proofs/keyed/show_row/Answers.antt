use Rattle.ttree.specs.Held.{items_of_tree}
use Rattle.std.proofs.Common.{◌≡◌, ◌∙◌, sym, ap, arith, Some, IsSome, is_some}
use Rattle.std.specs.FinMap.{insert}
use Rattle.part_raw.proofs.Tuples.{get-insert_same, held_tuple}
use Rattle.mm_relation.proofs.KeyOrder.{covered, in_order, key_found, keyed_with, bag_with, got_key, from_none}
use Rattle.mm_relation.proofs.keyed.show_row.Goals as goal

pub key-requires : goal.key-requires
key-requires c =
    let found = held_tuple c.args.rows.now.aside.hidden c.args.r c.requires.hidden in
    rw (c.show.ensures found.0 found.1) (ap is_some (get-insert_same c.args.rows.now.tuples c.args.r found.0))

pub insert_from_end-requires : goal.insert_from_end-requires
insert_from_end-requires c =
    let found = held_tuple c.args.rows.now.aside.hidden c.args.r c.requires.hidden in
    let fresh = c.hidden_are_apart.ensures.apart c.args.r c.requires.hidden in
    let put : c.show.new.self.tuples ≡ insert c.args.rows.now.tuples c.args.r found.0 = ap (λ s. s.tuples) (c.show.ensures found.0 found.1) in (
      omega arith,
      (
        c.requires.key_room,
        (
          omega (arith, c.requires.keyed.lists.count, c.requires.few),
          (
            tt,
            (
              rw put (covered c.args.rows.now.tuples (items_of_tree c.args.by_key.now) c.args.r found.0 c.requires.keyed fresh),
              rw (got_key c.args.rows.now.tuples c.show.new.self.tuples c.args.r found.0 c.sought-sought.result put (c.key.ensures ∙ ap Some (sym c.sought-sought.ensures)), put) (in_order c.args.rows.now.tuples (items_of_tree c.args.by_key.now) c.args.r found.0 c.requires.keyed fresh),
            ),
          ),
        ),
      ),
    )

pub returns-clause-fresh : goal.returns-clause-fresh
returns-clause-fresh c = c.hidden_are_apart.ensures.apart c.args.r c.requires.hidden

pub returns-clause-keyed : goal.returns-clause-keyed
returns-clause-keyed c =
    let found = held_tuple c.args.rows.now.aside.hidden c.args.r c.requires.hidden in
    let fresh = c.hidden_are_apart.ensures.apart c.args.r c.requires.hidden in
    let put : c.show.new.self.tuples ≡ insert c.args.rows.now.tuples c.args.r found.0 = ap (λ s. s.tuples) (c.show.ensures found.0 found.1) in
    let list = items_of_tree c.args.by_key.now in
    let absent : IsSome c.insert_from_end.result → ⊥ = (λ some. c.requires.new_key found.0 found.1
    (key_found c.args.rows.now.tuples list c.args.r found.0 c.requires.keyed fresh c.insert_from_end.result some c.insert_from_end.ensures.held (rw (got_key c.args.rows.now.tuples c.show.new.self.tuples c.args.r found.0 c.sought-sought.result put (c.key.ensures ∙ ap Some (sym c.sought-sought.ensures)), put) at c.insert_from_end.ensures.found))) in
    let none = from_none c.insert_from_end.result absent (rw (got_key c.args.rows.now.tuples c.show.new.self.tuples c.args.r found.0 c.sought-sought.result put (c.key.ensures ∙ ap Some (sym c.sought-sought.ensures)), put) at c.insert_from_end.ensures.none) in
    let placed = from_none c.insert_from_end.result absent (rw (got_key c.args.rows.now.tuples c.show.new.self.tuples c.args.r found.0 c.sought-sought.result put (c.key.ensures ∙ ap Some (sym c.sought-sought.ensures)), put) at c.insert_from_end.ensures.inserted) in
    rw put (keyed_with c.args.rows.now.tuples list c.args.r found.0 c.requires.keyed fresh none (items_of_tree c.insert_from_end.new.self) placed)

pub returns-clause-listed : goal.returns-clause-listed
returns-clause-listed c =
    let found = held_tuple c.args.rows.now.aside.hidden c.args.r c.requires.hidden in
    let fresh = c.hidden_are_apart.ensures.apart c.args.r c.requires.hidden in
    let put : c.show.new.self.tuples ≡ insert c.args.rows.now.tuples c.args.r found.0 = ap (λ s. s.tuples) (c.show.ensures found.0 found.1) in
    let list = items_of_tree c.args.by_key.now in
    let absent : IsSome c.insert_from_end.result → ⊥ = (λ some. c.requires.new_key found.0 found.1
    (key_found c.args.rows.now.tuples list c.args.r found.0 c.requires.keyed fresh c.insert_from_end.result some c.insert_from_end.ensures.held (rw (got_key c.args.rows.now.tuples c.show.new.self.tuples c.args.r found.0 c.sought-sought.result put (c.key.ensures ∙ ap Some (sym c.sought-sought.ensures)), put) at c.insert_from_end.ensures.found))) in
    let none = from_none c.insert_from_end.result absent (rw (got_key c.args.rows.now.tuples c.show.new.self.tuples c.args.r found.0 c.sought-sought.result put (c.key.ensures ∙ ap Some (sym c.sought-sought.ensures)), put) at c.insert_from_end.ensures.none) in
    let placed = from_none c.insert_from_end.result absent (rw (got_key c.args.rows.now.tuples c.show.new.self.tuples c.args.r found.0 c.sought-sought.result put (c.key.ensures ∙ ap Some (sym c.sought-sought.ensures)), put) at c.insert_from_end.ensures.inserted) in
    bag_with c.args.rows.now.tuples list c.args.r found.0 c.requires.keyed fresh none (items_of_tree c.insert_from_end.new.self) placed
