use Rattle.ttree.specs.Held.{items_of_tree}
use Rattle.std.proofs.Common.{◌≡◌, ◌∙◌, sym, ap, arith, Some, IsSome, is_some}
use Rattle.std.specs.FinMap.{get, insert, remove}
use Rattle.part_raw.specs.declared.tuple_ref.TupleRef.{TupleRef}
use Rattle.part_raw.specs.Store.{Tuples}
use Rattle.part_raw.proofs.Tuples.{get-insert_same, remove-insert}
use Rattle.mm_relation.proofs.KeyOrder.{covered, in_order, key_found, keyed_with, bag_with, no_key, got_key, from_some}
use Rattle.common_lemmas.proofs.Options.{at_none}
use Rattle.mm_relation.specs.Rows.{Row, row_of, without_number}
use Rattle.mm_relation.proofs.keyed.put_row.Goals as goal

-- the row is held once it was put
there : (rows now : Tuples Row) (r : TupleRef) (t : Row) → now ≡ insert rows r t → IsSome (get now r)
there rows now r t put = ap is_some (ap (λ m. get m r) put ∙ get-insert_same rows r t)

pub remove-requires : goal.remove-requires
remove-requires c = there c.args.rows.now.tuples c.put.new.self.tuples c.in_ok-r.r (row_of c.args.row.now.items) c.in_ok-r.ensures.tuples

pub key-requires : goal.key-requires
key-requires c = there c.args.rows.now.tuples c.put.new.self.tuples c.in_ok-r.r (row_of c.args.row.now.items) c.in_ok-r.ensures.tuples

pub insert_from_end-requires : goal.insert_from_end-requires
insert_from_end-requires c = (
  omega arith,
  (
    c.requires.key_room,
    (
      omega (arith, c.requires.keyed.lists.count, c.requires.few),
      (
        tt,
        (
          rw c.in_ok-r.ensures.tuples (covered c.args.rows.now.tuples (items_of_tree c.args.by_key.now) c.in_ok-r.r (row_of c.args.row.now.items) c.requires.keyed c.in_ok-r.ensures.fresh),
          rw (got_key c.args.rows.now.tuples c.put.new.self.tuples c.in_ok-r.r (row_of c.args.row.now.items) c.sought-sought.result c.in_ok-r.ensures.tuples (c.key.ensures ∙ ap Some (sym c.sought-sought.ensures)), c.in_ok-r.ensures.tuples) (in_order c.args.rows.now.tuples (items_of_tree c.args.by_key.now) c.in_ok-r.r (row_of c.args.row.now.items) c.requires.keyed c.in_ok-r.ensures.fresh),
        ),
      ),
    ),
  ),
)

pub returns-then-is_err-clause-keyed : goal.returns-then-is_err-clause-keyed
returns-then-is_err-clause-keyed c =
    rw (c.remove.ensures.rows, c.in_ok-r.ensures.tuples, remove-insert c.args.rows.now.tuples c.in_ok-r.r (row_of c.args.row.now.items) c.in_ok-r.ensures.fresh)
    c.requires.keyed

pub returns-then-is_err-clause-kept : goal.returns-then-is_err-clause-kept
returns-then-is_err-clause-kept c =
    c.remove.ensures.rows ∙ ap (λ m. remove m c.in_ok-r.r) c.in_ok-r.ensures.tuples ∙ remove-insert c.args.rows.now.tuples c.in_ok-r.r (row_of c.args.row.now.items) c.in_ok-r.ensures.fresh

pub returns-then-is_some-clause-keyed : goal.returns-then-is_some-clause-keyed
returns-then-is_some-clause-keyed c =
    rw (c.remove-then-is_some.ensures.rows, c.in_ok-r.ensures.tuples, remove-insert c.args.rows.now.tuples c.in_ok-r.r (row_of c.args.row.now.items) c.in_ok-r.ensures.fresh, from_some c.insert_from_end.result (sym c.if-is_some.ensures) c.insert_from_end.ensures.kept)
    c.requires.keyed

pub returns-then-is_some-clause-told : goal.returns-then-is_some-clause-told
returns-then-is_some-clause-told c =
    key_found c.args.rows.now.tuples (items_of_tree c.args.by_key.now) c.in_ok-r.r (row_of c.args.row.now.items) c.requires.keyed c.in_ok-r.ensures.fresh c.insert_from_end.result (sym c.if-is_some.ensures) c.insert_from_end.ensures.held
    (rw (got_key c.args.rows.now.tuples c.put.new.self.tuples c.in_ok-r.r (row_of c.args.row.now.items) c.sought-sought.result c.in_ok-r.ensures.tuples (c.key.ensures ∙ ap Some (sym c.sought-sought.ensures)), c.in_ok-r.ensures.tuples) at c.insert_from_end.ensures.found)

pub returns-then-is_some-clause-kept : goal.returns-then-is_some-clause-kept
returns-then-is_some-clause-kept c =
    c.remove-then-is_some.ensures.rows ∙ ap (λ m. remove m c.in_ok-r.r) c.in_ok-r.ensures.tuples ∙ remove-insert c.args.rows.now.tuples c.in_ok-r.r (row_of c.args.row.now.items) c.in_ok-r.ensures.fresh

pub returns-clause-keyed : goal.returns-clause-keyed
returns-clause-keyed c =
    rw c.in_ok-r.ensures.tuples
    (keyed_with c.args.rows.now.tuples (items_of_tree c.args.by_key.now) c.in_ok-r.r (row_of c.args.row.now.items) c.requires.keyed c.in_ok-r.ensures.fresh
    (at_none c.insert_from_end.result _ (sym c.if-is_some.ensures) (rw (got_key c.args.rows.now.tuples c.put.new.self.tuples c.in_ok-r.r (row_of c.args.row.now.items) c.sought-sought.result c.in_ok-r.ensures.tuples (c.key.ensures ∙ ap Some (sym c.sought-sought.ensures)), c.in_ok-r.ensures.tuples) at c.insert_from_end.ensures.none))
    (items_of_tree c.insert_from_end.new.self)
    (at_none c.insert_from_end.result _ (sym c.if-is_some.ensures) (rw (got_key c.args.rows.now.tuples c.put.new.self.tuples c.in_ok-r.r (row_of c.args.row.now.items) c.sought-sought.result c.in_ok-r.ensures.tuples (c.key.ensures ∙ ap Some (sym c.sought-sought.ensures)), c.in_ok-r.ensures.tuples) at c.insert_from_end.ensures.inserted)))

pub returns-clause-listed : goal.returns-clause-listed
returns-clause-listed c =
    bag_with c.args.rows.now.tuples (items_of_tree c.args.by_key.now) c.in_ok-r.r (row_of c.args.row.now.items) c.requires.keyed c.in_ok-r.ensures.fresh
    (at_none c.insert_from_end.result _ (sym c.if-is_some.ensures) (rw (got_key c.args.rows.now.tuples c.put.new.self.tuples c.in_ok-r.r (row_of c.args.row.now.items) c.sought-sought.result c.in_ok-r.ensures.tuples (c.key.ensures ∙ ap Some (sym c.sought-sought.ensures)), c.in_ok-r.ensures.tuples) at c.insert_from_end.ensures.none))
    (items_of_tree c.insert_from_end.new.self)
    (at_none c.insert_from_end.result _ (sym c.if-is_some.ensures) (rw (got_key c.args.rows.now.tuples c.put.new.self.tuples c.in_ok-r.r (row_of c.args.row.now.items) c.sought-sought.result c.in_ok-r.ensures.tuples (c.key.ensures ∙ ap Some (sym c.sought-sought.ensures)), c.in_ok-r.ensures.tuples) at c.insert_from_end.ensures.inserted))

pub returns-clause-told : goal.returns-clause-told
returns-clause-told c =
    no_key c.args.rows.now.tuples (items_of_tree c.args.by_key.now) c.in_ok-r.r (row_of c.args.row.now.items) c.requires.keyed c.in_ok-r.ensures.fresh
    (at_none c.insert_from_end.result _ (sym c.if-is_some.ensures) (rw (got_key c.args.rows.now.tuples c.put.new.self.tuples c.in_ok-r.r (row_of c.args.row.now.items) c.sought-sought.result c.in_ok-r.ensures.tuples (c.key.ensures ∙ ap Some (sym c.sought-sought.ensures)), c.in_ok-r.ensures.tuples) at c.insert_from_end.ensures.none))

pub returns-then-is_err-clause-kept_aside : goal.returns-then-is_err-clause-kept_aside
returns-then-is_err-clause-kept_aside c =
    c.remove.ensures.aside ∙ ap (λ numbers. without_number numbers c.in_ok-r.r) c.in_ok-r.ensures.aside
    ∙ ap (λ numbers. record c.args.rows.now.aside { numbers = numbers }) (remove-insert c.args.rows.now.aside.numbers c.in_ok-r.r 0 c.in_ok-r.ensures.unnamed)

pub returns-then-is_some-clause-kept_aside : goal.returns-then-is_some-clause-kept_aside
returns-then-is_some-clause-kept_aside c =
    c.remove-then-is_some.ensures.aside ∙ ap (λ numbers. without_number numbers c.in_ok-r.r) c.in_ok-r.ensures.aside
    ∙ ap (λ numbers. record c.args.rows.now.aside { numbers = numbers }) (remove-insert c.args.rows.now.aside.numbers c.in_ok-r.r 0 c.in_ok-r.ensures.unnamed)
