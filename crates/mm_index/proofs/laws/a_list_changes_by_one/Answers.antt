use Rattle.mm_index.proofs.Listed.{IsSameBag-insert_by, IsSameBag-remove_by}
use Rattle.std.proofs.lemmas.List.Elements.{All-contains}
use Rattle.mm_index.proofs.laws.a_list_changes_by_one.Goals as goal

pub returns-clause-inserted : goal.returns-clause-inserted
returns-clause-inserted g c = λ order r xs sound r_covered covered absent.
    IsSameBag-insert_by (g.O.TupleOrder.covers order) (g.O.TupleOrder.cmp order) (g.met.O.TupleOrder.is_strict order sound) r r_covered xs covered absent

pub returns-clause-removed : goal.returns-clause-removed
returns-clause-removed g c = λ order r xs sound covered rising held.
    IsSameBag-remove_by (g.O.TupleOrder.covers order) (g.O.TupleOrder.cmp order) (g.met.O.TupleOrder.is_strict order sound) r
    (All-contains (g.O.TupleOrder.covers order) xs r covered held) xs covered rising held
