use Rattle.std.proofs.Common.{◌≡◌, ◌∙◌, true, false, sym, ap, subst, lit<}
use Rattle.std.specs.List.{insert}
use Rattle.ttree_node.specs.Tree.{with_items, with_tree, list, size, whole, has_left, has_right, items_of, down_left}
use Rattle.ttree_node.specs.Editor.{position}
use Rattle.ttree_node.specs.declared.node.Side.TheVariants.{Left}
use Rattle.ttree.specs.Removing.{HasLost, rightmost, without_left_greatest}
use Rattle.ttree.proofs.Borrowing.{put_back, left_kept, lent, list-lent, size-lent, rightmost-open, whole-rightmost}
use Rattle.ttree.proofs.Losing.{lost-left_fit}
use Rattle.ttree.proofs.Places.{whole-on_side}
use Rattle.ttree.proofs.removal.borrow_greatest.Given.{Over}
use Rattle.ttree.proofs.removal.borrow_greatest.Goals as goal
use Rattle.ttree.proofs.removal.borrow_greatest.Goals.{After-put}

pub take_from_left-greatest-requires : goal.take_from_left-greatest-requires
take_from_left-greatest-requires g c =
    (lit< tt, (c.requires.left, (lost-left_fit g.row.MIN g.row.MAX (position c.args.editor.now) c.requires.lost, c.requires.tree)))

back : (g : Over) (c : After-put g) → position c.put.new.self ≡ with_items (insert (items_of (position c.args.editor.now).here) 0 c.take_from_left-greatest.result) (with_tree without_left_greatest (position c.args.editor.now))
back g c = put_back (position c.args.editor.now) (position c.take_from_left-greatest.new.editor) (position c.put.new.self) c.take_from_left-greatest.result c.take_from_left-greatest.ensures.taken c.put.ensures.items

pub to_left_greatest-requires : goal.to_left_greatest-requires
to_left_greatest-requires g c =
    let z = position c.args.editor.now in let i = c.take_from_left-greatest.result in
    (lit< tt, subst (λ w. has_left w.here ≡ true) (sym (back g (goal.at.to_left_greatest-requires g c).After-put)) (left_kept z.here (insert (items_of z.here) 0 i) c.requires.left))

pub returns-clause-lost : goal.returns-clause-lost
returns-clause-lost g c =
    let is = back g (goal.at.returns-clause-lost g c).After-put in
    let z = position c.args.editor.now in let i = c.take_from_left-greatest.result in
    subst (λ w. HasLost g.row.MIN g.row.MAX w) (sym (c.to_left_greatest.ensures.moved ∙ (λ j. rightmost (down_left (is j))))) (lent g.row.MIN g.row.MAX z i c.requires.ordered c.requires.lost c.requires.few c.requires.left)

pub returns-clause-open : goal.returns-clause-open
returns-clause-open g c =
    subst (λ w. has_right w.here ≡ false) (sym c.to_left_greatest.ensures.moved) (rightmost-open (down_left (position c.put.new.self)))

pub returns-clause-tree : goal.returns-clause-tree
returns-clause-tree g c =
    let z = position c.put.new.self in
    c.to_left_greatest.ensures.tree ∙ c.put.ensures.tree ∙ sym (whole-rightmost (down_left z) ∙ whole-on_side Left z) ∙ (λ j. whole (sym c.to_left_greatest.ensures.moved j))

pub returns-clause-list : goal.returns-clause-list
returns-clause-list g c =
    let is = back g (goal.at.returns-clause-list g c).After-put in
    let z = position c.args.editor.now in let i = c.take_from_left-greatest.result in
    ap (λ t. list t) (c.to_left_greatest.ensures.tree ∙ c.put.ensures.tree) ∙ (λ j. list (whole (is j))) ∙ list-lent z i c.requires.left c.take_from_left-greatest.ensures.greatest ∙ sym (ap (λ t. list t) c.requires.tree)

pub returns-clause-size : goal.returns-clause-size
returns-clause-size g c =
    let is = back g (goal.at.returns-clause-size g c).After-put in
    let z = position c.args.editor.now in let i = c.take_from_left-greatest.result in
    ap (λ t. size t) (c.to_left_greatest.ensures.tree ∙ c.put.ensures.tree) ∙ (λ j. size (whole (is j))) ∙ size-lent z (insert (items_of z.here) 0 i) ∙ sym (ap (λ t. size t) c.requires.tree)
