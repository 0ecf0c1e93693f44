-- The list of a tree, split at a place.
use Rattle.std.proofs.Common.{◌≡◌, ℕ, List, [], ◌∷◌, ◌++◌, take, drop, sym, ap, ◌∙◌, append_assoc}
use Rattle.std.proofs.lemmas.List.{append-nil, take-append-drop}
use Rattle.std.proofs.Math.Seq.{drop-nil, take-nil}
use Rattle.ttree_node.specs.Tree.{Tree, empty, node, Frame, went_left, went_right, Zipper, Label, at, plug, whole, list, list_after, list_from, list_before, list_until}

module _ {I : Type 0} where
  under_left : (bs ls xs rs zs : List I) → bs ++ ((ls ++ (xs ++ rs)) ++ zs) ≡ bs ++ (ls ++ (xs ++ (rs ++ zs)))
  under_left bs ls xs rs zs = simp append_assoc

  under_right : (bs ls xs rs zs : List I) → bs ++ ((ls ++ (xs ++ rs)) ++ zs) ≡ (bs ++ (ls ++ xs)) ++ (rs ++ zs)
  under_right bs ls xs rs zs = simp append_assoc

  -- the whole list is that of the subtree, between what stands before and what stands behind on the way up
  pub list-plug_split : (c : List (Frame (Label I))) (t : Tree (Label I)) → list (plug c t) ≡ list_before c ++ (list t ++ list_after c)
  list-plug_split [] t = sym (append-nil (list t))
  list-plug_split (went_left x r ∷ c) t = list-plug_split c (node t x r) ∙ under_left (list_before c) (list t) x.items (list r) (list_after c)
  list-plug_split (went_right l x ∷ c) t = list-plug_split c (node l x t) ∙ under_right (list_before c) (list l) x.items (list t) (list_after c)

  within : (bs ls ys us rs zs : List I) → (bs ++ (ls ++ ys)) ++ (us ++ (rs ++ zs)) ≡ bs ++ ((ls ++ ((ys ++ us) ++ rs)) ++ zs)
  within bs ls ys us rs zs = simp append_assoc

  list_until-from_at : (i : ℕ) (c : List (Frame (Label I))) (t : Tree (Label I)) → list_until i (at c t) ++ list_from i (at c t) ≡ list_before c ++ (list t ++ list_after c)
  list_until-from_at i c empty = ap (λ ys. (list_before c ++ ys) ++ (drop i [] ++ list_after c)) (take-nil i) ∙ ap (λ ys. (list_before c ++ []) ++ (ys ++ list_after c)) (drop-nil i) ∙ ap (λ ys. ys ++ list_after c) (append-nil (list_before c))
  list_until-from_at i c (node l x r) =
      within (list_before c) (list l) (take i x.items) (drop i x.items) (list r) (list_after c) ∙ ap (λ ys. list_before c ++ ((list l ++ (ys ++ list r)) ++ list_after c)) (take-append-drop i x.items)

  -- what stands before an item and the list from it on are the whole list
  pub list_until-from : (i : ℕ) (z : Zipper (Label I)) → list_until i z ++ list_from i z ≡ list (whole z)
  list_until-from i z = list_until-from_at i z.above z.here ∙ sym (list-plug_split z.above z.here)
