-- How a tree is told apart from others: as the list of its labels, each behind those of its two subtrees.
use Rattle.std.specs.Prelude.{◌≡◌, ℕ, List, [], ◌∷◌, ◌++◌, Option, Some, None, refl}
use Rattle.std.specs.Coded.{Coded, code_by, coded×, coded_ℕ, coded_list, coded_option}
use Rattle.std.proofs.Common.{append_assoc, sym, ap, ◌∙◌}
use Rattle.std.proofs.lemmas.List.{append-nil}
use Rattle.ttree_node.specs.Tree.{Tree, empty, node, Label}

module _ {X : Type 0} where
  -- the left subtree, the right one and the label, and None for an empty tree
  abbrev pub labels_of : Tree X → List (Option X)
  labels_of empty = None ∷ []
  labels_of (node l x r) = labels_of l ++ (labels_of r ++ (Some x ∷ []))

  -- the two trees that were read last, the right one first, as the subtrees of a node
  abbrev pub joined_under : X → List (Tree X) → List (Tree X)
  joined_under x [] = []
  joined_under x (r ∷ []) = []
  joined_under x (r ∷ l ∷ ts) = node l x r ∷ ts

  abbrev pub read_one : Option X → List (Tree X) → List (Tree X)
  read_one None ts = empty ∷ ts
  read_one (Some x) ts = joined_under x ts

  -- the trees that are read, the last one first
  abbrev pub read_all : List (Option X) → List (Tree X) → List (Tree X)
  read_all [] ts = ts
  read_all (o ∷ os) ts = read_all os (read_one o ts)

  abbrev pub last_read : List (Tree X) → Tree X
  last_read [] = empty
  last_read (t ∷ ts) = t

  abbrev pub tree_from : List (Option X) → Tree X
  tree_from os = last_read (read_all os [])

  read_all-labels : (t : Tree X) (os : List (Option X)) (ts : List (Tree X)) → read_all (labels_of t ++ os) ts ≡ read_all os (t ∷ ts)
  read_all-labels empty os ts = refl
  read_all-labels (node l x r) os ts =
      ap (λ ps. read_all ps ts) (append_assoc (labels_of l) (labels_of r ++ (Some x ∷ [])) os) ∙ read_all-labels l ((labels_of r ++ (Some x ∷ [])) ++ os) ts
      ∙ ap (λ ps. read_all ps (l ∷ ts)) (append_assoc (labels_of r) (Some x ∷ []) os) ∙ read_all-labels r (Some x ∷ os) (l ∷ ts)

  pub tree_from-labels : (t : Tree X) → tree_from (labels_of t) ≡ t
  tree_from-labels t = ap (λ os. tree_from os) (sym (append-nil (labels_of t))) ∙ ap (λ ts. last_read ts) (read_all-labels t [] [])

  abbrev pub tree_code : Coded X → Coded (Tree X)
  tree_code code = code_by (List (Option X)) (coded_list (coded_option code)) labels_of tree_from tree_from-labels

abbrev pub label_code : {I : Type 0} → Coded I → Coded (Label I)
label_code {I} code = code_by (List I × ℕ) (coded× (coded_list code) coded_ℕ) (λ x. (x.items, x.height)) (λ p. record { items = p.0; height = p.1 }) (λ _. refl)
