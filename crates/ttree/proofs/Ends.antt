-- What the end of a search says of the whole list.
use Rattle.std.proofs.Common.{◌≡◌, ◌≢◌, ℕ, ◌<◌, ◌≤◌, List, ◌++◌, length, get_or, refl, sym, ap, subst, ◌∙◌, arith, Ordering}
use Rattle.std.specs.List.{All, Contains}
use Rattle.std.specs.declared.cmp.Ordering.TheVariants.{Less, Equal, Greater}
use Rattle.std.specs.Ordering.{ordering_index}
use Rattle.std.proofs.lemmas.List.Elements.{All-append, All-weaker, Contains-append_left, Contains-append_right, Contains-get_or}
use Rattle.mm_index.specs.Range.{NeverFalls, from_range}
use Rattle.mm_index.proofs.Ranged.{from_range_split}
use Rattle.ttree_node.specs.Tree.{Tree, Zipper, Label, whole, list, items_of, list_until, list_from}
use Rattle.ttree.specs.Shape.{IsFit, IsTTree, HasItems, HasItemsInEach}
use Rattle.ttree.specs.Searching.{taken, IsGap}
use Rattle.ttree.specs.declared.asking.Seek.{Seek}
use Rattle.ttree.specs.declared.asking.Seek.TheVariants.{Any, First}
use Rattle.ttree.proofs.EachNode.{each_map}
use Rattle.ttree.proofs.Cuts.{list_around, list_cut, front, back}

pub items_in_each : {I : Type 0} (least most : ℕ) (t : Tree (Label I)) → IsTTree least most t → HasItemsInEach most t
items_in_each least most t h = each_map (IsFit least most) (HasItems most) (λ l x r k. k.items) t h

-- ---- how an answer is taken
taken-le : (seek : Seek) (o p : Ordering) → ordering_index o ≤ ordering_index p → ordering_index (taken seek o) ≤ ordering_index (taken seek p)
taken-le Any o p h = h
taken-le First Less Less h = h
taken-le First Less Equal h = omega arith
taken-le First Less Greater h = h
taken-le First Equal Less h = absurd (omega arith)
taken-le First Equal Equal h = omega arith
taken-le First Equal Greater h = omega arith
taken-le First Greater Less h = absurd (omega arith)
taken-le First Greater Equal h = absurd (omega arith)
taken-le First Greater Greater h = h

pub NeverFalls-taken : {I : Type 0} (seek : Seek) (place : I → Ordering) (xs : List I) → NeverFalls place xs → NeverFalls (λ r. taken seek (place r)) xs
NeverFalls-taken seek place xs h = λ i j d l m. taken-le seek (place (get_or xs i d)) (place (get_or xs j d)) (h i j d l m)

pub not_Equal-Less : (o : Ordering) → o ≡ Less → o ≢ Equal
not_Equal-Less o e = λ f. cc

pub not_Equal-Greater : (o : Ordering) → o ≡ Greater → o ≢ Equal
not_Equal-Greater o e = λ f. cc

first_Less : (o : Ordering) → taken First o ≡ Less → o ≡ Less
first_Less Less e = refl
first_Less Equal e = cc
first_Less Greater e = cc

first_not_Less : (o : Ordering) → taken First o ≡ Greater → o ≢ Less
first_not_Less Less e = cc
first_not_Less Equal e = λ f. cc
first_not_Less Greater e = λ f. cc

pub first_not_Equal : (o : Ordering) → taken First o ≡ Equal → ⊥
first_not_Equal Less e = cc
first_not_Equal o e = cc

module _ {I : Type 0} (tree : Tree (Label I)) (z : Zipper (Label I)) (same : whole z ≡ tree) where
  around : list tree ≡ front z ++ (items_of z.here ++ back z)
  around = ap (λ (t : Tree (Label I)). list t) (sym same) ∙ list_around z

  cut : (i : ℕ) → list tree ≡ list_until i z ++ list_from i z
  cut i = ap (λ (t : Tree (Label I)). list t) (sym same) ∙ list_cut i z

  -- an item of the node is one of the tree
  pub held_here : (i : ℕ) (d : I) → i < length (items_of z.here) → Contains (list tree) (get_or (items_of z.here) i d)
  held_here i d l =
      let x = get_or (items_of z.here) i d in
      subst (λ (xs : List I). Contains xs x) (sym around)
      (Contains-append_right (front z) (items_of z.here ++ back z) x (Contains-append_left (items_of z.here) (back z) x (Contains-get_or (items_of z.here) i d l)))

  -- nothing is in the range
  pub none_in_gap : (place : I → Ordering) (i : ℕ) → IsGap place z i → All (λ r. place r ≢ Equal) (list tree)
  none_in_gap place i gap =
      subst (λ (xs : List I). All (λ r. place r ≢ Equal) xs) (sym (cut i))
      (All-append (λ r. place r ≢ Equal) (list_until i z) (list_from i z)
      (All-weaker (λ r. place r ≡ Less) (λ r. place r ≢ Equal) (λ r e. not_Equal-Less (place r) e) (list_until i z) gap.below)
      (All-weaker (λ r. place r ≡ Greater) (λ r. place r ≢ Equal) (λ r e. not_Equal-Greater (place r) e) (list_from i z) gap.above))

  -- what is not below the range
  pub from_gap : (place : I → Ordering) (i : ℕ) → IsGap (λ r. taken First (place r)) z i → from_range place (list tree) ≡ list_from i z
  from_gap place i gap =
      ap (from_range place) (cut i)
      ∙ from_range_split place (list_until i z) (list_from i z)
      (All-weaker (λ r. taken First (place r) ≡ Less) (λ r. place r ≡ Less) (λ r e. first_Less (place r) e) (list_until i z) gap.below)
      (All-weaker (λ r. taken First (place r) ≡ Greater) (λ r. place r ≢ Less) (λ r e. first_not_Less (place r) e) (list_from i z) gap.above)
