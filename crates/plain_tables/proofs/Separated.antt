-- Separated: what holds of each symbol of a list with a symbol between two items.
use Rattle.std.proofs.Common.{◌≡◌, List, [], ◌∷◌, ◌++◌, map, append_assoc}
use Rattle.std.specs.List.{AllByRecursion}
use Rattle.plain_tables.specs.Spelling.{Symbol, separated_by}

pub all-append : {X : Type 0} (P : X → Type 0) (xs ys : List X) → AllByRecursion P xs → AllByRecursion P ys → AllByRecursion P (xs ++ ys)
all-append P [] ys left right = right
all-append P (x ∷ xs) ys left right = (left.0, all-append P xs ys left.1 right)

pub all-left : {X : Type 0} (P : X → Type 0) (xs ys : List X) → AllByRecursion P (xs ++ ys) → AllByRecursion P xs
all-left P [] ys all = tt
all-left P (x ∷ xs) ys all = (all.0, all-left P xs ys all.1)

pub all-right : {X : Type 0} (P : X → Type 0) (xs ys : List X) → AllByRecursion P (xs ++ ys) → AllByRecursion P ys
all-right P [] ys all = all
all-right P (x ∷ xs) ys all = all-right P xs ys all.1

pub all-each : {X : Type 0} (P Q : X → Type 0) → ((x : X) → P x → Q x) → (xs : List X) → AllByRecursion P xs → AllByRecursion Q xs
all-each P Q each [] all = tt
all-each P Q each (x ∷ xs) all = (each x all.0, all-each P Q each xs all.1)

-- Where each item's symbols are so, and the symbol between two of them, all are. What is asked of an item may rest on a premise.
pub separated-all : {X : Type 0} (P : Symbol → Type 0) (G : Type 0) (between : Symbol) → P between → (symbols : X → List Symbol) (Q : X → Type 0)
    → ((x : X) → (G → Q x) → AllByRecursion P (symbols x)) → (xs : List X) → (G → AllByRecursion Q xs)
    → AllByRecursion P (separated_by between (map symbols xs))
separated-all P G between is symbols Q each [] all = tt
separated-all P G between is symbols Q each (x ∷ []) all = each x (λ g. (all g).0)
separated-all P G between is symbols Q each (x ∷ y ∷ xs) all =
    all-append P (symbols x) (between ∷ separated_by between (map symbols (y ∷ xs))) (each x (λ g. (all g).0))
    (is, separated-all P G between is symbols Q each (y ∷ xs) (λ g. (all g).1))

-- Where all are so, each item's symbols are.
pub separated-each : {X : Type 0} (P : Symbol → Type 0) (between : Symbol) (symbols : X → List Symbol) (Q : X → Type 0)
    → ((x : X) → AllByRecursion P (symbols x) → Q x) → (xs : List X) → AllByRecursion P (separated_by between (map symbols xs))
    → AllByRecursion Q xs
separated-each P between symbols Q each [] all = tt
separated-each P between symbols Q each (x ∷ []) all = (each x all, tt)
separated-each P between symbols Q each (x ∷ y ∷ xs) all =
    let others : List Symbol = between ∷ separated_by between (map symbols (y ∷ xs)) in (
      each x (all-left P (symbols x) others all),
      separated-each P between symbols Q each (y ∷ xs) (all-right P (symbols x) others all).1,
    )

-- a list of two items or more, and what follows it
pub separated_by-more : {X : Type 0} (between : Symbol) (symbols : X → List Symbol) (x y : X) (xs : List X) (more : List Symbol)
    → separated_by between (map symbols (x ∷ y ∷ xs)) ++ more
    ≡ symbols x ++ (between ∷ (separated_by between (map symbols (y ∷ xs)) ++ more))
separated_by-more between symbols x y xs more = append_assoc (symbols x) (between ∷ separated_by between (map symbols (y ∷ xs))) more
