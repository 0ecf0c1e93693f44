-- The columns that conditions, settings and items name, and what is asked of them.
use Rattle.std.proofs.Common.{◌≡◌, ℕ, ◌<◌, ◌≤◌, Bool, true, false, List, [], ◌∷◌, ◌++◌, length, map, get_or, Option, Some, None, is_some, refl, sym, ap, ◌∙◌}
use Rattle.std.specs.Prelude.{not, ◌||◌, ◌==◌}
use Rattle.std.specs.List.{list_any, filter_map, cons_option}
use Rattle.std.specs.Option.{option_map, option_map_or}
use Rattle.std.proofs.lemmas.List.{map-append}
use Rattle.std.proofs.lemmas.List.Elements.{filter_map-append}
use Rattle.std.proofs.lemmas.List.Folds.{list_any-append, list_any_at}
use Rattle.common_lemmas.proofs.Options.{is_some-option_map}
use Rattle.common_lemmas.proofs.Tests.{list_any-map, any_agree, or_false}
use Rattle.plain_tables.specs.Queries.{JoinedColumn, fits_one, place_meant, places_meant, named_items}
use Rattle.plain_tables.specs.Effects.{misses}
use Rattle.plain_tables.specs.Resolving.{shown_of}
use Rattle.plain_tables.specs.declared.condition.ColName.{ColName}
use Rattle.plain_tables.specs.declared.command.Items.{Items}
use Rattle.plain_tables.specs.declared.command.Items.TheVariants as items
use Rattle.plain_tables.specs.declared.numbers.ColumnNumber.{ColumnNumber}
use Rattle.plain_tables.specs.declared.numbers.Place.{Place}
use Rattle.mm_resolver.specs.Naming.{shown_places}
use Rattle.mm_resolver.proofs.Lists.{leaves_out, left_out, none_left_out, length-made}
use Rattle.mm_resolver.proofs.Columns.{fits_one-is}

-- ---- one name more

pub option_map_or-map : {X Y : Type 0} (g : Y → Bool) (f : X → Y) (o : Option X) → option_map_or (λ x. g (f x)) o false ≡ option_map_or g (option_map f o) false
option_map_or-map g f None = refl
option_map_or-map g f (Some x) = refl

module _ {X : Type 0} (columns : List JoinedColumn) (name : X → ColName) where
  -- a name that means no column is missed among all
  pub missed_at : (xs : List X) (i : ℕ) (x : X) → i < length xs → x ≡ get_or xs i x → place_meant columns (name x) ≡ None → misses columns (map name xs) ≡ true
  missed_at xs i x within at none =
      let fits : X → Bool = λ y. fits_one columns (name y) in
      let here : not (fits (get_or xs i x)) ≡ true = ap (λ y. not (fits y)) (sym at) ∙ ap not (sym (fits_one-is columns (name x)) ∙ ap is_some none) in
      list_any-map (λ n. not (fits_one columns n)) name xs ∙ list_any_at (λ y. not (fits y)) xs i x within here

  module _ (given : List X) (x : X) (place : Place) (is : place_meant columns (name x) ≡ Some place) where
    pub named_more : misses columns (map name given) ≡ false → misses columns (map name (given ++ x ∷ [])) ≡ false
    named_more h =
        ap (misses columns) (map-append name given (x ∷ []))
        ∙ list_any-append (λ n. not (fits_one columns n)) (map name given) (name x ∷ [])
        ∙ ap (λ b. b || (not (fits_one columns (name x)) || false)) h
        ∙ ap (λ b. not b || false) (sym (fits_one-is columns (name x)) ∙ ap is_some is)

    pub made_more : {Y : Type 0} → (make : X → Place → Y) → filter_map (λ y. option_map (make y) (place_meant columns (name y))) (given ++ x ∷ [])
        ≡ filter_map (λ y. option_map (make y) (place_meant columns (name y))) given ++ make x place ∷ []
    made_more {Y = Y} make =
        let made : X → Option Y = λ y. option_map (make y) (place_meant columns (name y)) in
        filter_map-append made given (x ∷ []) ∙ ap (λ o. filter_map made given ++ cons_option (option_map (make x) o) []) is

-- one element more passes or not
pub any_more : {X : Type 0} (p : X → Bool) (xs : List X) (x : X) (b : Bool) → b ≡ p x → list_any p (xs ++ x ∷ []) ≡ (list_any p xs || b)
any_more p xs x b h = list_any-append p xs (x ∷ []) ∙ ap (λ c. list_any p xs || (c || false)) (sym h) ∙ ap (λ c. list_any p xs || c) (or_false b)

-- ---- what all names mean

module _ {X Y : Type 0} (columns : List JoinedColumn) (name : X → ColName) (make : X → Place → Y) where
  abbrev meant : X → Option Y
  meant x = option_map (make x) (place_meant columns (name x))

  -- what names no column is left out
  misses-is : (xs : List X) → misses columns (map name xs) ≡ leaves_out meant xs
  misses-is xs =
      list_any-map (λ n. not (fits_one columns n)) name xs
      ∙ any_agree (λ x. not (fits_one columns (name x))) (λ x. not (is_some (meant x)))
      (λ x. ap not (sym (is_some-option_map (make x) (place_meant columns (name x)) ∙ fits_one-is columns (name x)))) xs

  pub length_meant : (xs : List X) → misses columns (map name xs) ≡ false → length (filter_map meant xs) ≡ length xs
  length_meant xs h = length-made meant xs (sym (misses-is xs) ∙ h)

module _ (columns : List JoinedColumn) where
  -- ---- items

  misses-places : (names : List ColName) → misses columns names ≡ leaves_out (place_meant columns) names
  misses-places names = any_agree (λ n. not (fits_one columns n)) (λ n. not (is_some (place_meant columns n))) (λ n. ap not (sym (fits_one-is columns n))) names

  pub places_fewer : (names : List ColName) → length (places_meant columns names) < length names → misses columns names ≡ true
  places_fewer names less = misses-places names ∙ left_out (place_meant columns) names less

  pub places_all : (names : List ColName) → length names ≤ length (places_meant columns names) → misses columns names ≡ false
  places_all names all = misses-places names ∙ none_left_out (place_meant columns) names all

  -- the places shown are those that the items mean
  pub shown_places-are : (its : Items) → shown_places (shown_of columns its) ≡ places_meant columns (named_items its)
  shown_places-are items.All = refl
  shown_places-are (items.Named names) = refl

  pub length-shown : (its : Items) → misses columns (named_items its) ≡ false → length (shown_places (shown_of columns its)) ≡ length (named_items its)
  length-shown its h =
      ap length (shown_places-are its) ∙ length-made (place_meant columns) (named_items its) (sym (misses-places (named_items its)) ∙ h)

  -- ---- settings by their places

  -- what is made of a column's place is of the key where the place is
  module _ {X Y : Type 0} (name : X → ColName) (make : X → Place → Y) (column : Y → ColumnNumber) (same : (x : X) (p : Place) → column (make x p) ≡ p.column) where
    one_place : (o : Option Place) (x : X) (places : List Place) (others : List Y)
        → list_any (λ (p : Place). p.column.0 == 0) places ≡ list_any (λ y. (column y).0 == 0) others
        → list_any (λ (p : Place). p.column.0 == 0) (cons_option o places) ≡ list_any (λ y. (column y).0 == 0) (cons_option (option_map (make x) o) others)
    one_place None x places others e = e
    one_place (Some p) x places others e =
        ap (λ b. (p.column.0 == 0) || b) e ∙ ap (λ (k : ColumnNumber). (k.0 == 0) || list_any (λ y. (column y).0 == 0) others) (sym (same x p))

    pub key_set : (xs : List X) → list_any (λ p. p.column.0 == 0) (places_meant columns (map name xs))
        ≡ list_any (λ y. (column y).0 == 0) (filter_map (λ x. option_map (make x) (place_meant columns (name x))) xs)
    key_set [] = refl
    key_set (x ∷ xs) = one_place (place_meant columns (name x)) x (places_meant columns (map name xs)) (filter_map (λ y. option_map (make y) (place_meant columns (name y))) xs) (key_set xs)
