-- The places of values beside those that stand so to a value: they tell which stand so, and never fall in the order of values.
use Rattle.std.proofs.Common.{◌≡◌, ◌≢◌, ◌≤◌, ℕ, Bool, true, false, not, ◌&&◌, cond, ◌⊎◌, inl, inr, List, [], ◌∷◌, refl, sym, ap, ◌∙◌, arith, Ordering}
use Rattle.std.specs.Cmp.{tied_then}
use Rattle.std.specs.declared.cmp.Ordering.TheVariants.{Less, Equal, Greater}
use Rattle.std.specs.Ordering.{ordering_index, ordering_then, is_eq, is_lt, is_le, is_gt, is_ge}
use Rattle.std.proofs.lemmas.Bool.{cases_Bool}
use Rattle.common_lemmas.proofs.Orders.{ordering_index_within}
use Rattle.plain_tables.specs.declared.value.Value.{Value}
use Rattle.plain_tables.specs.declared.value.Value.TheVariants.{Null, Int, Text}
use Rattle.plain_tables.specs.declared.condition.Op.{Op}
use Rattle.plain_tables.specs.declared.condition.Op.TheVariants as op
use Rattle.plain_tables.specs.declared.resolved.Test.{Test}
use Rattle.plain_tables.specs.Values.{is_null, value_cmp, value_cmp_total}
use Rattle.plain_tables.specs.Queries.{stands, are_ordered}
use Rattle.mm_relation.proofs.Placing.{rises_beside}
use Rattle.plan_chooser.specs.Plans.{is_range}
use Rattle.temp_list.specs.Reading.{bounds, is_between}
use Rattle.temp_list.specs.Ranges.{place_of, place_beside, place_between}

-- two values in their order
abbrev pub Rises : Value → Value → Type 0
Rises a b = (value_cmp a b ≡ Less) ⊎ (value_cmp a b ≡ Equal)

values_rise : (a b w : Value) → Rises a b → ordering_index (value_cmp a w) ≤ ordering_index (value_cmp b w)
values_rise a b w (inl below) = rises_beside value_cmp value_cmp_total a b w below
values_rise a b w (inr same) = rw (value_cmp_total.congr a b w same) (omega arith)

-- nulls stand first
nulls_first : (a b : Value) → Rises a b → is_null b ≡ true → is_null a ≡ true
nulls_first Null b h e = refl
nulls_first a Null (inl h) e = cc
nulls_first a Null (inr h) e = cc
nulls_first a b h e = cc

-- a value that stands so by another operator than = and <> is no null, nor is the other, and they are ordered so
abbrev parts : Op → Value → Value → Bool
parts operator v w = not (is_null w) && (not (is_null v) && are_ordered operator (value_cmp v w))

stands_parts : (operator : Op) → operator ≢ op.Eq → operator ≢ op.Ne → (v w : Value) → stands operator v w ≡ parts operator v w
stands_parts op.Eq ne nn v w = absurd (ne refl)
stands_parts op.Ne ne nn v w = absurd (nn refl)
stands_parts operator ne nn v Null = refl
stands_parts operator ne nn Null w = refl
stands_parts operator ne nn v w = refl

-- what an order tells of two that follow each other beside a third
lt_down : (o p : Ordering) → ordering_index o ≤ ordering_index p → is_lt p ≡ true → is_lt o ≡ true
lt_down Less p h e = refl
lt_down o Less h e = absurd (omega arith)
lt_down o p h e = cc

le_down : (o p : Ordering) → ordering_index o ≤ ordering_index p → is_le p ≡ true → is_le o ≡ true
le_down Greater Greater h e = cc
le_down Greater p h e = absurd (omega arith)
le_down o p h e = refl

gt_up : (o p : Ordering) → ordering_index o ≤ ordering_index p → is_gt o ≡ true → is_gt p ≡ true
gt_up o Greater h e = refl
gt_up Greater p h e = absurd (omega arith)
gt_up o p h e = cc

ge_up : (o p : Ordering) → ordering_index o ≤ ordering_index p → is_ge o ≡ true → is_ge p ≡ true
ge_up Less Less h e = cc
ge_up o Less h e = absurd (omega arith)
ge_up o p h e = refl

-- places by three tests: whether the value that is sought is null, whether this one is, and whether they are ordered so
abbrev below : Bool → Bool → Bool → Ordering
below sought null so = cond (not sought && (not null && so)) Equal (cond null Less Greater)

abbrev above : Bool → Bool → Bool → Ordering
above sought null so = cond (not sought && (not null && so)) Equal Less

below_rises : (sought an bn al bl : Bool) → (bn ≡ true → an ≡ true) → (bl ≡ true → al ≡ true) → ordering_index (below sought an al) ≤ ordering_index (below sought bn bl)
below_rises false false false true false h k = omega arith
below_rises false false false false true h k = absurd (let e : false ≡ true = k refl in cc)
below_rises sought false true al bl h k = absurd (let e : false ≡ true = h refl in cc)
below_rises sought an bn al bl h k = omega arith

above_rises : (sought an bn al bl : Bool) → (bn ≡ true → an ≡ true) → (al ≡ true → bl ≡ true) → ordering_index (above sought an al) ≤ ordering_index (above sought bn bl)
above_rises false false false true false h k = absurd (let e : false ≡ true = k refl in cc)
above_rises false false true al bl h k = absurd (let e : false ≡ true = h refl in cc)
above_rises sought an bn al bl h k = omega arith

-- the places never fall in the order of values
pub places_rise : (operator : Op) → operator ≢ op.Ne → (a b w : Value) → Rises a b → ordering_index (place_of operator a w) ≤ ordering_index (place_of operator b w)
places_rise op.Eq range a b w h = values_rise a b w h
places_rise op.Ne range a b w h = absurd (range refl)
places_rise op.Lt range a b w h =
    rw (stands_parts op.Lt (λ e. cc) (λ e. cc) a w, stands_parts op.Lt (λ e. cc) (λ e. cc) b w)
    (below_rises (is_null w) (is_null a) (is_null b) (is_lt (value_cmp a w)) (is_lt (value_cmp b w)) (nulls_first a b h) (lt_down (value_cmp a w) (value_cmp b w) (values_rise a b w h)))
places_rise op.Le range a b w h =
    rw (stands_parts op.Le (λ e. cc) (λ e. cc) a w, stands_parts op.Le (λ e. cc) (λ e. cc) b w)
    (below_rises (is_null w) (is_null a) (is_null b) (is_le (value_cmp a w)) (is_le (value_cmp b w)) (nulls_first a b h) (le_down (value_cmp a w) (value_cmp b w) (values_rise a b w h)))
places_rise op.Gt range a b w h =
    rw (stands_parts op.Gt (λ e. cc) (λ e. cc) a w, stands_parts op.Gt (λ e. cc) (λ e. cc) b w)
    (above_rises (is_null w) (is_null a) (is_null b) (is_gt (value_cmp a w)) (is_gt (value_cmp b w)) (nulls_first a b h) (gt_up (value_cmp a w) (value_cmp b w) (values_rise a b w h)))
places_rise op.Ge range a b w h =
    rw (stands_parts op.Ge (λ e. cc) (λ e. cc) a w, stands_parts op.Ge (λ e. cc) (λ e. cc) b w)
    (above_rises (is_null w) (is_null a) (is_null b) (is_ge (value_cmp a w)) (is_ge (value_cmp b w)) (nulls_first a b h) (ge_up (value_cmp a w) (value_cmp b w) (values_rise a b w h)))

-- the range is what stands so
equal_where : (b : Bool) (o : Ordering) → is_eq o ≡ false → is_eq (cond b Equal o) ≡ b
equal_where true o e = refl
equal_where false o e = e

not_equal : (n : Bool) → is_eq (cond n Less Greater) ≡ false
not_equal true = refl
not_equal false = refl

pub range_stands : (operator : Op) → operator ≢ op.Ne → (v w : Value) → is_eq (place_of operator v w) ≡ stands operator v w
range_stands op.Eq range Null Null = refl
range_stands op.Eq range (Int a) (Int b) = refl
range_stands op.Eq range (Text a) (Text b) = refl
range_stands op.Eq range v w = refl
range_stands op.Ne range v w = absurd (range refl)
range_stands op.Lt range v w = equal_where (stands op.Lt v w) (cond (is_null v) Less Greater) (not_equal (is_null v))
range_stands op.Le range v w = equal_where (stands op.Le v w) (cond (is_null v) Less Greater) (not_equal (is_null v))
range_stands op.Gt range v w = equal_where (stands op.Gt v w) Less refl
range_stands op.Ge range v w = equal_where (stands op.Ge v w) Less refl

-- ---- the bounds that tests set

-- the operator of a test that bounds a column
bounds_not_ne : (operator : Op) (same : Bool) → (is_range operator && same) ≡ true → operator ≢ op.Ne
bounds_not_ne operator same h e = let f : (is_range op.Ne && same) ≡ true = ap (λ o. is_range o && same) (sym e) ∙ h in cc

-- a place that follows two that never fall never falls
then_rises : (o p q r : Ordering) → ordering_index o ≤ ordering_index p → ordering_index q ≤ ordering_index r → ordering_index (ordering_then o q) ≤ ordering_index (ordering_then p r)
then_rises Equal Equal q r h k = k
then_rises Greater Greater q r h k = omega arith
then_rises o p q r h k = omega (arith, ordering_index_within q)

beside_rises : (column : ℕ) (test : Test) (a b : Value) → Rises a b → ordering_index (place_beside column test a) ≤ ordering_index (place_beside column test b)
beside_rises column test a b h =
    elim (cases_Bool (bounds column test)) [
      | inl e ↦ rw e (places_rise test.op (bounds_not_ne test.op _ e) a b test.value h)
      | inr f ↦ rw f (omega arith)
    ]

-- the places beside all of the bounds never fall in the order of values
pub between_rises : (column : ℕ) (tests : List Test) (a b : Value) → Rises a b → ordering_index (place_between column tests a) ≤ ordering_index (place_between column tests b)
between_rises column [] a b h = omega arith
between_rises column (test ∷ tests) a b h =
    then_rises (place_beside column test a) (place_beside column test b) (place_between column tests a) (place_between column tests b) (beside_rises column test a b h) (between_rises column tests a b h)

-- the range is what passes each
pub between_stands : (column : ℕ) (tests : List Test) (v : Value) → is_eq (place_between column tests v) ≡ is_between column tests v
between_stands column [] v = refl
between_stands column (test ∷ tests) v =
    sym (tied_then (place_beside column test v) (place_between column tests v)) ∙ ap (λ b. is_eq (place_beside column test v) && b) (between_stands column tests v)
    ∙ elim (cases_Bool (bounds column test)) [
      | inl e ↦ rw e (ap (λ b. b && is_between column tests v) (range_stands test.op (bounds_not_ne test.op _ e) v test.value))
      | inr f ↦ rw f refl
    ]
