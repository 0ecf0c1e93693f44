-- What two things are to each other: less, equal or greater.
use Rattle.std.proofs.Common.{Ordering, ap, arith, false, inl, inr, refl, sym, true, ◌∙◌, ◌≡◌, ◌≢◌, ◌≤◌, ◌⊎◌}
use Rattle.std.proofs.lemmas.Bool.{false≢true}
use Rattle.std.specs.Ordering.{is_eq, is_gt, is_lt, ordering_index, ordering_reverse, ordering_then}
use Rattle.std.specs.declared.cmp.Ordering.TheVariants.{Equal, Greater, Less}

pub is_eq-Equal : (o : Ordering) → is_eq o ≡ true → o ≡ Equal
is_eq-Equal Less e = cc
is_eq-Equal Equal e = refl
is_eq-Equal Greater e = cc

pub is_lt-Less : (o : Ordering) → is_lt o ≡ true → o ≡ Less
is_lt-Less Less e = refl
is_lt-Less o e = cc

pub is_gt-Greater : (o : Ordering) → is_gt o ≡ true → o ≡ Greater
is_gt-Greater Greater e = refl
is_gt-Greater o e = cc

pub Greater-from_neither : (o : Ordering) → o ≢ Less → o ≢ Equal → o ≡ Greater
Greater-from_neither Less h k = absurd (h refl)
Greater-from_neither Equal h k = absurd (k refl)
Greater-from_neither Greater h k = refl

pub not_Equal : (o : Ordering) → is_eq o ≡ false → o ≢ Equal
not_Equal o h e = false≢true (sym h ∙ ap is_eq e)

-- a thing beside itself
pub Equal-from_reverse : (o : Ordering) → o ≡ ordering_reverse o → o ≡ Equal
Equal-from_reverse Less e = cc
Equal-from_reverse Equal e = refl
Equal-from_reverse Greater e = cc

pub is_eq-reverse : (o : Ordering) → is_eq (ordering_reverse o) ≡ is_eq o
is_eq-reverse Less = refl
is_eq-reverse o = refl

pub ordering_index_within : (o : Ordering) → ordering_index o ≤ 2
ordering_index_within Less = omega arith
ordering_index_within o = omega arith

-- below what is less, and above what is greater
pub Less-below : (o p : Ordering) → p ≡ Less → ordering_index o ≤ ordering_index p → o ≡ Less
Less-below Less p e h = refl
Less-below Equal p e h = absurd (omega (arith, h, ap ordering_index e))
Less-below Greater p e h = absurd (omega (arith, h, ap ordering_index e))

pub Greater-above : (o p : Ordering) → p ≡ Greater → ordering_index p ≤ ordering_index o → o ≡ Greater
Greater-above Greater p e h = refl
Greater-above Equal p e h = absurd (omega (arith, h, ap ordering_index e))
Greater-above Less p e h = absurd (omega (arith, h, ap ordering_index e))

-- one order, and a second where the first tells nothing apart
pub then-Equal : (o : Ordering) → ordering_then o Equal ≡ o
then-Equal Less = refl
then-Equal o = refl

pub then_first : (o p : Ordering) → ordering_then o p ≡ Less → (o ≡ Less) ⊎ (o ≡ Equal)
then_first Less p e = inl refl
then_first Equal p e = inr refl
then_first Greater p e = cc
