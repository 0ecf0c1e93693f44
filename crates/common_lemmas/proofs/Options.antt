-- What an option or a result has.
use Rattle.std.proofs.Common.{Err, IsSome, None, Option, Some, ap, false, is_some, refl, sym, true, ◌≡◌}
use Rattle.std.proofs.lemmas.Bool.{false≢true}
use Rattle.std.proofs.lemmas.Option.{none-some, same_Some}
use Rattle.std.specs.Option.{IfNone, option_and_then, option_map, option_map_or}
use Rattle.std.specs.Prelude.{Ok, Result}
use Rattle.std.specs.Result.{result_ok}

pub not_Ok : {X Y : Type 0} (why : Y) (x : X) → ◌≡◌ {A = Result X Y} (Err why) (Ok x) → ⊥
not_Ok why x same = none-some x (ap result_ok same)

pub same_Ok : {X Y : Type 0} (x y : X) → ◌≡◌ {A = Result X Y} (Ok x) (Ok y) → x ≡ y
same_Ok x y same = same_Some x y (ap result_ok same)

-- what an option that is mapped gives
pub option_map_some : {X Y : Type 0} (f : X → Y) (o : Option X) (y : Y) → option_map f o ≡ Some y → (x : X) × (o ≡ Some x) × (f x ≡ y)
option_map_some f None y h = absurd (none-some y h)
option_map_some f (Some x) y h = (x, refl, same_Some (f x) y h)

pub is_some-option_map : {X Y : Type 0} (f : X → Y) (o : Option X) → is_some (option_map f o) ≡ is_some o
is_some-option_map f None = refl
is_some-option_map f (Some x) = refl

-- What holds of each result of f, and of the other value, holds of what an option gives.
pub option_map_or_satisfies : {X Y : Type 0} (P : Y → Type 0) (f : X → Y) (found : Option X) (otherwise : Y)
    → P otherwise → ((x : X) → found ≡ Some x → P (f x)) → P (option_map_or f found otherwise)
option_map_or_satisfies P f None otherwise old new = old
option_map_or_satisfies P f (Some x) otherwise old new = new x refl

-- what an option has that has something
pub is_some-Some : {X : Type 0} (o : Option X) → is_some o ≡ true → (x : X) × (o ≡ Some x)
is_some-Some None h = absurd (false≢true h)
is_some-Some (Some x) h = (x, refl)

pub none_from_is_some : {X : Type 0} (o : Option X) → is_some o ≡ false → o ≡ None
none_from_is_some None h = refl
none_from_is_some (Some x) h = absurd (false≢true (sym h))

pub at_none : {X : Type 0} (o : Option X) (P : Type 0) → is_some o ≡ false → IfNone o P → P
at_none None P e h = h
at_none (Some x) P e h = absurd (false≢true (sym e))

-- what gives something to what asks further has something itself
pub and_then-Some : {X Y : Type 0} (f : X → Option Y) (o : Option X) → IsSome (option_and_then f o) → (x : X) × (o ≡ Some x) × IsSome (f x)
and_then-Some f None h = absurd (false≢true h)
and_then-Some f (Some x) h = (x, refl, h)

pub some_from_then : {X Y : Type 0} (f : X → Option Y) (o : Option X) → IsSome (option_and_then f o) → IsSome o
some_from_then f None h = h
some_from_then f (Some x) h = refl
