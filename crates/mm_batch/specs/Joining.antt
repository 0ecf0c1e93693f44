-- The stream that readers make, one read behind the other.
use Rattle.std.specs.Prelude.{ℕ, ◌==◌, List, [], ◌∷◌, ◌++◌, Bool, false, not, drop, map, Option, Some, None, option_map, if◌then◌else◌}
use Rattle.mm_batch.specs.declared.joined.Joined.{Joined}

-- whether bytes end inside a line, where those before them do or don't
abbrev pub ends_inside : Bool → List ℕ → Bool
ends_inside before [] = before
ends_inside before (b ∷ bytes) = ends_inside (not (b == 10)) bytes

-- the bytes of each, one behind the other, with a line feed behind one that ends inside a line and isn't the last
abbrev pub joined : Bool → List (List ℕ) → List ℕ
joined inside [] = []
joined inside (bytes ∷ []) = bytes
joined inside (bytes ∷ next ∷ others) =
    bytes ++ (if ends_inside inside bytes then 10 ∷ joined false (next ∷ others) else joined false (next ∷ others))

-- all of them, if each is known
abbrev pub all_known : List (Option (List ℕ)) → Option (List (List ℕ))
all_known [] = Some []
all_known (None ∷ others) = None
all_known (Some bytes ∷ others) = option_map (λ known. bytes ∷ known) (all_known others)

-- what readers give one behind the other, if it is known of each
abbrev pub joined_known : Bool → List (Option (List ℕ)) → Option (List ℕ)
joined_known inside known = option_map (joined inside) (all_known known)

-- what is left of the stream
abbrev pub left : {R : Type 0} → (R → Option (List ℕ)) → Joined R → Option (List ℕ)
left remaining j = joined_known j.is_inside (map remaining (drop j.place j.readers.items))
