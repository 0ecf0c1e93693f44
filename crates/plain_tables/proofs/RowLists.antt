-- Rows whose values stand one behind the other.
use Rattle.std.proofs.Common.{◌≡◌, ℕ, zero, suc, ◌+◌, ◌-◌, ◌≤◌, List, [], ◌∷◌, ◌++◌, Some, None, length, length-drop, drop, take, get_or, refl, sym, ap, ◌∙◌, subst, arith}
use Rattle.std.specs.List.{slice_get}
use Rattle.std.proofs.lemmas.List.{drop-append-le, drop_at, take-append-le, take_all}
use Rattle.std.proofs.lemmas.Option.{none-some, same_Some}
use Rattle.plain_tables.specs.RowLists.{RiseTo, rows_between}
use Rattle.plain_tables.specs.Tables.{Row}
use Rattle.plain_tables.specs.declared.value.Value.{Value}

-- there are as many as ends
pub rows-length : (start : ℕ) (ends : List ℕ) (values : List Value) → length (rows_between start ends values) ≡ length ends
rows-length start [] values = refl
rows-length start (end ∷ ends) values = ap suc (rows-length end ends values)

-- where there is no end, there is no row
pub no_row : (start : ℕ) (ends : List ℕ) (values : List Value) (i : ℕ) → slice_get ends i ≡ None → slice_get (rows_between start ends values) i ≡ None
no_row start [] values i none = refl
no_row start (end ∷ ends) values zero none = absurd (none-some end (sym none))
no_row start (end ∷ ends) values (suc i) none = no_row end ends values i none

-- the row that ends at a place, from the place before it on
pub row_there : (start : ℕ) (ends : List ℕ) (values : List Value) (i end : ℕ) → slice_get ends i ≡ Some end
    → slice_get (rows_between start ends values) i ≡ Some (take (end - get_or (start ∷ ends) i 0) (drop (get_or (start ∷ ends) i 0) values))
row_there start [] values i end there = absurd (none-some end there)
row_there start (first ∷ ends) values zero end there = ap (λ e. Some (take (e - start) (drop start values))) (same_Some first end there)
row_there start (first ∷ ends) values (suc i) end there = row_there first ends values i end there

-- each place is among those that it rises from and to
pub rise-most : (start : ℕ) (ends : List ℕ) (last : ℕ) → RiseTo start ends last → start ≤ last
rise-most start [] last rise = omega (arith, rise)
rise-most start (end ∷ ends) last rise = omega (arith, rise.0, rise-most end ends last rise.1)

pub rise-at : (start : ℕ) (ends : List ℕ) (last : ℕ) → RiseTo start ends last → (i end : ℕ) → slice_get ends i ≡ Some end
    → (get_or (start ∷ ends) i 0 ≤ end) × (end ≤ last)
rise-at start [] last rise i end there = absurd (none-some end there)
rise-at start (first ∷ ends) last rise zero end there =
    let same = same_Some first end there in (omega (arith, rise.0, same), omega (arith, rise-most first ends last rise.1, same))
rise-at start (first ∷ ends) last rise (suc i) end there = rise-at first ends last rise.1 i end there

-- one place more
pub rise-more : (start : ℕ) (ends : List ℕ) (last more : ℕ) → RiseTo start ends last → last ≤ more → RiseTo start (ends ++ more ∷ []) more
rise-more start [] last more rise least = (omega (arith, rise, least), refl)
rise-more start (end ∷ ends) last more rise least = (rise.0, rise-more end ends last more rise.1 least)

-- one row more behind the others
pub rows-more : (start : ℕ) (ends : List ℕ) (values row : List Value) → RiseTo start ends (length values)
    → rows_between start (ends ++ (length values + length row) ∷ []) (values ++ row) ≡ rows_between start ends values ++ row ∷ []
rows-more start [] values row rise =
    let size : (length values + length row) - start ≡ length row = omega (arith, rise) in
    let behind : drop start (values ++ row) ≡ row = drop_at values row start (sym rise) in
    ap (λ (r : Row). r ∷ []) (ap (λ n. take n (drop start (values ++ row))) size ∙ ap (take (length row)) behind ∙ take_all (length row) row (omega arith))
rows-more start (end ∷ ends) values row rise =
    let most = rise-most end ends (length values) rise.1 in
    let same : drop start (values ++ row) ≡ drop start values ++ row = drop-append-le start values row (omega (arith, rise.0, most)) in
    let size : end - start ≤ length (drop start values) = subst (λ n. end - start ≤ n) (sym (length-drop start values)) (omega (arith, most)) in
    let here : take (end - start) (drop start (values ++ row)) ≡ take (end - start) (drop start values) =
    ap (take (end - start)) same ∙ take-append-le (end - start) (drop start values) row size in
    ap (λ (r : Row). r ∷ rows_between end (ends ++ (length values + length row) ∷ []) (values ++ row)) here
    ∙ ap (λ rs. take (end - start) (drop start values) ∷ rs) (rows-more end ends values row rise.1)
