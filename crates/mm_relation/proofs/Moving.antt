-- Cells that are moved to the last row, and leave their columns.
use Rattle.std.proofs.Common.{◌≡◌, ◌≢◌, ◌<◌, ◌+◌, ◌==◌, ◌||◌, ◌++◌, ℕ, List, [], ◌∷◌, Option, Some, IsSome, refl, sym, ap, ◌∙◌, arith, subst, map, length, take, get_or}
use Rattle.std.specs.List.{All, AllPairs, list_any}
use Rattle.std.specs.FinMap.{get, insert}
use Rattle.std.proofs.lemmas.List.{length_push, take_all, get_or_append_left}
use Rattle.std.proofs.Math.Seq.{get_or-append_seam, take-append_seam}
use Rattle.part_raw.specs.declared.tuple_ref.TupleRef.{TupleRef}
use Rattle.part_raw.specs.Store.{Tuples}
use Rattle.plain_tables.specs.declared.numbers.ColumnNumber.{ColumnNumber}
use Rattle.mm_relation.specs.Rows.{Row}
use Rattle.mm_relation.specs.declared.row.Cell.{Cell}
use Rattle.mm_relation.specs.Reading.{Keys}
use Rattle.mm_relation.specs.Settings.{with_cells, link_set, sets_column, CellsSet}
use Rattle.mm_relation.specs.Indexes.{Indexes, Gains, Where, AwaitSet, GainSet}
use Rattle.mm_relation.proofs.Each.{held_now, set_next}

-- what is left of cells stands in their columns
column_left : (sets : List (ColumnNumber × Cell)) (c : ℕ) → list_any (λ (s : ColumnNumber × Option TupleRef). s.0.0 == c) (map link_set sets) ≡ sets_column sets c
column_left [] c = refl
column_left (s ∷ rest) c = ap (λ b. (s.0.0 == c) || b) (column_left rest c)

pub same_column : (sets left : List (ColumnNumber × Cell)) → map link_set left ≡ map link_set sets → (c : ℕ) → sets_column left c ≡ sets_column sets c
same_column sets left same c =
    sym (column_left left c) ∙ ap (λ (ss : List (ColumnNumber × Option TupleRef)). list_any (λ s. s.0.0 == c) ss) same ∙ column_left sets c

module _ (keys : Keys) (rows : Tuples Row) (r : TupleRef) (sets left : List (ColumnNumber × Cell)) (same : map link_set left ≡ map link_set sets) where
  pub await_left : (all : Indexes) → AwaitSet keys rows r sets all → AwaitSet keys rows r left all
  await_left all h = λ k d l is. h k d l (sym (same_column sets left same (get_or all k d).column.0) ∙ is)

  pub gain_left : (old new : Indexes) → GainSet keys rows r left old new → GainSet keys rows r sets old new
  gain_left old new h = record {
    count = h.count;
    at = λ k d l.
        let before = get_or old k d in
        let after = get_or new k d in
        subst (λ b. Where b (Gains keys rows r before after) (after ≡ before)) (same_column sets left same before.column.0) (h.at k d l);
  }

-- cells that are set in all rows but the last, and then in the last
module _ (old mid : Tuples Row) (first : List TupleRef) (last : TupleRef) (sets : List (ColumnNumber × Cell)) (once : AllPairs (λ p q. p ≢ q) (first ++ last ∷ [])) (held : All (λ q. IsSome (get old q)) (first ++ last ∷ [])) (set : CellsSet old mid first sets) where
  abbrev rs : List TupleRef
  rs = first ++ last ∷ []

  inside : length first < length rs
  inside = omega (arith, length_push first last)

  set_here : CellsSet old mid (take (length first) rs) sets
  set_here = subst (λ qs. CellsSet old mid qs sets) (sym (take-append_seam first (last ∷ []))) set

  pub last_held : IsSome (get mid last)
  last_held = held_now old mid rs sets (length first) last inside (get_or-append_seam first last [] last) once held set_here

  pub last_set : (new : Tuples Row) → ((t : Row) → get mid last ≡ Some t → new ≡ insert mid last (with_cells sets t)) → CellsSet old new rs sets
  last_set new row =
      subst (λ qs. CellsSet old new qs sets) (take_all (length first + 1) rs (omega (arith, length_push first last)))
      (set_next old mid rs sets (length first) last inside (get_or-append_seam first last [] last) once held set_here new row)

-- what holds of all pairs holds of all but those of the last
pub pairs_first : {A : Type 0} (P : A → A → Type 0) (xs : List A) (x : A) → AllPairs P (xs ++ x ∷ []) → AllPairs P xs
pairs_first P xs x all i j d before l =
    subst (λ a. P a (get_or xs j d)) (get_or_append_left xs (x ∷ []) d i (omega (arith, before, l)))
    (subst (P (get_or (xs ++ x ∷ []) i d)) (get_or_append_left xs (x ∷ []) d j l) (all i j d before (omega (arith, l, length_push xs x))))
