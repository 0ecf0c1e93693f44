-- What a load does, row by row.
use Rattle.std.proofs.Common.{◌≡◌, ◌⊎◌, ℕ, suc, ◌+◌, List, ◌∷◌, Some, refl, sym, ap, ◌∙◌, subst, drop, inl, inr, add-one}
use Rattle.std.specs.List.{slice_get}
use Rattle.std.proofs.Math.Seq.{drop-cons}
use Rattle.std.proofs.lemmas.List.Elements.{All-head}
use Rattle.std.proofs.lemmas.Option.{slice_get_within, get_or_from_slice_get}
use Rattle.plain_tables.specs.Tables.{Row}
use Rattle.plain_tables.specs.Doing.{insert, in_record, left_with, goes_on, loaded, load_effect, load}
use Rattle.plain_tables.specs.Effects.{Effect, Refused}
use Rattle.plain_tables.specs.ResolvedLaws.{IsInsertable, IsMeant}
use Rattle.plain_tables.specs.declared.command.Limits.{Limits}
use Rattle.plain_tables.specs.declared.numbers.TableNumber.{TableNumber}
use Rattle.plain_tables.specs.declared.refusal.Refusal.{Refusal}
use Rattle.plain_tables.specs.declared.refusal.Refusal.TheVariants.{NoMemory}
use Rattle.plain_tables.specs.declared.resolved.Resolved.TheVariants as resolved
use Rattle.plain_tables.proofs.Sound.{CanTake, can_take_on}
use Rattle.mm_catalog.specs.State.{CatalogState}
use Rattle.mm_catalog.specs.Seen.{database_of}
use Rattle.mm_catalog.specs.Changes.{HasEffect, IsRefusedFor}

next_row : (rows : List Row) (i : ℕ) (row : Row) → slice_get rows i ≡ Some row → drop i rows ≡ row ∷ drop (i + 1) rows
next_row rows i row at =
    drop-cons rows i row (slice_get_within rows i row at) ∙ ap (λ r. r ∷ drop (suc i) rows) (get_or_from_slice_get rows i row row at)
    ∙ ap (λ k. row ∷ drop k rows) (sym (add-one i))

-- So many rows came in: the others still can, and what comes of them is what comes of all.
pub record IsUnderWay (c d : CatalogState) (n : TableNumber) (rows : List Row) (i : ℕ) : Type 0 where
  pub limits : d.limits ≡ c.limits
  pub can : CanTake n (drop i rows) (database_of d)
  pub rest : loaded c.limits (database_of c) n 1 rows ≡ loaded c.limits (database_of d) n (i + 1) (drop i rows)

pub under_way_none : (c : CatalogState) (n : TableNumber) (rows : List Row) → IsMeant c.limits (database_of c) (resolved.Load n rows) → IsUnderWay c c n rows 0
under_way_none c n rows meant = record { limits = refl; can = meant; rest = refl }

module _ (c d : CatalogState) (n : TableNumber) (rows : List Row) (i : ℕ) (h : IsUnderWay c d n rows i) where
  module _ (row : Row) (at : slice_get rows i ≡ Some row) where
    can_next : CanTake n (row ∷ drop (i + 1) rows) (database_of d)
    can_next = subst (λ rs. CanTake n rs (database_of d)) (next_row rows i row at) h.can

    -- the next of them can come in
    pub under_way_meant : IsMeant d.limits (database_of d) (resolved.Insert n row)
    under_way_meant = (can_next.0, can_next.1, All-head (λ r. IsInsertable (database_of d) r can_next.0) row (drop (i + 1) rows) can_next.2)

    -- what comes of it
    next : Effect
    next = insert d.limits (database_of d) n row

    split : loaded c.limits (database_of c) n 1 rows ≡ goes_on (λ tables. loaded c.limits tables n (i + 1 + 1) (drop (i + 1) rows)) (left_with (i + 1) next.database next.outcome)
    unfolding next
    split =
        h.rest ∙ ap (loaded c.limits (database_of d) n (i + 1)) (next_row rows i row at)
        ∙ ap (λ (limits : Limits). goes_on (λ tables. loaded c.limits tables n (i + 1 + 1) (drop (i + 1) rows)) (left_with (i + 1) (insert limits (database_of d) n row).database (insert limits (database_of d) n row).outcome)) (sym h.limits)

    -- it came in
    pub under_way_then : (e : CatalogState) → HasEffect d e (insert d.limits (database_of d) n row) 1 → IsUnderWay c e n rows (i + 1)
    unfolding next
    under_way_then e effect = record {
      limits = effect.limits ∙ h.limits;
      can = subst (CanTake n (drop (i + 1) rows)) (sym effect.database) (can_take_on d.limits (database_of d) n row (drop (i + 1) rows) can_next);
      rest =
          split ∙ ap (λ o. goes_on (λ tables. loaded c.limits tables n (i + 1 + 1) (drop (i + 1) rows)) (left_with (i + 1) next.database o)) effect.outcome
          ∙ ap (λ tables. loaded c.limits tables n (i + 1 + 1) (drop (i + 1) rows)) (sym effect.database);
    }

    -- it was refused, and so are all
    pub under_way_refused : (e : CatalogState) (refusal : Refusal) → IsRefusedFor d e (insert d.limits (database_of d) n row) refusal
        → (in_record (i + 1) refusal ≡ NoMemory) ⊎ ((load c.limits (database_of c) n rows).outcome ≡ Refused (in_record (i + 1) refusal))
    unfolding next
    under_way_refused e refusal (same, inl none) = inl (ap (in_record (i + 1)) none)
    under_way_refused e refusal (same, inr why) = inr (
        ap (λ r. (load_effect (database_of c) rows r).outcome)
        (split ∙ ap (λ o. goes_on (λ tables. loaded c.limits tables n (i + 1 + 1) (drop (i + 1) rows)) (left_with (i + 1) next.database o)) why)
        )
