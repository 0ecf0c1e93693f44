-- A relation that is told column by column where its links lead, now that a table is gone or back.
use Rattle.std.proofs.Common.{◌++◌, ◌≡◌, ℕ, ◌+◌, ◌<◌, ◌≤◌, List, Option, Some, None, sym, ap, ◌∙◌, subst, arith, length, map, take, drop, set, get_or, length-set}
use Rattle.std.specs.List.{slice_get}
use Rattle.std.specs.Option.{option_and_then, option_map}
use Rattle.std.proofs.lemmas.List.{length-map, length-take-le, set-get_or}
use Rattle.std.proofs.lemmas.List.Edits.{map_over_more}
use Rattle.std.proofs.lemmas.Option.{slice_get-get_or, get_or_from_slice_get}
use Rattle.mm_relation.specs.State.{RelationState}
use Rattle.mm_catalog.specs.Linked.{target_at}
use Rattle.mm_catalog.specs.Dropped.{with_column_moved, IsRenumberedUpTo}
use Rattle.mm_catalog.proofs.Lists.{get-past}

module _ (moved : ℕ → ℕ) (column : ℕ) (s : RelationState) where
  -- where there are none, none are told
  pub no_column : slice_get s.targets column ≡ Some None → s ≡ with_column_moved moved column s
  no_column at =
      let found : Option ℕ = None in
      ap (λ (ts : List (Option ℕ)). record s { targets = ts })
      (sym (ap (set s.targets column) (sym (get_or_from_slice_get s.targets column found found at)) ∙ set-get_or s.targets column found)
      ∙ ap (set s.targets column) (sym (ap (λ (o : Option (Option ℕ)). option_map moved (option_and_then (λ (t : Option ℕ). t) o)) at)))

-- what is not yet told is as it was
pub untold : {A : Type 0} (f : A → A) (xs ys : List A) (i : ℕ) → i ≤ length xs → ys ≡ map f (take i xs) ++ drop i xs → slice_get ys i ≡ slice_get xs i
untold f xs ys i within told =
    ap (λ zs. slice_get zs i) told ∙ get-past (map f (take i xs)) xs i i (length-map (take i xs) f ∙ length-take-le i xs within) (omega arith)

module _ (moved : ℕ → ℕ) (old : RelationState) where
  pub renumbered_next : (i : ℕ) (s new : RelationState) → IsRenumberedUpTo moved old i s → i < length old.targets → new ≡ with_column_moved moved i s → IsRenumberedUpTo moved old (i + 1) new
  renumbered_next i s new h within told =
      let x : Option ℕ = target_at s.targets i in
      let here : x ≡ get_or s.targets i x =
      ap (option_and_then (λ (t : Option ℕ). t)) (slice_get-get_or s.targets i x (omega (arith, within, h.wide))) in
      subst (IsRenumberedUpTo moved old (i + 1)) (sym told) (record {
        same = ap (λ (r : RelationState). record r { targets = set s.targets i (option_map moved x) }) h.same;
        wide = length-set s.targets i (option_map moved x) ∙ h.wide;
        moved_first = map_over_more (option_map moved) old.targets s.targets i x within h.moved_first here;
      })

  -- the next column leads where it led
  pub leads_still : (i : ℕ) (s : RelationState) → IsRenumberedUpTo moved old i s → i < length old.targets → target_at s.targets i ≡ target_at old.targets i
  leads_still i s h within = ap (option_and_then (λ (t : Option ℕ). t)) (untold (option_map moved) old.targets s.targets i (omega (arith, within)) h.moved_first)
