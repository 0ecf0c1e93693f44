-- A run of the slots of a block leaves the row of slots, and values stand in its place. Assumes `Logic`.
use mathlib.Core.Path.{sym, ap, ◌∙◌, ◌≡◌, refl}
use Prim.Native.Nat.{ℕ, suc, ◌+◌, ◌*◌, ◌≤◌}
use native.Mathlib.Omega.{arith}
use native.Mathlib.Nat.{zero-mul, suc-mul}
use mathlib.Core.List.{List, [], ◌∷◌, ◌++◌, map}
use lib.ListN.{length, take, take-append-drop, length-take, length-drop}
use lib.ListN.{drop as drop_l}
use lib.Seq.{drop-drop}
use seplogic.Ra.Ura.{Ura}
use base.Fraction.{full_share}
use base.Logic.{ent, sep, emp, mono_r, id⊢}
use base.Fml.{Fml, ftrue, fsep}
use types.Logic.{Logic, sem}
use types.Kit.{‵, ◌⊛◌, ◌$◌, ◌∵◌, !, qed, by, move, drop, use1, use2, split, rewrite, fsplit, fjoin, done}
use types.SemTy.{cells}
use denote.Memory.{mem, part_at}
use denote.Steps.{nothing}
use Rattle.std.specs.Prelude.{Some}
use Rattle.core.proofs.mem.Param.{El, R, el_x}
use Rattle.part_raw.specs.Raw.{slots_own}
use Rattle.part_raw.specs.Rows.{window}
use Rattle.part_raw.proofs.SlotSteps.{Slot, sz}

module _ (E : El) {M : Type 1} {𝓤 : Ura M} (𝓛 : Logic 𝓤) (b : ℕ) where
  abbrev s : ℕ
  s = sz E

  abbrev row : ℕ → List (Slot E) → Fml
  row o slots = slots_own (R E) b o slots

  cut : (xs ys : List (Slot E)) (o at : ℕ) → at ≡ length xs * s + o → ent 𝓤 (sem 𝓛 (row o (xs ++ ys))) (sep 𝓤 (sem 𝓛 (row o xs)) (sem 𝓛 (row at ys)))
  cut [] ys o at e = qed 𝓛 (‵ (row o ys) ∷ []) ∵ rewrite ! 0 (λ (k : ℕ). ‵ (row k ys)) {x = at} (omega (arith, zero-mul s)) refl $ nothing ! $ done !
  cut (x ∷ xs) ys o at e = let more : at ≡ suc (length xs) * s + o = e in qed 𝓛 (‵ (row o (x ∷ xs ++ ys)) ∷ []) ∵ fsplit ! $ move ! (1 ∷ []) $
      use1 𝓛 (‵ (row (o + s) xs) ⊛ ‵ (row at ys)) (cut xs ys (o + s) at (omega (arith, suc-mul (length xs) s))) $ split ! $ move ! (2 ∷ 0 ∷ []) $ fjoin ! $ done !

  glue : (xs ys : List (Slot E)) (o at : ℕ) → at ≡ length xs * s + o → ent 𝓤 (sep 𝓤 (sem 𝓛 (row o xs)) (sem 𝓛 (row at ys))) (sem 𝓛 (row o (xs ++ ys)))
  glue [] ys o at e = qed 𝓛 (‵ ftrue ∷ ‵ (row at ys) ∷ []) ∵ drop ! $ rewrite ! 0 (λ (k : ℕ). ‵ (row k ys)) {x = o} (omega (arith, zero-mul s)) refl $ done !
  glue (x ∷ xs) ys o at e = let more : at ≡ suc (length xs) * s + o = e in qed 𝓛 (‵ (row o (x ∷ xs)) ∷ ‵ (row at ys) ∷ []) ∵ fsplit ! $ move ! (1 ∷ 2 ∷ []) $
      use2 𝓛 (‵ (row (o + s) (xs ++ ys))) (glue xs ys (o + s) at (omega (arith, suc-mul (length xs) s))) $ move ! (1 ∷ 0 ∷ []) $ fjoin ! $ done !

  module _ (o : ℕ) (slots : List (Slot E)) (i n : ℕ) where
    -- the slots but for the n from the i-th on
    abbrev pub around : Fml
    around = fsep (row o (take i slots)) (row (n * s + (i * s + o)) (drop_l (i + n) slots))

    before : i ≤ length slots → i * s + o ≡ length (take i slots) * s + o
    before le = let long : i ≡ length (take i slots) = omega (arith, length-take i slots) in ap (λ k. k * s + o) long

    pub run_out : i + n ≤ length slots → ent 𝓤 (sem 𝓛 (row o slots)) (sep 𝓤 (sem 𝓛 (row (i * s + o) (window i n slots))) (sem 𝓛 around))
    run_out le =
        let run = window i n slots in let long : n ≡ length run = omega (arith, length-take n (drop_l i slots), length-drop i slots) in
        qed 𝓛 (‵ (row o slots) ∷ []) ∵
        rewrite ! 0 (λ (l : List (Slot E)). ‵ (row o l)) (sym (take-append-drop i slots) ∙ ap (λ l. take i slots ++ l) (sym (take-append-drop n (drop_l i slots)) ∙ ap (λ l. run ++ l) (drop-drop n i slots))) refl $
        use1 𝓛 (‵ (row o (take i slots)) ⊛ ‵ (row (i * s + o) (run ++ drop_l (i + n) slots))) (cut (take i slots) (run ++ drop_l (i + n) slots) o (i * s + o) (before (omega arith))) $ split ! $ move ! (1 ∷ []) $
        use1 𝓛 (‵ (row (i * s + o) run) ⊛ ‵ (row (n * s + (i * s + o)) (drop_l (i + n) slots))) (cut run (drop_l (i + n) slots) (i * s + o) (n * s + (i * s + o)) (ap (λ k. k * s + (i * s + o)) long)) $
        split ! $ move ! (2 ∷ 1 ∷ []) $ fjoin ! $ move ! (1 ∷ []) $ done !

    pub run_in : i + n ≤ length slots → (ws : List (Slot E)) → n ≡ length ws
        → ent 𝓤 (sep 𝓤 (sem 𝓛 (row (i * s + o) ws)) (sem 𝓛 around)) (sem 𝓛 (row o (take i slots ++ (ws ++ drop_l (i + n) slots))))
    run_in le ws long = qed 𝓛 (‵ (row (i * s + o) ws) ∷ ‵ around ∷ []) ∵ move ! (1 ∷ []) $ fsplit ! $ move ! (2 ∷ 1 ∷ []) $
        use2 𝓛 (‵ (row (i * s + o) (ws ++ drop_l (i + n) slots))) (glue ws (drop_l (i + n) slots) (i * s + o) (n * s + (i * s + o)) (ap (λ k. k * s + (i * s + o)) long)) $ move ! (1 ∷ 0 ∷ []) $
        by ! (glue (take i slots) (ws ++ drop_l (i + n) slots) o (i * s + o) (before (omega arith)))

  pub to_cells : (xs : List (el_x E)) (o : ℕ) → ent 𝓤 (sem 𝓛 (row o (map Some xs))) (sem 𝓛 (cells (mem (R E)) xs b o))
  to_cells [] o = id⊢ 𝓤 (emp 𝓤)
  to_cells (x ∷ xs) o = mono_r 𝓤 (sem 𝓛 (part_at (R E) full_share x b o)) (to_cells xs (o + s))

  pub of_cells : (xs : List (el_x E)) (o : ℕ) → ent 𝓤 (sem 𝓛 (cells (mem (R E)) xs b o)) (sem 𝓛 (row o (map Some xs)))
  of_cells [] o = id⊢ 𝓤 (emp 𝓤)
  of_cells (x ∷ xs) o = mono_r 𝓤 (sem 𝓛 (part_at (R E) full_share x b o)) (of_cells xs (o + s))
