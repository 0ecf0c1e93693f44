-- What the walks over a block of slots share. Assumes `Logic`.
--
--     slot_out, slot_in        one slot leaves the row of slots, and another stands in its place
--     tuple_out, tuple_in      the tuple of a slot as a machine value, and back
--     of_room, to_room         room for an array is a row of empty slots
--     slots_had, slots_made    what a `Slots` owns is taken apart and made
--     opened, closed           the same behind a `&mut`
--     seen, run_seen           what a `&` to a `Slots` reaches
use mathlib.Core.Path.{◌≡◌, refl, sym, ap, subst, ◌∙◌}
use Prim.Native.Nat.{ℕ, zero, suc, ◌+◌, ◌*◌, ◌<◌, ◌≤◌, ◌^◌}
use native.Mathlib.Omega.{arith}
use native.Mathlib.Nat.{not-suc-le-zero, le_of_suc-le-suc, zero-mul, suc-mul}
use mathlib.Core.List.{List, [], ◌∷◌, ◌++◌, map}
use lib.ListN.{length, get_or, set, replicate, take, take-append-drop}
use lib.ListN.{drop as drop_l}
use seplogic.Ra.Ura.{Ura}
use base.Fraction.{full_share}
use base.Stored.{Gv}
use mir.Syntax.{ty_array}
use mir.Val.{Val, vptr, vstruct, of_list}
use base.Logic.{SProp, ent, sep, emp, ex, guard, never, via, snd∗, mono_r, id⊢}
use contract.Monad.{fact, fact_i}
use base.Fml.{Lft, GName, Share, Fml, ftrue, fsep, fat, froom, fhide, flft, fobs, fauth, fbor, fobor}
use types.Logic.{Logic, sem}
use types.Kit.{Goal, Soaks, Step, step, Seq, Item, prop, raw, ‵, ◌⊛◌, some, ◌$◌, ◌∵◌, !, qed, by, move, keep, drop, show, check, use0, use1, use2, pick, split, frame, rewrite, fsplit, fjoin, fpick, fpack, feq_i, feq_l, flt_l, flt_i, done}
use types.SemTy.{Body}
use denote.Index.{place, place_is}
use denote.Laws.{Is, shows}
use denote.Memory.{cell_at, mem, part_at, hidden_shr}
use denote.Opens.{unhide}
use denote.RattleType.{RattleType, Valss}
use denote.RawPtr.{Ptr, RawPtr, block_ptr, in_a_block}
use denote.Slice.{elements_shared}
use denote.Steps.{opens, closes, nothing, peeks}
use denote.Struct.Lending.{lent_out}
use denote.Struct.Owning.{shape}
use denote.Struct.Struct.{Struct, within}
use borrow.Table.OneValue.{part_in, part_out}
use Rattle.std.specs.Prelude.{Option, Some, None}
use Rattle.std.specs.Mem.{type_size}
use Rattle.core.proofs.mem.Param.{El, R, el_x, elτ, Good, lawful}
use Rattle.std_alloc.proofs.RcSteps.{word}
use Rattle.part_raw.specs.Raw.{slot_owns, slots_own, slot_lends, slots_lend, block_owns, block_lends}
use Rattle.part_raw.specs.declared.raw.Slots.{Slots}
use Rattle.part_raw.specs.contracts.raw.Slots as S

module _ (E : El) where
  -- the type `Slots`, and its one field as a plain struct
  abbrev pub Sr : RattleType
  Sr = S.the_row (R E)

  abbrev pub Pointer : RattleType
  Pointer = Struct (shape (S.the_type (R E)))

  abbrev pub slots_d : Type 0
  slots_d = Slots (el_x E)

  abbrev pub Slot : Type 0
  Slot = Option (el_x E)

  abbrev pub sz : ℕ
  sz = type_size (R E)

  -- the row without its i-th slot
  abbrev pub besides : ℕ → ℕ → List Slot → ℕ → Fml
  besides b o [] i = ftrue
  besides b o (held ∷ rest) zero = slots_own (R E) b (o + sz) rest
  besides b o (held ∷ rest) (suc i) = fsep (slot_owns (R E) b o held) (besides b (o + sz) rest i)

module _ (E : El) {M : Type 1} {𝓤 : Ura M} (𝓛 : Logic 𝓤) (b : ℕ) where
  open 𝓛 use {H}

  abbrev s : ℕ
  s = sz E

  abbrev one : ℕ → Slot E → Fml
  one o held = slot_owns (R E) b o held

  abbrev row : ℕ → List (Slot E) → Fml
  row o slots = slots_own (R E) b o slots

  leaves : (slots : List (Slot E)) (i o : ℕ) → i < length slots → ent 𝓤 (sem 𝓛 (row o slots)) (sep 𝓤 (sem 𝓛 (one (place s o i) (get_or slots i None))) (sem 𝓛 (besides E b o slots i)))
  leaves [] i o l = absurd (not-suc-le-zero l)
  leaves (held ∷ rest) zero o l = qed 𝓛 (‵ (row o (held ∷ rest)) ∷ []) ∵ fsplit ! $ done !
  leaves (held ∷ rest) (suc i) o l = qed 𝓛 (‵ (row o (held ∷ rest)) ∷ []) ∵ fsplit ! $ move ! (1 ∷ []) $
      use1 𝓛 (‵ (one (place s (o + s) i) (get_or rest i None)) ⊛ ‵ (besides E b (o + s) rest i)) (leaves rest i (o + s) (le_of_suc-le-suc l)) $ split ! $ frame ! $ move ! (1 ∷ 0 ∷ []) $ done !

  enters : (slots : List (Slot E)) (i o : ℕ) (held : Slot E) → i < length slots → ent 𝓤 (sep 𝓤 (sem 𝓛 (one (place s o i) held)) (sem 𝓛 (besides E b o slots i))) (sem 𝓛 (row o (set slots i held)))
  enters [] i o held l = absurd (not-suc-le-zero l)
  enters (was ∷ rest) zero o held l = qed 𝓛 (‵ (one o held) ∷ ‵ (row (o + s) rest) ∷ []) ∵ done !
  enters (was ∷ rest) (suc i) o held l = qed 𝓛 (‵ (one (place s (o + s) i) held) ∷ ‵ (besides E b o (was ∷ rest) (suc i)) ∷ []) ∵ move ! (1 ∷ []) $ fsplit ! $ move ! (2 ∷ 1 ∷ []) $
      use2 𝓛 (‵ (row (o + s) (set rest i held))) (enters rest i (o + s) held (le_of_suc-le-suc l)) $ move ! (1 ∷ 0 ∷ []) $ done !

  module _ (o : ℕ) (slots : List (Slot E)) (i : ℕ) (l : i < length slots) where
    pub slot_out : (held : Slot E) → get_or slots i None ≡ held → ent 𝓤 (sem 𝓛 (row o slots)) (sep 𝓤 (sem 𝓛 (one (i * s + o) held)) (sem 𝓛 (besides E b o slots i)))
    slot_out held is = qed 𝓛 (‵ (row o slots) ∷ []) ∵
        use1 𝓛 (‵ (one (place s o i) (get_or slots i None)) ⊛ ‵ (besides E b o slots i)) (leaves slots i o l) $ split ! $
        rewrite ! 0 (λ (at : ℕ × Slot E). ‵ (one at.0 at.1)) (λ j. (place_is s o i j, is j)) refl $ done !

    pub slot_in : (held : Slot E) → ent 𝓤 (sep 𝓤 (sem 𝓛 (one (i * s + o) held)) (sem 𝓛 (besides E b o slots i))) (sem 𝓛 (row o (set slots i held)))
    slot_in held = qed 𝓛 (‵ (one (i * s + o) held) ∷ ‵ (besides E b o slots i) ∷ []) ∵
        rewrite ! 0 (λ (at : ℕ). ‵ (one at held)) (sym (place_is s o i)) refl $ by ! (enters slots i o held l)

  pub tuple_out : (x : el_x E) (o : ℕ) → ent 𝓤 (sem 𝓛 (part_at (R E) full_share x b o)) (ex 𝓤 (λ (v : Val). guard 𝓤 (Good E v) (sep 𝓤 (H.at full_share (elτ E) b o v) (sem 𝓛 (E.row.own_val x (v ∷ []))))))
  tuple_out x o = qed 𝓛 (‵ (part_at (R E) full_share x b o) ∷ []) ∵
      use1 𝓛 (some (λ (v : Val). ‵ (fat full_share (elτ E) b o v) ⊛ ‵ (E.row.own_val x (v ∷ [])))) (part_out 𝓛 (R E) refl full_share x b o) $ pick ! (λ v. split ! $ move ! (1 ∷ []) $
      peeks ! (R E) (Is (R E)) (shows 𝓛 (R E)) x (v ∷ []) (λ is.
      show ! (λ (w : Val). guard 𝓤 (Good E w) (sep 𝓤 (H.at full_share (elτ E) b o w) (sem 𝓛 (E.row.own_val x (w ∷ []))))) v $ check ! ((lawful E 𝓛).typed x (v ∷ []) is).0 $ move ! (1 ∷ 0 ∷ []) $ done !))

  pub tuple_in : (x : el_x E) (o : ℕ) (v : Val) → ent 𝓤 (sep 𝓤 (H.at full_share (elτ E) b o v) (sem 𝓛 (E.row.own_val x (v ∷ [])))) (sem 𝓛 (part_at (R E) full_share x b o))
  tuple_in x o v = part_in 𝓛 (R E) refl full_share x b o v

  pub of_room : (n o : ℕ) → ent 𝓤 (H.room (ty_array (elτ E) n) b o) (sem 𝓛 (row o (replicate n None)))
  of_room zero o = qed 𝓛 (‵ (froom (ty_array (elτ E) 0) b o) ∷ []) ∵ keep ! [] $ done !
  of_room (suc n) o = qed 𝓛 (‵ (froom (ty_array (elτ E) (suc n)) b o) ∷ []) ∵
      use1 𝓛 (‵ (froom (elτ E) b o) ⊛ ‵ (froom (ty_array (elτ E) n) b (o + s))) (𝓛.laws.room_uncons (elτ E) n b o) $ split ! $
      use1 𝓛 (‵ (one o None)) (𝓛.laws.room-raw (elτ E) b o) $ frame ! $ by ! (of_room n (o + s))

  pub to_room : (n o : ℕ) → ent 𝓤 (sem 𝓛 (row o (replicate n None))) (H.room (ty_array (elτ E) n) b o)
  to_room zero o = 𝓛.laws.room_nil (elτ E) b o
  to_room (suc n) o = qed 𝓛 (‵ (one o None) ∷ ‵ (row (o + s) (replicate n None)) ∷ []) ∵
      use1 𝓛 (‵ (froom (elτ E) b o)) (𝓛.laws.raw-room (elτ E) b o) $ move ! (1 ∷ []) $
      use1 𝓛 (‵ (froom (ty_array (elτ E) n) b (o + s))) (to_room n (o + s)) $ move ! (1 ∷ []) $ by ! (𝓛.laws.room_cons (elτ E) n b o)

-- ---- the struct

module _ (E : El) {M : Type 1} {𝓤 : Ura M} {𝓛 : Logic 𝓤} {K : Type 0} {Γ : List (Item 𝓤)} {G : Goal 𝓤 𝓛.H} where
  pub slots_had : K → (d : slots_d E) (vs : List Val)
      → ((b o : ℕ) → d.ptr ≡ block_ptr b o → vs ≡ word (block_ptr b o) ∷ [] → length d.held * sz E < 2 ^ 63 → Seq K 𝓛 (‵ (slots_own (R E) b o d.held) ∷ Γ) G)
      → Seq K 𝓛 (‵ ((Sr E).own_val d vs) ∷ Γ) G
  slots_had t d vs k =
      fsplit t $ fpick t (λ vss. fsplit t $ feq_l t (λ all. fsplit t $ feq_l t (λ e. drop t $
      in_a_block t d.ptr (λ p. block_owns (R E) p d.held) (id⊢ 𝓤 (never 𝓤)) (λ b o at. fsplit t $ flt_l t (λ fit.
      k b o at (subst (λ (ws : List Val). vs ≡ vstruct (of_list (ws ++ [])) ∷ []) e all ∙ ap (λ (p : Ptr). word p ∷ []) at) fit)))))

  pub slots_made : K → (d : slots_d E) (b o : ℕ) → d.ptr ≡ block_ptr b o → length d.held * sz E < 2 ^ 63
      → Step K 𝓛 (‵ ((Sr E).own_val d (word (block_ptr b o) ∷ [])) ∷ Γ) G (‵ (slots_own (R E) b o d.held) ∷ Γ) G
  slots_made t d b o at fit = step (λ s.
      flt_i t (length d.held * sz E) (2 ^ 63) fit $ fjoin t $
      nothing t $ feq_i t (List Val) (vptr b o ∷ []) (vptr b o ∷ []) refl $ fjoin t $ feq_i t (List Val) (word (block_ptr b o) ∷ []) (word (block_ptr b o) ∷ []) refl $ fjoin t $
      fpack t (Valss (RawPtr ∷ [])) (within (shape (S.the_type (R E))) (block_ptr b o, tt) (word (block_ptr b o) ∷ [])) (vptr b o ∷ [], tt) $ fjoin t $
      rewrite t 0 (λ (p : Ptr). ‵ (fsep ((Pointer E).own_val (p, tt) (word (block_ptr b o) ∷ [])) (block_owns (R E) p d.held))) (sym at) refl $ s)

-- ---- behind a `&mut`

module _ (E : El) {M : Type 1} {𝓤 : Ura M} {𝓛 : Logic 𝓤} {K : Type 0} {Γ : List (Item 𝓤)} {G : Goal 𝓤 𝓛.H} where
  -- [the slots; the pointer's cell; the open borrow; what is observed; its authority]
  pub opened : K → Soaks G → {κ : Lft} {q : Share} {γ : GName} (d : slots_d E) (rb ro : ℕ)
      → ((b o : ℕ) → d.ptr ≡ block_ptr b o → length d.held * sz E < 2 ^ 63
      → Seq K 𝓛 (‵ (slots_own (R E) b o d.held) ∷ ‵ (cell_at full_share (Sr E).mir (word (block_ptr b o) ∷ []) rb ro) ∷ ‵ (fobor κ q (Body (mem (Sr E)) rb ro γ)) ∷ ‵ (fobs γ ((Sr E).coded.code d)) ∷ ‵ (fauth γ ((Sr E).coded.code d)) ∷ Γ) G)
      → Seq K 𝓛 (‵ (fobs γ ((Sr E).coded.code d)) ∷ ‵ (fbor κ (Body (mem (Sr E)) rb ro γ)) ∷ ‵ (flft κ q) ∷ Γ) G
  opened t z d rb ro k =
      opens t z (Sr E) {h = d} rb ro (λ vs. move t (1 ∷ []) $ slots_had E t d vs (λ b o at is fit.
      rewrite t 1 (λ (ws : List Val). ‵ (cell_at full_share (Sr E).mir ws rb ro)) is refl $ k b o at fit))

  pub closed : K → Soaks G → {κ : Lft} {q : Share} {u v : Gv} {γ : GName} (d : slots_d E) (b o rb ro : ℕ) → d.ptr ≡ block_ptr b o → length d.held * sz E < 2 ^ 63
      → Step K 𝓛 (‵ (fobs γ ((Sr E).coded.code d)) ∷ ‵ (fbor κ (Body (mem (Sr E)) rb ro γ)) ∷ ‵ (flft κ q) ∷ Γ) G
      (‵ (slots_own (R E) b o d.held) ∷ ‵ (cell_at full_share (Sr E).mir (word (block_ptr b o) ∷ []) rb ro) ∷ ‵ (fobor κ q (Body (mem (Sr E)) rb ro γ)) ∷ ‵ (fobs γ u) ∷ ‵ (fauth γ v) ∷ Γ) G
  closed t z d b o rb ro at fit = step (λ s. slots_made E t d b o at fit $ move t (1 ∷ 0 ∷ []) $ closes t z (Sr E) d (word (block_ptr b o) ∷ []) rb ro $ s)

-- ---- behind a `&`

module _ (E : El) {M : Type 1} {𝓤 : Ura M} (𝓛 : Logic 𝓤) (κ : Lft) where
  pub seen : (d : slots_d E) (b o : ℕ) → ent 𝓤 (sem 𝓛 (hidden_shr (Sr E) κ d b o)) (sep 𝓤 (sem 𝓛 (hidden_shr RawPtr κ d.ptr b (o + 0))) (sem 𝓛 (block_lends (R E) d.ptr d.held κ)))
  seen d b o = qed 𝓛 (‵ (hidden_shr (Sr E) κ d b o) ∷ []) ∵
      use1 𝓛 (‵ (hidden_shr (Pointer E) κ (d.ptr, tt) b o) ⊛ ‵ (fhide (S.the_lent (R E) d d.ptr κ))) (lent_out 𝓛 (S.struct (R E)) (S.the_codes (el_x E) (R E).coded) (S.the_heap (R E)) (S.the_lent (R E)) κ d b o) $ split ! $
      unhide ! $ fsplit ! $ fsplit ! $ keep ! (0 ∷ 3 ∷ []) $ done !

  from_on : (b : ℕ) (slots : List (Slot E)) (i o at : ℕ) → i ≤ length slots → at ≡ i * sz E + o → ent 𝓤 (sem 𝓛 (slots_lend (R E) b o slots κ)) (sem 𝓛 (slots_lend (R E) b at (drop_l i slots) κ))
  from_on b slots zero o at le e =
      let same : o ≡ at = omega (arith, zero-mul (sz E)) in
      subst (λ k. ent 𝓤 (sem 𝓛 (slots_lend (R E) b o slots κ)) (sem 𝓛 (slots_lend (R E) b k slots κ))) same (id⊢ 𝓤 _)
  from_on b [] (suc i) o at le e = absurd (omega arith)
  from_on b (held ∷ rest) (suc i) o at le e =
      via 𝓤 (sem 𝓛 (slots_lend (R E) b (o + sz E) rest κ)) (snd∗ 𝓤 (sem 𝓛 (slot_lends (R E) b o held κ)) (sem 𝓛 (slots_lend (R E) b (o + sz E) rest κ)))
      (from_on b rest i (o + sz E) at (omega arith) (omega (arith, suc-mul i (sz E))))

  up_to : (b : ℕ) (xs : List (el_x E)) (rest : List (Slot E)) (o : ℕ) → ent 𝓤 (sem 𝓛 (slots_lend (R E) b o (map Some xs ++ rest) κ)) (sem 𝓛 (elements_shared (R E) xs b o κ))
  up_to b [] rest o = qed 𝓛 (‵ (slots_lend (R E) b o rest κ) ∷ []) ∵ keep ! [] $ done !
  up_to b (x ∷ xs) rest o = mono_r 𝓤 (sem 𝓛 (slot_lends (R E) b o (Some x) κ)) (up_to b xs rest (o + sz E))

  pub run_seen : (b o : ℕ) (slots : List (Slot E)) (i n : ℕ) (xs : List (el_x E)) → i ≤ length slots → take n (drop_l i slots) ≡ map Some xs
      → ent 𝓤 (sem 𝓛 (slots_lend (R E) b o slots κ)) (sem 𝓛 (elements_shared (R E) xs b (i * sz E + o) κ))
  run_seen b o slots i n xs le e = qed 𝓛 (‵ (slots_lend (R E) b o slots κ) ∷ []) ∵ use1 𝓛 (‵ (slots_lend (R E) b (i * sz E + o) (drop_l i slots) κ)) (from_on b slots i o (i * sz E + o) le refl) $
      rewrite ! 0 (λ (l : List (Slot E)). ‵ (slots_lend (R E) b (i * sz E + o) l κ)) (sym (take-append-drop n (drop_l i slots)) ∙ ap (λ l. l ++ drop_l n (drop_l i slots)) e) refl $ by ! (up_to b xs (drop_l n (drop_l i slots)) (i * sz E + o))

-- ---- an `ensures` of two facts

module _ {M : Type 1} {𝓤 : Ura M} {𝓛 : Logic 𝓤} {K : Type 0} {Γ : List (Item 𝓤)} where
  pub says_both : K → {φ ψ : Type 0} {P : SProp 𝓤} → φ × ψ → Step K 𝓛 Γ (prop P) Γ (prop (sep 𝓤 P (sep 𝓤 (fact 𝓤 φ) (fact 𝓤 ψ))))
  says_both t {φ} {ψ} {P} both = step (λ s. record {
    prf = via 𝓤 P s.prf (qed 𝓛 (raw P ∷ []) {P = sep 𝓤 P (sep 𝓤 (fact 𝓤 φ) (fact 𝓤 ψ))} (
        frame ! $ use0 𝓛 (raw (fact 𝓤 ψ)) (fact_i 𝓤 ψ (emp 𝓤) both.1) $ use0 𝓛 (raw (fact 𝓤 φ)) (fact_i 𝓤 φ (emp 𝓤) both.0) $ done !));
  })
