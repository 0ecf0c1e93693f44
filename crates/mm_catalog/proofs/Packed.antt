-- The cells of a row, packed one by one, its key's the first.
use Rattle.std.proofs.Common.{◌≡◌, ℕ, zero, suc, ◌+◌, ◌<◌, ◌≤◌, List, [], ◌∷◌, ◌++◌, Option, Some, None, refl, sym, ap, ◌∙◌, subst, arith, length, inl, inr}
use Rattle.std.specs.List.{slice_get}
use Rattle.std.proofs.lemmas.Bool.{cases_lt, false≢true}
use Rattle.std.proofs.lemmas.Option.{none-some, same_Some}
use Rattle.std.specs.Prelude.{Result, IfErr}
use Rattle.std.proofs.lemmas.Result.{IfErr-weaker}
use Rattle.common_lemmas.proofs.Places.{slice_get-front, slice_get-last}
use Rattle.plain_tables.specs.declared.refusal.Refusal.{Refusal}
use Rattle.plain_tables.specs.declared.refusal.Refusal.TheVariants.{NoMemory}
use Rattle.plain_tables.specs.declared.value.Value.{Value}
use Rattle.mm_relation.specs.Rows.{StartsWithKey, row_of}
use Rattle.mm_relation.specs.declared.row.Cell.{Cell}
use Rattle.mm_relation.specs.declared.row.Cell.TheVariants.{Held, Link}
use Rattle.mm_relation.specs.State.{RelationState, HasKey}
use Rattle.mm_catalog.specs.Cells.{IsCellOf, AreRowCells, NamesNone, led_to}
use Rattle.mm_catalog.specs.Inserted.{IsKeptOut, IsNotNamed, key_there, no_memory, none_named}
use Rattle.mm_catalog.specs.Linked.{target_at}

-- the cells of the first of these values
abbrev pub AreFirst : List RelationState → List (Option ℕ) → List Value → List Cell → Type 0
AreFirst relations targets values cells =
    (k : ℕ) (value : Value) (cell : Cell) → slice_get values k ≡ Some value → slice_get cells k ≡ Some cell → IsCellOf relations (led_to targets k) value cell

module _ (relations : List RelationState) (targets : List (Option ℕ)) where
  pub first_none : (values : List Value) → AreFirst relations targets values []
  first_none values zero value cell v c = absurd (none-some cell c)
  first_none values (suc k) value cell v c = absurd (none-some cell c)

  pub first_more : (values : List Value) (cells : List Cell) (value : Value) (cell : Cell) → AreFirst relations targets values cells → slice_get values (length cells) ≡ Some value → IsCellOf relations (led_to targets (length cells)) value cell → AreFirst relations targets values (cells ++ cell ∷ [])
  first_more values cells value cell first at is k v c e f =
      elim (cases_lt k (length cells)) [
        | inl below ↦ first k v c e (sym (slice_get-front cells (cell ∷ []) k below) ∙ f)
        | inr above ↦
            let same : cell ≡ c = slice_get-last cells cell k c above f in
            let last : k ≡ length cells = last_place cells cell k c above f in
            let named : value ≡ v = same_Some value v (sym at ∙ ap (slice_get values) (sym last) ∙ e) in
            subst (λ n. IsCellOf relations (led_to targets n) v c) (sym last)
            (subst (λ w. IsCellOf relations (led_to targets (length cells)) w c) named
            (subst (IsCellOf relations (led_to targets (length cells)) value) same is))
      ]
    where
      last_place : (xs : List Cell) (x : Cell) (k : ℕ) (y : Cell) → length xs ≤ k → slice_get (xs ++ x ∷ []) k ≡ Some y → k ≡ length xs
      last_place [] x zero y above f = refl
      last_place [] x (suc k) y above f = absurd (none-some y f)
      last_place (z ∷ xs) x zero y above f = absurd (omega arith)
      last_place (z ∷ xs) x (suc k) y above f = ap suc (last_place xs x k y (omega arith) f)

  -- the key holds itself
  pub held_key : (key : Value) → IsCellOf relations None key (Held key)
  held_key key = record { read = refl; linked = λ v some e. absurd (false≢true some) }

  key_cell : (key : Value) (c : Cell) → IsCellOf relations None key c → c ≡ Held key
  key_cell key (Held v) h = ap Held (same_Some v key h.read)
  key_cell key (Link to) h = absurd (none-some key h.read)

  pub key_first : (key : Value) (rest : List Value) (cells : List Cell) → AreFirst relations targets (key ∷ rest) cells → 0 < length cells → (behind : List Cell) × (cells ≡ Held key ∷ behind)
  key_first key rest [] first some = absurd (omega arith)
  key_first key rest (c ∷ cells) first some = (cells, ap (λ x. x ∷ cells) (key_cell key c (first zero key c refl refl)))

  pub starts : (values : List Value) (cells : List Cell) → AreFirst relations targets values cells → 0 < length values → 0 < length cells → StartsWithKey cells
  starts [] cells first some there = absurd (omega arith)
  starts (key ∷ rest) cells first some there =
      let start = key_first key rest cells first there in
      (key, start.0, start.1)

  packed : (key : Value) (rest : List Value) (cells : List Cell) → AreFirst relations targets (key ∷ rest) cells → length cells ≡ length (key ∷ rest) → AreRowCells relations targets key rest cells
  packed key rest [] first count = absurd (omega (arith, count))
  packed key rest (c ∷ cells) first count = record {
    behind = cells;
    split = ap (λ x. x ∷ cells) (key_cell key c (first zero key c refl refl));
    are = record {
      count = omega (arith, count);
      each = λ k value cell v d.
          let next : suc k ≡ k + 1 = omega arith in
          subst (λ n. IsCellOf relations (target_at targets n) value cell) next (first (suc k) value cell v d);
    };
  }

  pub row_packed : (values : List Value) (cells : List Cell) → AreFirst relations targets values cells → length cells ≡ length values → (key : Value) (rest : List Value) → values ≡ key ∷ rest → AreRowCells relations targets key rest cells
  row_packed values cells first count key rest split =
      packed key rest cells (subst (λ vs. AreFirst relations targets vs cells) split first) (count ∙ ap length split)

-- a value with no cell keeps its row out
kept_out_at : (relations : List RelationState) (s : RelationState) (most : ℕ) (key : Value) (rest : List Value) (cells : List Cell) (value : Value) (refusal : Refusal) → AreFirst relations s.targets (key ∷ rest) cells → slice_get (key ∷ rest) (length cells) ≡ Some value → IsNotNamed relations s cells value refusal → IsKeptOut relations s most key rest refusal
kept_out_at relations s most key rest [] value refusal first at none = absurd (omega (arith, none.0))
kept_out_at relations s most key rest (c ∷ cells) value refusal first at none =
    let start = key_first relations s.targets key rest (c ∷ cells) first none.0 in
    let same : (row_of (c ∷ cells)).key ≡ key = ap (λ cs. (row_of cs).key) start.1 in
    elim none.1 [
      | inl held ↦ subst (IsKeptOut relations s most key rest) (sym held.1) (key_there (subst (HasKey s.rows) same held.0))
      | inr new ↦
          let next : suc (length cells) ≡ length cells + 1 = omega arith in
          subst (IsKeptOut relations s most key rest) (sym new.1)
          (none_named (λ h. new.0 (subst (HasKey s.rows) (sym same) h))
          (length cells, value, at, subst (λ n. NamesNone relations (target_at s.targets n) value) next new.2))
    ]

-- why the row of these values is refused, where a call is
module _ {X : Type 0} (relations : List RelationState) (s : RelationState) (values : List Value) (r : Result X Refusal) where
  abbrev IsRefusedSo : Refusal → Type 0
  IsRefusedSo e = (most : ℕ) (key : Value) (rest : List Value) → values ≡ key ∷ rest → IsKeptOut relations s most key rest e

  pub kept_out_by : (cells lent : List Cell) (value : Value) → AreFirst relations s.targets values cells → slice_get values (length cells) ≡ Some value → lent ≡ cells
      → IfErr r (IsNotNamed relations s lent value) → IfErr r IsRefusedSo
  kept_out_by cells lent value first at same =
      IfErr-weaker r (IsNotNamed relations s lent value) IsRefusedSo
      (λ e none most key rest split.
      kept_out_at relations s most key rest cells value e (subst (λ vs. AreFirst relations s.targets vs cells) split first) (sym (ap (λ vs. slice_get vs (length cells)) split) ∙ at)
      (subst (λ cs. IsNotNamed relations s cs value e) same none))

  pub kept_out_for_memory : IfErr r (λ e. e ≡ NoMemory) → IfErr r IsRefusedSo
  kept_out_for_memory = IfErr-weaker r (λ e. e ≡ NoMemory) IsRefusedSo (λ e is most key rest split. subst (IsKeptOut relations s most key rest) (sym is) no_memory)
