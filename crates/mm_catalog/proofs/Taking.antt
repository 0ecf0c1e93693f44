-- The steps by which a row comes into a relation.
use Rattle.std.proofs.Common.{◌≡◌, ◌<◌, List, [], ◌∷◌, ◌++◌, Some, None, ◌⊎◌, refl, sym, ap, ◌∙◌, subst, arith, length, get_or, set, inl, inr, take, drop, ℕ}
use Rattle.std.specs.Prelude.{Result, Ok, Err, IfOk, IfErr}
use Rattle.std.specs.List.{slice_get}
use Rattle.std.specs.FinMap.{get}
use Rattle.std.proofs.lemmas.Result.{IfErr-weaker, IfOk-weaker}
use Rattle.part_raw.specs.declared.tuple_ref.TupleRef.{TupleRef}
use Rattle.part_raw.proofs.Tuples.{get-insert_same}
use Rattle.plain_tables.specs.declared.refusal.Refusal.{Refusal}
use Rattle.plain_tables.specs.declared.refusal.Refusal.TheVariants.{KeyExists}
use Rattle.plain_tables.specs.declared.value.Value.{Value}
use Rattle.mm_relation.specs.Rows.{Row}
use Rattle.mm_relation.specs.Changes.{IsInserted, new_row}
use Rattle.mm_relation.specs.State.{RelationState, HasKey}
use Rattle.mm_catalog.proofs.Lists.{first_behind}
use Rattle.mm_catalog.specs.Inserted.{CanComeIn, CannotComeIn, IsInsertedAt, IsInsertedBeside, IsKeptOut, IsRefusedAt, IsTakenIn, key_there}
use Rattle.mm_catalog.specs.Standing.{Stands, StandsBeside}

-- a list by its first element and the others
pub some_first : (values : List Value) → 0 < length values → (key : Value) × (rest : List Value) × (values ≡ key ∷ rest)
some_first [] some = absurd (omega arith)
some_first (v ∷ values) some = (v, values, refl)

-- Where a row whose key is new is kept out for some reason, a row is kept out for that reason or for its key.
pub kept_out_for : (relations : List RelationState) (s : RelationState) (most : _) (key : Value) (rest : List Value) (refusal reason : Refusal) → (HasKey s.rows key × (refusal ≡ KeyExists None)) ⊎ ((HasKey s.rows key → ⊥) × (refusal ≡ reason)) → ((HasKey s.rows key → ⊥) → IsKeptOut relations s most key rest reason) → IsKeptOut relations s most key rest refusal
kept_out_for relations s most key rest refusal reason (inl held) otherwise = subst (IsKeptOut relations s most key rest) (sym held.1) (key_there held.0)
kept_out_for relations s most key rest refusal reason (inr new) otherwise = subst (IsKeptOut relations s most key rest) (sym new.1) (otherwise new.0)

-- the row that came in is held
pub row_here : (old new : RelationState) (r : TupleRef) (row : Row) → IsInserted old new r row → get new.rows r ≡ Some row
row_here old new r row h = ap (λ m. get m r) h.rows ∙ get-insert_same old.rows r row

-- the relation of a number, where the list is split at it
pub split_here : (old back : List RelationState) (n : ℕ) (d : RelationState) → n < length old → back ≡ drop n old → slice_get old n ≡ Some (get_or back 0 d)
split_here old back n d within e = first_behind old n d within ∙ ap (λ rs. Some (get_or rs 0 d)) (sym e)

-- a list of relations that is split at one
pub record IsSplit (relations : List RelationState) (n : ℕ) (before back : List RelationState) (s : RelationState) : Type 0 where
  pub first : before ≡ take n relations
  pub behind : back ≡ drop n relations
  pub there : slice_get relations n ≡ Some s

pub stands_beside : (relations : List RelationState) (n : ℕ) (before back : List RelationState) (s : RelationState) → IsSplit relations n before back s → Stands relations n → StandsBeside before s
stands_beside relations n before back s at stands = subst (λ rs. StandsBeside rs s) (sym at.first) (stands s at.there)

-- what two facts say together of what a call gave
pub IfOk-both : {T E : Type 0} (r : Result T E) (P Q R : T → Type 0) → ((x : T) → P x → Q x → R x) → IfOk r P → IfOk r Q → IfOk r R
IfOk-both (Ok x) P Q R joined p q = joined x p q
IfOk-both (Err e) P Q R joined p q = tt

-- what is told of a relation and those before it, told of the list that was split there
module _ (relations : List RelationState) (n most : ℕ) (values : List Value) (before back : List RelationState) (s : RelationState) (at : IsSplit relations n before back s) (some : 0 < length values) where
  abbrev start : (key : Value) × (rest : List Value) × (values ≡ key ∷ rest)
  start = some_first values some

  refused_at : (refusal : Refusal) → IsKeptOut before s most start.0 start.1 refusal → IsRefusedAt relations n most values refusal
  refused_at refusal why = record {
    relation = s;
    there = at.there;
    row = subst (λ rs. CannotComeIn rs s most values refusal) at.first (record { key = start.0; rest = start.1; split = start.2; why = why });
  }

  pub refused_so : {X : Type 0} (r : Result X Refusal) → ((key : Value) (rest : List Value) → values ≡ key ∷ rest → IfErr r (IsKeptOut before s most key rest)) → IfErr r (IsRefusedAt relations n most values)
  refused_so r why = IfErr-weaker r (IsKeptOut before s most start.0 start.1) (IsRefusedAt relations n most values) refused_at (why start.0 start.1 start.2)

  pub kept_out_so : {X : Type 0} (r : Result X Refusal) → IfErr r (λ refusal. (m : ℕ) (key : Value) (rest : List Value) → values ≡ key ∷ rest → IsKeptOut before s m key rest refusal) → IfErr r (IsRefusedAt relations n most values)
  kept_out_so (Ok x) why = tt
  kept_out_so (Err refusal) why = refused_at refusal (why most start.0 start.1 start.2)

  pub inserted_so : (front : List RelationState) (new : RelationState) (r : Result TupleRef Refusal) → ((key : Value) (rest : List Value) → values ≡ key ∷ rest → IfOk r (IsInsertedBeside before front s new most key rest))
      → IfOk r (IsInsertedAt relations (front ++ set back 0 new) n most values)
  inserted_so front new r told =
      IfOk-weaker r (IsInsertedBeside before front s new most start.0 start.1) (IsInsertedAt relations (front ++ set back 0 new) n most values)
      (λ q h. record {
        before = s;
        after = new;
        front = front;
        key = start.0;
        cells = h.cells;
        there = at.there;
        list = ap (λ rs. front ++ set rs 0 new) at.behind;
        row = subst (λ rs. CanComeIn rs s most values start.0 h.cells) at.first (record { rest = start.1; split = start.2; fresh = h.fresh; cells = h.are; room = h.room });
        taken = subst (λ rs. IsTakenIn rs front s new q (new_row start.0 h.cells)) at.first h.taken;
      })
      (told start.0 start.1 start.2)
