-- What a call that hides rows of a table answers, and what it leaves.
use Rattle.std.proofs.Common.{◌≡◌, ◌≢◌, ◌<◌, ◌⊎◌, Bool, List, Some, IsSome, refl, length, inl, inr}
use Rattle.std.specs.Prelude.{Result, Ok, Err, IfErr, OnErr, OnOk}
use Rattle.std.specs.List.{All, AllPairs, slice_get}
use Rattle.std.specs.FinMap.{get}
use Rattle.std.proofs.lemmas.Result.{on_ok_weaker}
use Rattle.part_raw.specs.declared.tuple_ref.TupleRef.{TupleRef}
use Rattle.plain_tables.specs.Doing.{delete}
use Rattle.plain_tables.specs.Effects.{Refused}
use Rattle.plain_tables.specs.declared.numbers.TableNumber.{TableNumber}
use Rattle.plain_tables.specs.declared.refusal.Refusal.{Refusal}
use Rattle.plain_tables.specs.declared.refusal.Refusal.TheVariants.{NoMemory, RowIsReferenced}
use Rattle.plain_tables.specs.declared.value.Value.{Value}
use Rattle.mm_relation.specs.State.{RelationState}
use Rattle.mm_catalog.specs.State.{CatalogState}
use Rattle.mm_catalog.specs.Seen.{database_of}
use Rattle.mm_catalog.specs.Consistent.{IsConsistent}
use Rattle.mm_catalog.specs.Changes.{HasEffect}
use Rattle.mm_catalog.specs.Deleted.{AllFree, AnyReferenced}
use Rattle.mm_catalog.specs.Hidden.{AreHiddenAt}
use Rattle.mm_catalog.specs.Outline.{HasRowsHidden, outline_of}
use Rattle.mm_catalog.specs.Picked.{ArePicked}
use Rattle.mm_catalog.proofs.Deleting.{deleted_consistent, deleted_effect, deleted_refused}
use Rattle.mm_catalog.proofs.HiddenRows.{hidden_outlined}

module _ (c : CatalogState) (ok : IsConsistent c) (n : TableNumber) (refs : List TupleRef) (relations : List RelationState) (held : (s : RelationState) → slice_get c.relations n.0 ≡ Some s → All (λ r. IsSome (get s.rows r)) refs) (once : AllPairs (λ q r. q ≢ r) refs) where
  pub hidden_consistent : {A E : Type 0} (r : Result A E) → OnOk r (AllFree c.relations n.0 refs) → OnOk r (AreHiddenAt c.relations relations n.0 refs) → OnErr r (relations ≡ c.relations) → IsConsistent (record c { relations = relations })
  hidden_consistent r free hidden = deleted_consistent c ok n refs relations held once r free (on_ok_weaker r (λ (h : AreHiddenAt c.relations relations n.0 refs). h.deleted) hidden)

  pub hidden_effect : {A E : Type 0} (r : Result A E) → OnOk r (AllFree c.relations n.0 refs) → OnOk r (AreHiddenAt c.relations relations n.0 refs)
      → OnOk r ((picks : List Value → Bool) → ArePicked c n.0 refs picks → HasEffect c (record c { relations = relations }) (delete (database_of c) n picks) (length refs))
  hidden_effect r free hidden = deleted_effect c ok n refs relations held once r free (on_ok_weaker r (λ (h : AreHiddenAt c.relations relations n.0 refs). h.deleted) hidden)

  pub hidden_outline : {A E : Type 0} (r : Result A E) → OnOk r (AllFree c.relations n.0 refs) → OnOk r (AreHiddenAt c.relations relations n.0 refs) → OnOk r (HasRowsHidden (outline_of c) (outline_of (record c { relations = relations })) n.0 refs)
  hidden_outline (Ok u) free h = hidden_outlined c (record c { relations = relations }) n.0 refs h refl free (held h.deleted.before h.deleted.there) once
  hidden_outline (Err e) free h = tt

  pub hidden_refused : {A : Type 0} (r : Result A Refusal) → (n.0 < length c.relations) → IfErr r (λ refusal. (refusal ≡ NoMemory) ⊎ ((refusal ≡ RowIsReferenced) × AnyReferenced c.relations n.0 refs))
      → IfErr r (λ refusal. (refusal ≡ NoMemory) ⊎ ((picks : List Value → Bool) → ArePicked c n.0 refs picks → (delete (database_of c) n picks).outcome ≡ Refused refusal))
  hidden_refused (Ok u) within told = tt
  hidden_refused (Err e) within (inl memory) = inl memory
  hidden_refused {A} (Err e) within (inr named) = inr (deleted_refused c ok n refs relations held once {A = A} (Err e) within named)
