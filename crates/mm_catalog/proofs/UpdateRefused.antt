-- What an update of rows beside others says of all relations.
use Rattle.std.proofs.Common.{◌≡◌, ℕ, List, Option, Some, ◌++◌, set, drop, ap, sym, ◌∙◌, subst, take, inl}
use Rattle.std.specs.List.{slice_get}
use Rattle.std.specs.Prelude.{Result, Ok, Err, IfErr, OnOk}
use Rattle.part_raw.specs.declared.tuple_ref.TupleRef.{TupleRef}
use Rattle.plain_tables.specs.declared.refusal.Refusal.{Refusal}
use Rattle.plain_tables.specs.declared.refusal.Refusal.TheVariants.{NoMemory}
use Rattle.plain_tables.specs.declared.resolved.Assignment.{Assignment}
use Rattle.mm_relation.specs.State.{RelationState}
use Rattle.mm_catalog.specs.Assigned.{AreNotSet, IsNotUpdated, IsUpdated, StandsIn}
use Rattle.mm_catalog.specs.State.{CatalogState}

pub not_set_for_memory : {A : Type 0} (front : List RelationState) (targets : List (Option ℕ)) (assignments : List Assignment) (r : Result A Refusal) → IfErr r (λ e. e ≡ NoMemory) → IfErr r (AreNotSet front targets assignments)
not_set_for_memory front targets assignments (Ok x) h = tt
not_set_for_memory front targets assignments (Err e) h = inl h

pub not_set : {A : Type 0} (relations : List RelationState) (n : ℕ) (s : RelationState) (assignments : List Assignment) → slice_get relations n ≡ Some s
    → (r : Result A Refusal) (front : List RelationState) → front ≡ take n relations → IfErr r (AreNotSet front s.targets assignments) → IfErr r (IsNotUpdated relations n assignments)
not_set relations n s assignments there (Ok x) front same h = tt
not_set relations n s assignments there (Err e) front same h = (s, there, subst (λ rs. AreNotSet rs s.targets assignments e) same h)

-- rows that are set beside the relations before theirs are set among all
pub updated_there : {A : Type 0} (r : Result A Refusal) (k : CatalogState) (n : ℕ) (relations front rest : List RelationState) (s : RelationState) (now : List RelationState) (a : RelationState) (rows : List TupleRef) (assignments : List Assignment)
    → StandsIn k n front s → k.relations ≡ relations → rest ≡ drop n relations
    → OnOk r ((c : CatalogState) (m : ℕ) → StandsIn c m front s → IsUpdated c.relations (now ++ set (drop m c.relations) 0 a) m rows assignments)
    → OnOk r (IsUpdated relations (now ++ set rest 0 a) n rows assignments)
updated_there (Ok x) k n relations front rest s now a rows assignments stands same behind h =
    subst (λ rs. IsUpdated rs (now ++ set rest 0 a) n rows assignments) same
    (subst (λ rs. IsUpdated k.relations (now ++ set rs 0 a) n rows assignments) (ap (drop n) same ∙ sym behind) (h k n stands))
updated_there (Err e) k n relations front rest s now a rows assignments stands same behind h = tt
