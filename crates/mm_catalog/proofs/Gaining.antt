-- Relations that are as they were, but that some keep the numbers of their rows' referrers now.
use Rattle.std.proofs.Common.{◌≡◌, ℕ, ◌+◌, ◌<◌, Bool, true, false, List, Some, refl, sym, ap, ◌∙◌, subst, arith, length, map, set, get_or, length-set, inl, inr}
use Rattle.std.specs.List.{slice_get}
use Rattle.std.specs.Prelude.{Result, Ok, Err, OnOk}
use Rattle.std.proofs.lemmas.Bool.{cases_eq}
use Rattle.std.proofs.lemmas.List.{get_or_default, get_or-set_same, set-set, set-get_or}
use Rattle.std.proofs.lemmas.Result.{on_ok_weaker}
use Rattle.std.proofs.lemmas.Option.{same_Some, slice_get_within}
use Rattle.common_lemmas.proofs.Places.{slice_get-inside, slice_get_set, slice_get-set_other}
use Rattle.plain_tables.specs.References.{IsSound}
use Rattle.mm_relation.specs.Reading.{Keys}
use Rattle.mm_relation.specs.State.{RelationState, IsKept, IsCurrent, linked_keys}
use Rattle.mm_catalog.specs.State.{CatalogState}
use Rattle.mm_catalog.specs.Seen.{database_of, table_of, plain_index}
use Rattle.mm_catalog.specs.Linked.{target_at}
use Rattle.mm_catalog.specs.Created.{aimed_relation, GainsCounts, GainCounts, LeadIntoCountedFrom}
use Rattle.mm_catalog.specs.Consistent.{IsConsistent}
use Rattle.mm_catalog.proofs.Among.{among_at}
use Rattle.mm_catalog.proofs.Lists.{map-zip-all}
use Rattle.plain_tables.specs.Doing.{done}
use Rattle.plain_tables.specs.ResolvedLaws.{IsDeclarable}
use Rattle.plain_tables.specs.declared.schema.Schema.{Schema}
use Rattle.plain_tables.specs.declared.resolved.Resolved.TheVariants as resolved
use Rattle.mm_catalog.specs.Changes.{IsDone}
use Rattle.mm_catalog.specs.Counted.{LeadIntoCounted}
use Rattle.mm_catalog.proofs.Created.{grown, consistent_more, done_more}
use Rattle.mm_catalog.proofs.Outlines.{outline}
use Rattle.mm_catalog.proofs.Alike.{AreAlike, table_alike, consistent_alike}

-- ---- one after another

abbrev pub with_counts : RelationState → RelationState
with_counts s = record s { counted = true }

pub gains_first : (old new : List RelationState) (n : ℕ) (s : RelationState) → slice_get old n ≡ Some s → GainCounts (set old n (with_counts s)) new → GainCounts old new
gains_first old new n s there h = record {
  count = h.count ∙ length-set old n (with_counts s);
  each = λ k u t at here. elim (cases_eq k n) [
    | inl e ↦
        let is : s ≡ u = same_Some s u (sym there ∙ ap (slice_get old) (sym e) ∙ at) in
        let mid : slice_get (set old n (with_counts s)) k ≡ Some (with_counts s) = ap (slice_get (set old n (with_counts s))) e ∙ slice_get_set old n (with_counts s) (slice_get_within old n s there) in
        let gained = h.each k (with_counts s) t mid here in
        subst (λ v. GainsCounts v t) is (record { same = gained.same; still = λ counted. gained.still refl })
    | inr other ↦ h.each k u t (slice_get-set_other old n k (with_counts s) other ∙ at) here
  ];
}

-- the table of one column more keeps them
pub led_next : (old new : List RelationState) (n column : ℕ) (s : RelationState) (targets : List _) → slice_get old n ≡ Some s → target_at targets column ≡ Some n → GainCounts (set old n (with_counts s)) new
    → LeadIntoCountedFrom (column + 1) new targets → LeadIntoCountedFrom column new targets
led_next old new n column s targets there leads h behind k table t first e at = elim (cases_eq k column) [
  | inl same ↦
      let is : n ≡ table = same_Some n table (sym leads ∙ ap (target_at targets) (sym same) ∙ e) in
      let mid : slice_get (set old n (with_counts s)) n ≡ Some (with_counts s) = slice_get_set old n (with_counts s) (slice_get_within old n s there) in
      (h.each n (with_counts s) t mid (ap (slice_get new) is ∙ at)).still refl
  | inr other ↦ behind k table t (omega (arith, first, other)) e at
]

-- both, where a call says them of its success
pub gains_when : {A E : Type 0} (old new : List RelationState) (n : ℕ) (s : RelationState) (r : Result A E) → slice_get old n ≡ Some s → OnOk r (GainCounts (set old n (with_counts s)) new) → OnOk r (GainCounts old new)
gains_when old new n s r there h = on_ok_weaker r (gains_first old new n s there) h

pub led_when : {A E : Type 0} (old new : List RelationState) (n column : ℕ) (s : RelationState) (targets : List _) (r : Result A E) → slice_get old n ≡ Some s → target_at targets column ≡ Some n → OnOk r (GainCounts (set old n (with_counts s)) new)
    → OnOk r (LeadIntoCountedFrom (column + 1) new targets) → OnOk r (LeadIntoCountedFrom column new targets)
led_when old new n column s targets (Ok x) there leads h behind = led_next old new n column s targets there leads h behind
led_when old new n column s targets (Err e) there leads h behind = tt

-- a relation that kept none keeps none again
pub undone : (old mid : List RelationState) (n : ℕ) (d e f kept new : RelationState) → n < length old → (get_or old n d).counted ≡ false → kept ≡ with_counts (get_or old n e) → mid ≡ set old n kept
    → new ≡ record (get_or mid n f) { counted = false } → set mid n new ≡ old
undone old mid n d e f kept new within uncounted is_kept is_mid is_new =
    let was = get_or old n e in
    let none : false ≡ was.counted = sym (ap (λ (r : RelationState). r.counted) (get_or_default old n e d within) ∙ uncounted) in
    let third : get_or mid n f ≡ with_counts was = ap (λ (l : List RelationState). get_or l n f) is_mid ∙ get_or-set_same old n kept f within ∙ is_kept in
    let again : new ≡ was = is_new ∙ ap (λ (r : RelationState). record r { counted = false }) third ∙ (λ i. record was { counted = none i }) in
    (λ i. set (is_mid i) n (again i)) ∙ set-set old n kept was ∙ set-get_or old n e

-- ---- a catalog of such relations

pub kept_with : (s : RelationState) (b : Bool) → IsKept s → IsKept (record s { counted = b })
kept_with s b kept = record { keyed = kept.keyed; few = kept.few; width = kept.width; trees = kept.trees; hashes = kept.hashes; within = kept.within }

pub current_with : (keys : Keys) (s : RelationState) (b : Bool) → IsCurrent keys s → IsCurrent keys (record s { counted = b })
current_with keys s b current = record { readable = current.readable; trees = current.trees; hashes = current.hashes }

module _ (c : CatalogState) (ok : IsConsistent c) (mid : List RelationState) (h : GainCounts c.relations mid) where
  abbrev pub gained : CatalogState
  gained = record c { relations = mid }

  all_alike : AreAlike c.relations mid
  all_alike = record {
    count = h.count;
    each = λ k s t at here.
        let gained = h.each k s t at here in
        record { schema = ap (λ (u : RelationState). u.schema) gained.same; outline = ap outline gained.same; referrers = ap (λ (u : RelationState). u.referrers) gained.same; counted = gained.still };
  }

  pub database_gained : database_of gained ≡ database_of c
  unfolding database_of table_of
  database_gained =
      map-zip-all (λ (t : List ℕ × RelationState). table_of c.relations t.0 t.1) (λ (t : List ℕ × RelationState). table_of mid t.0 t.1) c.names c.relations mid h.count
      (λ k name s t named at here. table_alike c ok mid all_alike k name s t at here ∙ ap (λ (u : RelationState). record (table_of c.relations name s) { indexes = map plain_index u.declared }) (h.each k s t at here).same)

  still : (k : ℕ) (t : RelationState) → slice_get mid k ≡ Some t → IsKept t × IsCurrent (linked_keys t.targets c.relations) t
  still k t at =
      let s = slice_get-inside c.relations k (omega (arith, h.count, slice_get_within mid k t at)) in
      let a = among_at c ok k s.0 s.1 in
      subst (λ (u : RelationState). IsKept u × IsCurrent (linked_keys u.targets c.relations) u) (sym (h.each k s.0 t s.1 at).same) (kept_with s.0 t.counted a.kept, current_with (linked_keys s.0.targets c.relations) s.0 t.counted a.current)

  pub consistent_gained : IsConsistent gained
  consistent_gained = consistent_alike c ok mid all_alike still (subst (IsSound c.limits) (sym database_gained) ok.sound)

  -- ---- and one table more

  module _ (name : List ℕ) (schema : Schema) (kept : IsKept (aimed_relation c.names schema)) (meant : IsDeclarable c.limits (database_of c) name schema) (counts : LeadIntoCounted mid (aimed_relation c.names schema).targets) where
    still_meant : IsDeclarable c.limits (database_of gained) name schema
    still_meant = subst (λ tables. IsDeclarable c.limits tables name schema) (sym database_gained) meant

    pub consistent_created : IsConsistent (grown gained consistent_gained name schema)
    consistent_created = consistent_more gained consistent_gained name schema kept still_meant counts

    pub done_created : IsDone c (grown gained consistent_gained name schema) (resolved.Table name schema)
    done_created =
        let left = done_more gained consistent_gained name schema kept still_meant counts in
        record { database = left.database ∙ ap (λ tables. (done c.limits tables (resolved.Table name schema)).database) database_gained; limits = refl }
