-- Outlines of a catalog of which one table has an index more, or an index less.
use Rattle.std.proofs.Common.{◌≡◌, ◌&&◌, ℕ, Bool, true, false, cond, List, [], ◌∷◌, ◌++◌, Some, refl, sym, ap, ◌∙◌, subst, map, set}
use Rattle.std.specs.List.{Contains, list_any, slice_get}
use Rattle.std.specs.Option.{option_map}
use Rattle.std.specs.Prelude.{Result, OnOk}
use Rattle.std.proofs.lemmas.Bool.{eq-eqb, or_parts}
use Rattle.std.proofs.lemmas.List.{map-set, set-set}
use Rattle.std.proofs.lemmas.List.Elements.{Contains-push}
use Rattle.std.proofs.lemmas.Option.{slice_get-map, slice_get_within}
use Rattle.std.proofs.lemmas.Result.{on_ok_weaker}
use Rattle.common_lemmas.proofs.Places.{set_itself, slice_get_set}
use Rattle.common_lemmas.proofs.Tests.{list_any-map}
use Rattle.plain_tables.specs.References as plain
use Rattle.plain_tables.specs.ResolvedLaws.{IsMeant}
use Rattle.plain_tables.specs.Tables.{Table}
use Rattle.plain_tables.specs.declared.numbers.ColumnNumber.{ColumnNumber}
use Rattle.plain_tables.specs.declared.numbers.TableNumber.{TableNumber}
use Rattle.plain_tables.specs.declared.resolved.Resolved.TheVariants as resolved
use Rattle.plain_tables.specs.declared.schema.IndexKind.{IndexKind}
use Rattle.plain_tables.specs.declared.schema.IndexKind.TheVariants.{Tree, Hash}
use Rattle.mm_relation.specs.Declaring.{IsDeclared, IsDeclaredOf, declaration, is_index, without_first, without_index}
use Rattle.mm_relation.specs.State.{RelationState}
use Rattle.mm_relation.specs.declared.numbers.DeclaredIndex.{DeclaredIndex}
use Rattle.mm_catalog.specs.Changes.{IsChangedAt}
use Rattle.mm_catalog.specs.Consistent.{IsConsistent}
use Rattle.mm_catalog.specs.Declarations.{HasIndexMore, undeclared, without_declared}
use Rattle.mm_catalog.specs.Outline.{RelationOutline, outline_of, relation_outline}
use Rattle.mm_catalog.specs.Seen.{database_of, plain_index, table_of}
use Rattle.mm_catalog.specs.State.{CatalogState}
use Rattle.mm_catalog.proofs.Among.{named_at, table_at}
use Rattle.mm_catalog.proofs.Declared.{same_tests}
use Rattle.mm_catalog.proofs.Outlined.{changed_here}
use Rattle.mm_catalog.proofs.ShownAgain.{with_other}

-- ---- the declared indexes

-- where none before it passes, the last is the first that does
without_first-push : {A : Type 0} (p : A → Bool) (xs : List A) (x : A) → p x ≡ true → list_any p xs ≡ false → without_first p (xs ++ x ∷ []) ≡ xs
without_first-push p [] x passes none = ap (λ b. cond b [] (x ∷ [])) passes
without_first-push p (y ∷ ys) x passes none =
    let parts = or_parts (p y) (list_any p ys) none in
    ap (λ b. cond b (ys ++ x ∷ []) (y ∷ without_first p (ys ++ x ∷ []))) parts.0 ∙ ap (λ zs. y ∷ zs) (without_first-push p ys x passes parts.1)

index_itself : (column : ColumnNumber) (k : IndexKind) → is_index (declaration column k) (declaration column k) ≡ true
index_itself column Tree = ap (λ b. b && true) (eq-eqb column.0 column.0 refl)
index_itself column Hash = ap (λ b. b && true) (eq-eqb column.0 column.0 refl)

declared_outline : (k : IndexKind) (column : ColumnNumber) (s t : RelationState) → IsDeclaredOf k column s t
    → relation_outline t ≡ record (relation_outline s) { declared = s.declared ++ declaration column k ∷ [] }
declared_outline Tree column s t h = ap relation_outline h.1
declared_outline Hash column s t h = ap relation_outline h.2

undeclared_outline : (k : IndexKind) (column : ColumnNumber) (s : RelationState) → relation_outline (without_index s (declaration column k)) ≡ undeclared (declaration column k) (relation_outline s)
undeclared_outline Tree column s = refl
undeclared_outline Hash column s = refl

-- ---- one relation is another one

module _ (c : CatalogState) (relations : List RelationState) (n : ℕ) (s t : RelationState) (there : slice_get c.relations n ≡ Some s) (list : relations ≡ set c.relations n t) where
  abbrev now : CatalogState
  now = record c { relations = relations }

  outlines : map relation_outline relations ≡ set (map relation_outline c.relations) n (relation_outline t)
  outlines = ap (map relation_outline) list ∙ map-set relation_outline c.relations n t

  outline_there : slice_get (map relation_outline c.relations) n ≡ Some (relation_outline s)
  outline_there = slice_get-map relation_outline c.relations n ∙ ap (option_map relation_outline) there

  outline_here : slice_get (map relation_outline relations) n ≡ Some (relation_outline t)
  outline_here = ap (λ os. slice_get os n) outlines ∙ slice_get_set (map relation_outline c.relations) n (relation_outline t) (slice_get_within (map relation_outline c.relations) n (relation_outline s) outline_there)

  index_more : (index : DeclaredIndex) → is_index index index ≡ true → list_any (is_index index) s.declared ≡ false
      → relation_outline t ≡ record (relation_outline s) { declared = s.declared ++ index ∷ [] } → HasIndexMore (outline_of c) (outline_of now) n index
  index_more index itself new is = record {
    declares = record {
      relation = relation_outline t;
      there = outline_here;
      declared = subst (λ (o : RelationOutline). Contains o.declared index) (sym is) (Contains-push s.declared index);
    };
    others = λ i. record { limits = c.limits; names = c.names; relations = again i };
  }
    where
      less : undeclared index (relation_outline t) ≡ relation_outline s
      less = ap (undeclared index) is ∙ ap (λ ds. record (relation_outline s) { declared = ds }) (without_first-push (is_index index) s.declared index itself new)

      again : (without_declared n index (outline_of now)).relations ≡ map relation_outline c.relations
      again =
          changed_here (undeclared index) n (map relation_outline relations) (relation_outline t) outline_here
          ∙ ap (λ (os : List RelationOutline). set os n (undeclared index (relation_outline t))) outlines
          ∙ set-set (map relation_outline c.relations) n (relation_outline t) (undeclared index (relation_outline t))
          ∙ ap (set (map relation_outline c.relations) n) less
          ∙ set_itself (map relation_outline c.relations) n (relation_outline s) outline_there

  -- the outline is changed alike
  pub changed_outline : (change : RelationOutline → RelationOutline) → relation_outline t ≡ change (relation_outline s) → outline_of now ≡ with_other n change (outline_of c)
  changed_outline change is =
      let relations = outlines ∙ ap (set (map relation_outline c.relations) n) is ∙ sym (changed_here change n (map relation_outline c.relations) (relation_outline s) outline_there) in
      λ i. record { limits = c.limits; names = c.names; relations = relations i }

-- ---- what the calls answer

module _ (c : CatalogState) (relations : List RelationState) (n : TableNumber) (column : ColumnNumber) (k : IndexKind) where
  abbrev index : DeclaredIndex
  index = declaration column k

  abbrev IsIndexed : Type 0
  IsIndexed = IsChangedAt c.relations relations n.0 (λ old new. IsDeclared old new index)

  abbrev IsMore : Type 0
  IsMore = HasIndexMore (outline_of c) (outline_of (record c { relations = relations })) n.0 index

  module _ (ok : IsConsistent c) (meant : IsMeant c.limits (database_of c) (resolved.Index n column k)) where
    -- an index that can be declared isn't declared
    new_index : (s : RelationState) → slice_get c.relations n.0 ≡ Some s → list_any (is_index index) s.declared ≡ false
    unfolding table_of
    new_index s there =
        let name = named_at c ok n.0 (slice_get_within c.relations n.0 s there) in
        let indexes = ap (λ (t : Table). t.indexes) (table_at c ok n.0 name.0 s meant.0 name.1 there meant.1) in
        ap (λ test. list_any test s.declared) (same_tests column k) ∙ sym (list_any-map (plain.is_index column k) plain_index s.declared)
        ∙ ap (list_any (plain.is_index column k)) (sym indexes) ∙ meant.2.undeclared

    pub indexed_outline : {A E : Type 0} (r : Result A E) → OnOk r IsIndexed → OnOk r IsMore
    indexed_outline r changed =
        on_ok_weaker r (λ (h : IsIndexed).
        index_more c relations n.0 h.before h.after h.there h.list index (index_itself column k) (new_index h.before h.there) (declared_outline k column h.before h.after h.changed)) changed

  pub unindexed_outline : IsChangedAt c.relations relations n.0 (λ old new. new ≡ without_index old index) → outline_of (record c { relations = relations }) ≡ without_declared n.0 index (outline_of c)
  unindexed_outline h = changed_outline c relations n.0 h.before h.after h.there h.list (undeclared index) (ap relation_outline h.changed ∙ undeclared_outline k column h.before)
