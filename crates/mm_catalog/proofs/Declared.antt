-- A catalog of which a table's declared indexes change and nothing else.
use Rattle.std.proofs.Common.{◌≡◌, ◌≢◌, ℕ, suc, Bool, true, false, not, cond, ◌&&◌, ◌==◌, List, [], ◌∷◌, ◌++◌, Some, refl, sym, ap, ◌∙◌, subst, arith, map, set, take, filter, get_or, inl, inr}
use Rattle.std.specs.List.{AllPairs, slice_get}
use Rattle.std.specs.Prelude.{Result, Ok, Err, OnOk, OnErr}
use Rattle.std.proofs.lemmas.Bool.{and_parts, eqb-true, cases_eq, false_from_ne_true}
use Rattle.std.proofs.lemmas.List.{map-append}
use Rattle.std.proofs.lemmas.Option.{slice_get_within, same_Some}
use Rattle.common_lemmas.proofs.Places.{slice_get_set, slice_get-set_other}
use Rattle.common_lemmas.proofs.Elements.{All-at}
use Rattle.common_lemmas.proofs.Filters.{filter_all}
use Rattle.plain_tables.specs.Tables.{Table}
use Rattle.plain_tables.specs.Databases.{Database}
use Rattle.plain_tables.specs.References.{IsSound, IsSoundTable}
use Rattle.plain_tables.specs.Doing as plain
use Rattle.plain_tables.specs.Doing.{done, with_index}
use Rattle.plain_tables.specs.declared.command.Limits.{Limits}
use Rattle.plain_tables.specs.declared.numbers.ColumnNumber.{ColumnNumber}
use Rattle.plain_tables.specs.declared.numbers.TableNumber.{TableNumber}
use Rattle.plain_tables.specs.declared.schema.IndexKind.{IndexKind}
use Rattle.plain_tables.specs.declared.schema.IndexKind.TheVariants.{Tree, Hash}
use Rattle.plain_tables.specs.declared.resolved.Resolved.{Resolved}
use Rattle.plain_tables.specs.declared.resolved.Resolved.TheVariants as resolved
use Rattle.mm_relation.specs.declared.numbers.DeclaredIndex.{DeclaredIndex}
use Rattle.mm_relation.specs.Declaring as relation
use Rattle.mm_relation.specs.Declaring.{declaration, IsDeclared, IsDeclaredOf, without_first, without_index, without_of}
use Rattle.mm_relation.specs.State.{RelationState, IsKept, IsCurrent, linked_keys}
use Rattle.mm_relation.proofs.Dropping.{without_first-map}
use Rattle.mm_catalog.specs.State.{CatalogState}
use Rattle.mm_catalog.specs.Seen.{database_of, table_of, rows_of, plain_index}
use Rattle.mm_catalog.specs.Consistent.{IsConsistent}
use Rattle.mm_catalog.specs.Changes.{IsChangedAt, IsDone}
use Rattle.plain_tables.specs.ResolvedLaws.{IsMeant}
use Rattle.mm_catalog.proofs.Lists.{map-zip-set}
use Rattle.mm_catalog.proofs.Tables.{database-get}
use Rattle.mm_catalog.proofs.Outlines.{Outline, outline, same_keys, keys_before}
use Rattle.mm_catalog.proofs.Alike.{IsAlike, AreAlike, AreAlike-set, same_outlines, table_alike, consistent_alike}
use Rattle.mm_catalog.proofs.Among.{among_at, named_at}
use Rattle.mm_catalog.proofs.Back.{lead_back}
use Rattle.plain_tables.proofs.Sound.{done_keeps_sound}

-- ---- a relation with other indexes

module _ (c : CatalogState) (ok : IsConsistent c) (n : ℕ) (s new : RelationState) (there : slice_get c.relations n ≡ Some s) (alike : IsAlike s new) (kept : IsKept new) (current : IsCurrent (linked_keys s.targets (take n c.relations)) new) where
  abbrev now : List RelationState
  now = set c.relations n new

  all_alike : AreAlike c.relations now
  all_alike = AreAlike-set c.relations n s new there alike

  new_at : slice_get now n ≡ Some new
  new_at = slice_get_set c.relations n new (slice_get_within c.relations n s there)

  -- the table has other indexes, and no other table changed
  pub database_now : (name : List ℕ) → slice_get c.names n ≡ Some name → database_of (record c { relations = now }) ≡ set (database_of c) n (record (table_of c.relations name s) { indexes = map plain_index new.declared })
  unfolding database_of table_of rows_of
  database_now name at =
      map-zip-set (λ (t : List ℕ × RelationState). table_of c.relations t.0 t.1) (λ (t : List ℕ × RelationState). table_of now t.0 t.1) c.names c.relations n name new ok.named at
      (λ i a t other named found j. record { name = a; columns = t.schema.columns; indexes = map plain_index t.declared; rows = rows_of (same_keys t.targets now c.relations (same_outlines c ok now all_alike) j) t })
      ∙ ap (set (database_of c) n) (table_alike c ok now all_alike n name s new there new_at)

  still : (k : ℕ) (t : RelationState) → slice_get now k ≡ Some t → IsKept t × IsCurrent (linked_keys t.targets c.relations) t
  still k t at = elim (cases_eq k n) [
    | inl e ↦
        let keys : linked_keys s.targets (take n c.relations) ≡ linked_keys new.targets c.relations =
        keys_before s.targets c.relations n (lead_back c ok n s there) ∙ ap (λ (o : Outline). linked_keys o.0 c.relations) (sym alike.outline) in
        subst (λ (u : RelationState). IsKept u × IsCurrent (linked_keys u.targets c.relations) u) (same_Some new t (sym new_at ∙ ap (slice_get now) (sym e) ∙ at)) (kept, subst (λ ks. IsCurrent ks new) keys current)
    | inr other ↦ let a = among_at c ok k t (sym (slice_get-set_other c.relations n k new other) ∙ at) in (a.kept, a.current)
  ]

  -- it is consistent still, if the database is sound
  pub consistent_now : IsSound c.limits (database_of (record c { relations = now })) → IsConsistent (record c { relations = now })
  consistent_now = consistent_alike c ok now all_alike still

-- ---- an index more

declared_alike : (k : IndexKind) (column : ColumnNumber) (old new : RelationState) → IsDeclaredOf k column old new → IsAlike old new × (new.declared ≡ old.declared ++ declaration column k ∷ [])
declared_alike Tree column old new h = (record { schema = ap (λ s. s.schema) h.1; counted = λ counted. ap (λ s. s.counted) h.1 ∙ counted; referrers = ap (λ s. s.referrers) h.1; outline = ap outline h.1 }, ap (λ s. s.declared) h.1)
declared_alike Hash column old new h = (record { schema = ap (λ s. s.schema) h.2; counted = λ counted. ap (λ s. s.counted) h.2 ∙ counted; referrers = ap (λ s. s.referrers) h.2; outline = ap outline h.2 }, ap (λ s. s.declared) h.2)

-- the effect on the database where the table is there
done_index : (limits : Limits) (tables : Database) (n : TableNumber) (column : ColumnNumber) (k : IndexKind) (table : Table) → slice_get tables n.0 ≡ Some table → (done limits tables (resolved.Index n column k)).database ≡ set tables n.0 (with_index column k table)
done_index limits tables n column k table at = rw at refl

done_drop : (limits : Limits) (tables : Database) (n : TableNumber) (column : ColumnNumber) (k : IndexKind) (table : Table) → slice_get tables n.0 ≡ Some table → (done limits tables (resolved.DropIndex n column k)).database ≡ set tables n.0 (plain.without_index column k table)
done_drop limits tables n column k table at = rw at refl

-- what a change of a relation's declared indexes leaves of a catalog
pub record IsLeft (c : CatalogState) (relations : List RelationState) (r : Resolved) : Type 0 where
  pub database : database_of (record c { relations = relations }) ≡ (done c.limits (database_of c) r).database
  pub consistent : IsConsistent (record c { relations = relations })

module _ (c : CatalogState) (ok : IsConsistent c) (n : TableNumber) (column : ColumnNumber) (k : IndexKind) (relations : List RelationState) where
  pub left_declared : IsMeant c.limits (database_of c) (resolved.Index n column k) → IsChangedAt c.relations relations n.0 (λ old new. IsDeclared old new (declaration column k)) → IsLeft c relations (resolved.Index n column k)
  unfolding table_of
  left_declared meant changed =
      let s = changed.before in
      let new = changed.after in
      let name = named_at c ok n.0 (slice_get_within c.relations n.0 s changed.there) in
      let at = database-get c ok.named n.0 name.0 s name.1 changed.there in
      let keeps = declared_alike k column s new changed.changed in
      let indexes : map plain_index new.declared ≡ map plain_index s.declared ++ (column.0, k) ∷ [] =
      ap (map plain_index) keeps.1 ∙ map-append plain_index s.declared (declaration column k ∷ []) in
      let database : database_of (record c { relations = set c.relations n.0 new }) ≡ (done c.limits (database_of c) (resolved.Index n column k)).database =
      database_now c ok n.0 s new changed.there keeps.0 changed.kept changed.current name.0 name.1
      ∙ ap (λ is. set (database_of c) n.0 (record (table_of c.relations name.0 s) { indexes = is })) indexes
      ∙ sym (done_index c.limits (database_of c) n column k (table_of c.relations name.0 s) at) in
      let sound : IsSound c.limits (database_of (record c { relations = set c.relations n.0 new })) =
      subst (IsSound c.limits) (sym database) (done_keeps_sound c.limits (database_of c) (resolved.Index n column k) ok.sound meant) in
      subst (λ rs. IsLeft c rs (resolved.Index n column k)) (sym changed.list)
      (record { database = database; consistent = consistent_now c ok n.0 s new changed.there keeps.0 changed.kept changed.current sound })

  abbrev IsIndexed : Type 0
  IsIndexed = IsChangedAt c.relations relations n.0 (λ old new. IsDeclared old new (declaration column k))

  -- the same, where no memory was found as well
  pub indexed_consistent : {A E : Type 0} (r : Result A E) → IsMeant c.limits (database_of c) (resolved.Index n column k) → OnOk r IsIndexed → OnErr r (relations ≡ c.relations) → IsConsistent (record c { relations = relations })
  indexed_consistent (Ok u) meant changed same = (left_declared meant changed).consistent
  indexed_consistent (Err e) meant changed same = subst (λ rs. IsConsistent (record c { relations = rs })) (sym same) ok

  pub indexed_done : {A E : Type 0} (r : Result A E) → IsMeant c.limits (database_of c) (resolved.Index n column k) → OnOk r IsIndexed → OnOk r (IsDone c (record c { relations = relations }) (resolved.Index n column k))
  indexed_done (Ok u) meant changed = record { database = (left_declared meant changed).database; limits = refl }
  indexed_done (Err e) meant changed = tt

-- ---- an index less

pub dropped_alike : (k : IndexKind) (column : ℕ) (s : RelationState) (others : List DeclaredIndex) → IsAlike s (without_of k column (record s { declared = others })) × ((without_of k column (record s { declared = others })).declared ≡ others)
dropped_alike Tree column s others = (record { schema = refl; outline = refl; referrers = refl; counted = λ counted. counted }, refl)
dropped_alike Hash column s others = (record { schema = refl; outline = refl; referrers = refl; counted = λ counted. counted }, refl)

same_kind : (k l : IndexKind) → plain.is_kind k l ≡ relation.is_kind k l
same_kind Tree Tree = refl
same_kind Tree Hash = refl
same_kind Hash Tree = refl
same_kind Hash Hash = refl

-- a declaration is tested alike among relations and among plain tables
pub same_tests : (column : ColumnNumber) (k : IndexKind) → relation.is_index (declaration column k) ≡ (λ d. plain.is_index column k (plain_index d))
same_tests column k = λ i d. (d.column.0 == column.0) && sym (same_kind k d.kind) i

kind_exact : (k l : IndexKind) → plain.is_kind k l ≡ true → l ≡ k
kind_exact Tree Tree e = refl
kind_exact Hash Hash e = refl
kind_exact j k e = cc

index_exact : (column : ColumnNumber) (k : IndexKind) (a b : ℕ × IndexKind) → plain.is_index column k a ≡ true → plain.is_index column k b ≡ true → a ≡ b
index_exact column k a b e f =
    let p = and_parts (a.0 == column.0) (plain.is_kind k a.1) e in
    let q = and_parts (b.0 == column.0) (plain.is_kind k b.1) f in
    let left : a.0 ≡ b.0 = eqb-true a.0 column.0 p.0 ∙ sym (eqb-true b.0 column.0 q.0) in
    let right : a.1 ≡ b.1 = kind_exact k a.1 p.1 ∙ sym (kind_exact k b.1 q.1) in
    λ i. (left i, right i)

-- where just one element can pass, the list without the first that does is the list of those that don't
pub without_apart : {A : Type 0} (p : A → Bool) (xs : List A) → ((a b : A) → p a ≡ true → p b ≡ true → a ≡ b) → AllPairs (λ a b. a ≢ b) xs → without_first p xs ≡ filter (λ x. not (p x)) xs
without_apart p [] exact apart = refl
without_apart p (x ∷ xs) exact apart =
    let rest = without_apart p xs exact (λ i j d l w. apart (suc i) (suc j) d (omega arith) (omega arith)) in
    elim (p x) as (λ b. p x ≡ b → cond b xs (x ∷ without_first p xs) ≡ cond (not b) (x ∷ filter (λ y. not (p y)) xs) (filter (λ y. not (p y)) xs)) [
      | true ↦ λ e. sym (filter_all (λ y. not (p y)) xs (λ j d l. ap not (false_from_ne_true (p (get_or xs j d)) (λ f. apart 0 (suc j) d (omega arith) (omega arith) (exact x (get_or xs j d) e f)))))
      | false ↦ λ e. ap (λ ys. x ∷ ys) rest
    ] refl

module _ (c : CatalogState) (ok : IsConsistent c) (n : TableNumber) (column : ColumnNumber) (k : IndexKind) (relations : List RelationState) where
  pub left_undeclared : IsMeant c.limits (database_of c) (resolved.DropIndex n column k) → IsChangedAt c.relations relations n.0 (λ old new. new ≡ without_index old (declaration column k)) → IsLeft c relations (resolved.DropIndex n column k)
  unfolding table_of
  left_undeclared meant changed =
      let s = changed.before in
      let new = changed.after in
      let name = named_at c ok n.0 (slice_get_within c.relations n.0 s changed.there) in
      let at = database-get c ok.named n.0 name.0 s name.1 changed.there in
      let others = without_first (relation.is_index (declaration column k)) s.declared in
      let dropped = dropped_alike k column.0 s others in
      let keeps : IsAlike s new = subst (IsAlike s) (sym changed.changed) dropped.0 in
      let declared : new.declared ≡ others = ap (λ (t : RelationState). t.declared) changed.changed ∙ dropped.1 in
      let sound_table : IsSoundTable c.limits (table_of c.relations name.0 s) = All-at (IsSoundTable c.limits) (database_of c) n.0 (table_of c.relations name.0 s) ok.sound.each at in
      let apart = sound_table.indexes_apart in
      let indexes : map plain_index new.declared ≡ filter (λ i. not (plain.is_index column k i)) (map plain_index s.declared) =
      ap (map plain_index) declared ∙ ap (λ test. map plain_index (without_first test s.declared)) (same_tests column k)
      ∙ sym (without_first-map (plain.is_index column k) plain_index s.declared)
      ∙ without_apart (plain.is_index column k) (map plain_index s.declared) (index_exact column k) apart in
      let database : database_of (record c { relations = set c.relations n.0 new }) ≡ (done c.limits (database_of c) (resolved.DropIndex n column k)).database =
      database_now c ok n.0 s new changed.there keeps changed.kept changed.current name.0 name.1
      ∙ ap (λ is. set (database_of c) n.0 (record (table_of c.relations name.0 s) { indexes = is })) indexes
      ∙ sym (done_drop c.limits (database_of c) n column k (table_of c.relations name.0 s) at) in
      let sound : IsSound c.limits (database_of (record c { relations = set c.relations n.0 new })) =
      subst (IsSound c.limits) (sym database) (done_keeps_sound c.limits (database_of c) (resolved.DropIndex n column k) ok.sound meant) in
      subst (λ rs. IsLeft c rs (resolved.DropIndex n column k)) (sym changed.list)
      (record { database = database; consistent = consistent_now c ok n.0 s new changed.there keeps changed.kept changed.current sound })
