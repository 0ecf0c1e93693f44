-- A catalog of which an index is taken out of a table, and put back.
use Rattle.std.proofs.Common.{◌≡◌, ◌==◌, ◌<◌, ℕ, Bool, false, not, IsTrue, List, Option, Some, None, refl, sym, ap, ◌∙◌, subst, arith, length, map, set, take}
use Rattle.std.specs.FinMap as finite
use Rattle.std.specs.List.{All, insert, list_any, slice_get}
use Rattle.std.specs.Option.{option_and_then, option_map, option_map_or}
use Rattle.std.specs.Prelude.{Result, Ok, Err, IfOk, OnErr, OnOk}
use Rattle.std.proofs.lemmas.List.{length-map, set-set}
use Rattle.std.proofs.lemmas.List.Elements.{All-set}
use Rattle.std.proofs.lemmas.Option.{none-some, same_Some, slice_get-map, slice_get_within}
use Rattle.common_lemmas.proofs.Places.{set_itself, slice_get_set}
use Rattle.common_lemmas.proofs.Tests.{list_any-map}
use Rattle.part_raw.specs.Store.{Tuples}
use Rattle.part_raw.specs.declared.tuple_ref.TupleRef.{TupleRef}
use Rattle.plain_tables.specs.References as plain
use Rattle.plain_tables.specs.References.{IsSound}
use Rattle.plain_tables.specs.ResolvedLaws.{IsMeant}
use Rattle.plain_tables.specs.Tables.{Table}
use Rattle.plain_tables.specs.declared.command.Limits.{Limits}
use Rattle.plain_tables.specs.declared.numbers.ColumnNumber.{ColumnNumber}
use Rattle.plain_tables.specs.declared.numbers.TableNumber.{TableNumber}
use Rattle.plain_tables.specs.declared.resolved.Resolved.TheVariants as resolved
use Rattle.plain_tables.specs.declared.schema.IndexKind.{IndexKind}
use Rattle.plain_tables.specs.declared.schema.IndexKind.TheVariants.{Tree, Hash}
use Rattle.mm_index.specs.Bag.{IsSameBag}
use Rattle.mm_index.proofs.Bags.{IsSameBag-sym, IsSameBag-trans}
use Rattle.mm_index.proofs.Listings.{IsListing-keys, IsSameBag-listings}
use Rattle.mm_relation.specs.Changes.{has_declared_on}
use Rattle.mm_relation.specs.Declaring.{declaration, is_index, without_first}
use Rattle.mm_relation.specs.Indexes.{SeenIndex, Serves, kind_in, declaration_of, seen}
use Rattle.mm_relation.specs.Owing.{IsReady}
use Rattle.mm_relation.specs.Reading.{Keys, key_at}
use Rattle.mm_relation.specs.Rows.{Row}
use Rattle.mm_relation.specs.State.{IsKept, RelationState, is_tree, linked_keys, tree_list}
use Rattle.mm_relation.specs.Taken.{DroppedState, HasPlaceFor, IsServedBy, IsTaken, count_of, with_index, with_of}
use Rattle.mm_relation.specs.declared.index.IndexOn.{IndexOn}
use Rattle.mm_relation.specs.declared.numbers.DeclaredIndex.{DeclaredIndex}
use Rattle.mm_relation.proofs.Declared.{any_of}
use Rattle.mm_relation.proofs.Listings.{keyed_listing}
use Rattle.mm_relation.proofs.Serving.{hash_serves_bag, where_map}
use Rattle.mm_catalog.specs.Changes.{IsChangedAt, IsDone}
use Rattle.mm_catalog.specs.Consistent.{IsConsistent}
use Rattle.mm_catalog.specs.Linked.{target_at}
use Rattle.mm_catalog.specs.Outline.{IsOutline, Outline, RelationOutline, outline_of, relation_outline}
use Rattle.mm_catalog.specs.Seen.{database_of, plain_index, table_of}
use Rattle.mm_catalog.specs.State.{CatalogState}
use Rattle.mm_catalog.specs.Unindexed.{CanHaveIndex, HasIndexLess, has_index, indexed_again, keys_read, with_index_of}
use Rattle.mm_catalog.proofs.Alike.{AreAlike-set, IsAlike, same_outlines}
use Rattle.mm_catalog.proofs.Among.{among_at, named_at}
use Rattle.mm_catalog.proofs.Back.{lead_back}
use Rattle.mm_catalog.proofs.Declared.{IsLeft, consistent_now, dropped_alike, left_undeclared, same_tests}
use Rattle.mm_catalog.proofs.IndexMore.{changed_outline}
use Rattle.mm_catalog.proofs.Outlines.{keys_before, same_keys}
use Rattle.mm_catalog.proofs.ShownAgain.{database_alike}
use Rattle.mm_catalog.proofs.Tables.{database-get}

-- ---- keys that are read in an outline

key_read : (to : TupleRef) (o : Option RelationState) → option_and_then (λ (s : RelationOutline). key_at s.rows to) (option_map relation_outline o) ≡ option_and_then (λ (s : RelationState). key_at s.rows to) o
key_read to None = refl
key_read to (Some s) = refl

key_behind : (relations : List RelationState) (target : Option ℕ) (to : TupleRef)
    → option_and_then (λ (s : RelationOutline). key_at s.rows to) (option_and_then (slice_get (map relation_outline relations)) target)
    ≡ option_and_then (λ (s : RelationState). key_at s.rows to) (option_and_then (slice_get relations) target)
key_behind relations None to = refl
key_behind relations (Some n) to = ap (option_and_then (λ (s : RelationOutline). key_at s.rows to)) (slice_get-map relation_outline relations n) ∙ key_read to (slice_get relations n)

-- they are those of the relations
pub keys_outlined : (targets : List (Option ℕ)) (relations : List RelationState) → keys_read targets (map relation_outline relations) ≡ linked_keys targets relations
keys_outlined targets relations = λ i column to. key_behind relations (target_at targets column) to i

-- ---- one relation

-- what serves a list of references serves each list of the same ones
serves_bag : (keys : Keys) (rows : Tuples Row) (refs same : List TupleRef) (s : SeenIndex) → IsSameBag refs same → Serves keys rows refs s → Serves keys rows same s
serves_bag keys rows refs same s bag serves =
    where_map (is_tree s.declaration.kind) (λ tree. record { bag = IsSameBag-trans tree.bag bag; rising = tree.rising })
    (hash_serves_bag keys rows refs same (s.declaration.column.0, s.entries) bag) serves

module _ (s : RelationState) where
  -- the tree of the key lists each row once
  listed_rows : IsKept s → IsSameBag (tree_list s.by_key) (finite.keys s.rows)
  listed_rows kept = IsSameBag-listings s.rows (tree_list s.by_key) (finite.keys s.rows) (keyed_listing s.rows (tree_list s.by_key) kept.keyed) (IsListing-keys s.rows)

  -- what is declared stands there
  declared_stands : IsKept s → (column : ColumnNumber) (k : IndexKind) → list_any (is_index (declaration column k)) s.declared ≡ has_declared_on s column.0 k
  declared_stands kept column Tree =
      any_of (λ (d : DeclaredIndex). d.column.0) (λ n. n == column.0) (λ d. is_tree d.kind) s.declared
      ∙ ap (list_any (λ n. n == column.0)) (sym kept.trees) ∙ list_any-map (λ n. n == column.0) (λ t. t.0) s.trees
  declared_stands kept column Hash =
      any_of (λ (d : DeclaredIndex). d.column.0) (λ n. n == column.0) (λ d. not (is_tree d.kind)) s.declared
      ∙ ap (list_any (λ n. n == column.0)) (sym kept.hashes) ∙ list_any-map (λ n. n == column.0) (λ h. h.0) s.hashes

  -- an index more changes what is declared, and what stands of its kind
  more_alike : (k : IndexKind) (place : ℕ) (on : IndexOn) (declared : List DeclaredIndex) → IsAlike s (with_of k place on (record s { declared = declared }))
  more_alike Tree place on declared = record { schema = refl; outline = refl; referrers = refl; counted = λ counted. counted }
  more_alike Hash place on declared = record { schema = refl; outline = refl; referrers = refl; counted = λ counted. counted }

  more_outline : (k : IndexKind) (place : ℕ) (on : IndexOn) (declared : List DeclaredIndex) → relation_outline (with_of k place on (record s { declared = declared })) ≡ record (relation_outline s) { declared = declared }
  more_outline Tree place on declared = refl
  more_outline Hash place on declared = refl

  module _ (d : DroppedState) where
    abbrev kind : IndexKind
    kind = kind_in d.on.index

    back_alike : IsAlike s (with_index s d)
    back_alike = more_alike kind (count_of kind (take d.place s.declared)) d.on (insert s.declared d.place (declaration_of d.on))

    back_outline : relation_outline (with_index s d) ≡ indexed_again d (relation_outline s)
    back_outline = more_outline kind (count_of kind (take d.place s.declared)) d.on (insert s.declared d.place (declaration_of d.on))

-- ---- put back

module _ (c : CatalogState) (ok : IsConsistent c) (n : ℕ) (d : DroppedState) (can : CanHaveIndex (outline_of c) n d) where
  pub relation_there : n < length c.relations
  relation_there = omega (arith, slice_get_within (map relation_outline c.relations) n can.relation can.there, length-map c.relations relation_outline)

  module _ (s : RelationState) (there : slice_get c.relations n ≡ Some s) where
    is : can.relation ≡ relation_outline s
    is = same_Some can.relation (relation_outline s) (sym can.there ∙ slice_get-map relation_outline c.relations n ∙ ap (option_map relation_outline) there)

    pub has_place : HasPlaceFor s d
    has_place = record {
      column = subst (λ (o : RelationOutline). d.on.column.0 < length o.targets) is can.column;
      place = omega (arith, can.place, ap (λ (o : RelationOutline). length o.declared) is);
      places = omega (arith, can.places, ap (λ (o : RelationOutline). length o.declared) is);
      ready = subst (λ (o : RelationOutline). IsReady o.owed o.hidden d.on) is can.ready;
    }

    pub is_served : IsServedBy (linked_keys s.targets (take n c.relations)) s d
    is_served =
        let keys = keys_outlined s.targets c.relations ∙ sym (keys_before s.targets c.relations n (lead_back c ok n s there)) in
        let refs = IsSameBag-sym (listed_rows s (among_at c ok n s there).kept) in
        let served = subst (λ (o : RelationOutline). Serves (keys_read o.targets (outline_of c).relations) o.rows (finite.keys o.rows) (seen d.on)) is can.served in
        serves_bag (linked_keys s.targets (take n c.relations)) s.rows (finite.keys s.rows) (tree_list s.by_key) (seen d.on) refs
        (subst (λ ks. Serves ks s.rows (finite.keys s.rows) (seen d.on)) keys served)

  module _ (stands : IsOutline (with_index_of n d (outline_of c))) (relations : List RelationState) (h : IsChangedAt c.relations relations n (λ old new. new ≡ with_index old d)) where
    abbrev now : CatalogState
    now = record c { relations = relations }

    pub put_outline : outline_of now ≡ with_index_of n d (outline_of c)
    put_outline = changed_outline c relations n h.before h.after h.there h.list (indexed_again d) (ap relation_outline h.changed ∙ back_outline h.before d)

    -- it has the database of the catalog that it is to be like
    sound : IsSound c.limits (database_of now)
    sound =
        let alike = put_outline ∙ sym stands.2 in
        let kept : All IsKept relations = subst (All IsKept) (sym h.list) (All-set IsKept c.relations n h.after h.kept (λ k x l. (ok.each k x l).kept)) in
        subst (IsSound c.limits) (sym (database_alike stands.0 now alike (λ k x l. (stands.1.each k x l).kept) kept))
        (subst (λ (l : Limits). IsSound l (database_of stands.0)) (ap (λ (o : Outline). o.limits) (sym alike)) stands.1.sound)

    pub put_consistent : IsConsistent now
    put_consistent =
        let alike : IsAlike h.before h.after = subst (IsAlike h.before) (sym h.changed) (back_alike h.before d) in
        subst (λ rs. IsConsistent (record c { relations = rs })) (sym h.list)
        (consistent_now c ok n h.before h.after h.there alike h.kept h.current (subst (λ rs. IsSound c.limits (database_of (record c { relations = rs }))) h.list sound))

-- ---- taken out

pub told_index : (f : Table → Bool) (o : Option Table) (b : Bool) → option_map f o ≡ Some b → b ≡ option_map_or f o false
told_index f None b e = absurd (none-some b e)
told_index f (Some t) b e = sym (same_Some (f t) b e)

module _ (c : CatalogState) (ok : IsConsistent c) (n : TableNumber) (column : ColumnNumber) (k : IndexKind) where
  abbrev index : DeclaredIndex
  index = declaration column k

  -- an index of the table is one of its relation
  pub index_stands : IsTrue (has_index (database_of c) n.0 column k) → (s : RelationState) → slice_get c.relations n.0 ≡ Some s → IsTrue (has_declared_on s column.0 k)
  unfolding table_of
  index_stands has s there =
      let name = named_at c ok n.0 (slice_get_within c.relations n.0 s there) in
      let table = database-get c ok.named n.0 name.0 s name.1 there in
      sym (declared_stands s (among_at c ok n.0 s there).kept column k)
      ∙ ap (λ test. list_any test s.declared) (same_tests column k) ∙ sym (list_any-map (plain.is_index column k) plain_index s.declared)
      ∙ sym (ap (λ o. option_map_or (λ (t : Table). list_any (plain.is_index column k) t.indexes) o false) table) ∙ has

  module _ (meant : IsMeant c.limits (database_of c) (resolved.DropIndex n column k)) (relations : List RelationState) where
    abbrev less : CatalogState
    less = record c { relations = relations }

    abbrev IsOut : DroppedState → Type 0
    IsOut d = IsChangedAt c.relations relations n.0 (λ old new. IsTaken old new index d)

    left : (d : DroppedState) → IsOut d → IsLeft c relations (resolved.DropIndex n column k)
    left d h =
        left_undeclared c ok n column k relations meant
        (record { before = h.before; after = h.after; there = h.there; list = h.list; changed = h.changed.taken; kept = h.kept; current = h.current })

    module _ (d : DroppedState) (h : IsOut d) where
      here : slice_get relations n.0 ≡ Some h.after
      here = ap (λ rs. slice_get rs n.0) h.list ∙ slice_get_set c.relations n.0 h.after (slice_get_within c.relations n.0 h.before h.there)

      -- rows are read under the keys that they were read under
      same_read : keys_read h.after.targets (map relation_outline relations) ≡ linked_keys h.before.targets c.relations
      same_read =
          let alike : IsAlike h.before h.after = subst (IsAlike h.before) (sym h.changed.taken) (dropped_alike k column.0 h.before (without_first (is_index index) h.before.declared)).0 in
          keys_outlined h.after.targets relations ∙ ap (linked_keys h.after.targets) h.list
          ∙ same_keys h.after.targets (set c.relations n.0 h.after) c.relations (same_outlines c ok (set c.relations n.0 h.after) (AreAlike-set c.relations n.0 h.before h.after h.there alike))
          ∙ (λ i. linked_keys (alike.outline i).0 c.relations)

      can_have : CanHaveIndex (outline_of less) n.0 d
      can_have = record {
        relation = relation_outline h.after;
        there = slice_get-map relation_outline relations n.0 ∙ ap (option_map relation_outline) here;
        column = h.changed.fits.column;
        place = h.changed.fits.place;
        places = h.changed.fits.places;
        ready = h.changed.fits.ready;
        served = serves_bag (keys_read h.after.targets (map relation_outline relations)) h.after.rows (tree_list h.after.by_key) (finite.keys h.after.rows) (seen d.on) (listed_rows h.after h.kept)
            (subst (λ keys. IsServedBy keys h.after d) (sym same_read) (h.changed.served (linked_keys h.before.targets c.relations) (among_at c ok n.0 h.before h.there).current));
      }

      index_less : HasIndexLess (outline_of c) (outline_of less) n.0 d
      index_less =
          let list : c.relations ≡ set relations n.0 h.before =
          sym (set_itself c.relations n.0 h.before h.there) ∙ sym (set-set c.relations n.0 h.after h.before) ∙ ap (λ rs. set rs n.0 h.before) (sym h.list) in
          record {
            can = can_have;
            others = sym (changed_outline less c.relations n.0 h.after h.before here list (indexed_again d) (ap relation_outline (sym h.changed.back) ∙ back_outline h.after d));
          }

    pub out_consistent : {E : Type 0} (r : Result DroppedState E) → IfOk r IsOut → OnErr r (relations ≡ c.relations) → IsConsistent less
    out_consistent (Ok d) h same = (left d h).consistent
    out_consistent (Err e) h same = subst (λ rs. IsConsistent (record c { relations = rs })) (sym same) ok

    pub out_done : {E : Type 0} (r : Result DroppedState E) → IfOk r IsOut → OnOk r (IsDone c less (resolved.DropIndex n column k))
    out_done (Ok d) h = record { database = (left d h).database; limits = refl }
    out_done (Err e) h = tt

    pub out_less : {E : Type 0} (r : Result DroppedState E) → IfOk r IsOut → IfOk r (HasIndexLess (outline_of c) (outline_of less) n.0)
    out_less (Ok d) h = index_less d h
    out_less (Err e) h = h
