-- What becomes of a catalog's outline as rows come and go.
use Rattle.std.specs.Prelude.{Result, Ok, Err, IfOk}
use Rattle.std.proofs.Common.{◌≡◌, ℕ, Bool, true, false, not, cond, List, [], ◌∷◌, Some, None, refl, sym, ap, ◌∙◌, subst, arith, map, set, length-set, inl, inr}
use Rattle.std.specs.List.{Contains, slice_get}
use Rattle.std.specs.FinMap.{get, get-retain_keys}
use Rattle.std.specs.Option.{option_and_then, option_map, option_map_or}
use Rattle.std.proofs.lemmas.Bool.{cases_eq, false≢true}
use Rattle.std.proofs.lemmas.List.{map-set, set-set}
use Rattle.std.proofs.lemmas.List.Elements.{All-contains}
use Rattle.std.proofs.lemmas.List.Folds.{Any-from_list_any, list_any-from_Any}
use Rattle.std.proofs.lemmas.Option.{same_Some, slice_get-map, slice_get_within}
use Rattle.common_lemmas.proofs.Places.{set_itself, slice_get_set, slice_get-set_other}
use Rattle.part_raw.specs.Store.{Tuples}
use Rattle.part_raw.specs.declared.tuple_ref.TupleRef.{TupleRef}
use Rattle.part_raw.proofs.Refs.{ref_cmp_exact}
use Rattle.part_raw.proofs.Tuples.{same_ref, same_ref_self, same_ref_true, same_tuples}
use Rattle.plain_tables.specs.declared.refusal.Refusal.{Refusal}
use Rattle.plain_tables.specs.declared.value.Value.{Value}
use Rattle.mm_relation.specs.Rows.{Row, referrers_at}
use Rattle.mm_relation.specs.State.{RelationState}
use Rattle.mm_catalog.specs.State.{CatalogState}
use Rattle.mm_catalog.specs.Deleted.{AllFree, AreDeleted, AreRemoved, IsFree}
use Rattle.mm_catalog.specs.Loaded.{AreFreeRows, HasCome, HasMore, HaveGone}
use Rattle.mm_catalog.specs.Outline.{HasRowsMore, RelationOutline, changed_at, is_among, outline_of, relation_outline, without, without_rows}
use Rattle.mm_catalog.specs.Recounted.{IsRecounted, IsRewritten, KeepsColumns, KeepsAside}
use Rattle.mm_catalog.proofs.Elsewhere.{rewritten_from}
use Rattle.mm_catalog.proofs.Lists.{map_alike}
use Rattle.mm_catalog.proofs.Loaded.{more_none, more_then}

-- ---- the rows without some

pub among_contains : (refs : List TupleRef) (q : TupleRef) → is_among refs q ≡ true → Contains refs q
among_contains refs q e =
    let found = Any-from_list_any (same_ref q) refs e in
    subst (Contains refs) (sym (same_ref_true q found.1 found.4)) (found.0, found.2, found.3)

pub contains_among : (refs : List TupleRef) (q : TupleRef) → Contains refs q → is_among refs q ≡ true
contains_among refs q there = list_any-from_Any (same_ref q) refs (there.0, q, there.1, there.2, same_ref_self q)

pub none_among : (refs : List TupleRef) (q : TupleRef) → is_among refs q ≡ false → Contains refs q → ⊥
none_among refs q e there = false≢true (sym e ∙ contains_among refs q there)

get-without : (refs : List TupleRef) (rows : Tuples Row) (q : TupleRef) → get (without refs rows) q ≡ cond (not (is_among refs q)) (get rows q) None
get-without refs rows q = get-retain_keys rows (λ r. not (is_among refs r)) q (λ x t. ap (λ r. not (is_among refs r)) (sym (ref_cmp_exact q x t)))

-- rows of which just these are gone
pub without_is : (refs : List TupleRef) (rows others : Tuples Row) → ((q : TupleRef) → Contains refs q → get others q ≡ None)
    → ((q : TupleRef) → (Contains refs q → ⊥) → get others q ≡ get rows q) → without refs rows ≡ others
without_is refs rows others gone stay = same_tuples (without refs rows) others (λ q. by_member q (is_among refs q) refl)
  where
    by_member : (q : TupleRef) (among : Bool) → is_among refs q ≡ among → get (without refs rows) q ≡ get others q
    by_member q true e = get-without refs rows q ∙ ap (λ b. cond (not b) (get rows q) None) e ∙ sym (gone q (among_contains refs q e))
    by_member q false e = get-without refs rows q ∙ ap (λ b. cond (not b) (get rows q) None) e ∙ sym (stay q (none_among refs q e))

pub gone_without : (refs : List TupleRef) (rows : Tuples Row) (q : TupleRef) → Contains refs q → get (without refs rows) q ≡ None
gone_without refs rows q there =
    elim (is_among refs q) as (λ b. is_among refs q ≡ b → get (without refs rows) q ≡ None) [
      | true ↦ λ e. get-without refs rows q ∙ ap (λ b. cond (not b) (get rows q) None) e
      | false ↦ λ e. absurd (none_among refs q e there)
    ] refl

pub still_without : (refs : List TupleRef) (rows : Tuples Row) (q : TupleRef) → (Contains refs q → ⊥) → get (without refs rows) q ≡ get rows q
still_without refs rows q other =
    elim (is_among refs q) as (λ b. is_among refs q ≡ b → get (without refs rows) q ≡ get rows q) [
      | true ↦ λ e. absurd (other (among_contains refs q e))
      | false ↦ λ e. get-without refs rows q ∙ ap (λ b. cond (not b) (get rows q) None) e
    ] refl

-- ---- one relation is another one

pub changed_here : {A : Type 0} (change : A → A) (n : ℕ) (xs : List A) (x : A) → slice_get xs n ≡ Some x → changed_at change n xs ≡ set xs n (change x)
changed_here change n xs x at = ap (λ o. option_map_or (λ y. set xs n (change y)) o xs) at

recounted_outline : (s t : RelationState) → IsRecounted s t → relation_outline t ≡ relation_outline s
recounted_outline s t counts = ap relation_outline counts

module _ (old new : List RelationState) (n : ℕ) (b a : RelationState) (h : IsRewritten old new n b a) where
  alike : (k : ℕ) (s t : RelationState) → slice_get (set old n a) k ≡ Some s → slice_get new k ≡ Some t → relation_outline t ≡ relation_outline s
  alike k s t was now = elim (cases_eq k n) [
    | inl e ↦
        let first : s ≡ a = same_Some s a (sym was ∙ ap (slice_get (set old n a)) e ∙ slice_get_set old n a (slice_get_within old n b h.there)) in
        let second : t ≡ a = same_Some t a (sym now ∙ ap (slice_get new) e ∙ h.here) in
        ap relation_outline (second ∙ sym first)
    | inr other ↦ recounted_outline s t (h.others k s t other (sym (slice_get-set_other old n k a other) ∙ was) now)
  ]

  -- just its outline is another
  pub outlines_rewritten : map relation_outline new ≡ set (map relation_outline old) n (relation_outline a)
  outlines_rewritten = map_alike relation_outline (set old n a) new (h.count ∙ sym (length-set old n a)) alike ∙ map-set relation_outline old n a

  pub outline_there : slice_get (map relation_outline old) n ≡ Some (relation_outline b)
  outline_there = slice_get-map relation_outline old n ∙ ap (option_map relation_outline) h.there

  pub outline_here : slice_get (map relation_outline new) n ≡ Some (relation_outline a)
  outline_here = slice_get-map relation_outline new n ∙ ap (option_map relation_outline) h.here

  module _ (f : RelationOutline → RelationOutline) where
    -- one that leads back to the other
    pub changed_back : f (relation_outline a) ≡ relation_outline b → changed_at f n (map relation_outline new) ≡ map relation_outline old
    changed_back again =
        changed_here f n (map relation_outline new) (relation_outline a) outline_here
        ∙ ap (λ (os : List RelationOutline). set os n (f (relation_outline a))) outlines_rewritten
        ∙ set-set (map relation_outline old) n (relation_outline a) (f (relation_outline a))
        ∙ ap (set (map relation_outline old) n) again
        ∙ set_itself (map relation_outline old) n (relation_outline b) outline_there

    -- one to which the other leads
    pub changed_forth : relation_outline a ≡ f (relation_outline b) → map relation_outline new ≡ changed_at f n (map relation_outline old)
    changed_forth next =
        outlines_rewritten ∙ ap (set (map relation_outline old) n) next
        ∙ sym (changed_here f n (map relation_outline old) (relation_outline b) outline_there)

abbrev rows_go : List TupleRef → RelationOutline → RelationOutline
rows_go refs s = record s { rows = without refs s.rows }

-- a relation over the same columns, of which just these rows are gone
outline_without : (refs : List TupleRef) (b a : RelationState) → KeepsColumns b a → KeepsAside b a → without refs b.rows ≡ a.rows → rows_go refs (relation_outline b) ≡ relation_outline a
outline_without refs b a keeps aside rows =
    let schema = sym keeps.schema in
    let targets = sym keeps.targets in
    let declared = sym keeps.declared in
    let counted = sym keeps.counted in
    let hidden = sym aside.hidden in
    let owed = sym aside.owed in
    λ i. record { schema = schema i; targets = targets i; declared = declared i; counted = counted i; rows = rows i; hidden = hidden i; owed = owed i }

-- ---- rows that came

-- rows that came are those by which the outline differs
pub more_outlined : (c d : CatalogState) (n : ℕ) (refs : List TupleRef) → HasMore c d n refs → HasRowsMore (outline_of c) (outline_of d) n refs
more_outlined c d n refs h = record {
  held = record { relation = relation_outline h.after; there = here; held = h.held; once = h.once };
  others = λ i. record { limits = limits i; names = names i; relations = relations i };
}
  where
    here : slice_get (map relation_outline d.relations) n ≡ Some (relation_outline h.after)
    here = outline_here c.relations d.relations n h.before h.after h.rewritten

    limits : d.limits ≡ c.limits
    limits = ap (λ (x : CatalogState). x.limits) h.same

    names : d.names ≡ c.names
    names = ap (λ (x : CatalogState). x.names) h.same

    again : rows_go refs (relation_outline h.after) ≡ relation_outline h.before
    again =
        outline_without refs h.after h.before (record {
          schema = sym h.rewritten.keeps.schema;
          targets = sym h.rewritten.keeps.targets;
          declared = sym h.rewritten.keeps.declared;
          counted = sym h.rewritten.keeps.counted;
        })
        (record { hidden = sym h.aside.hidden; owed = sym h.aside.owed })
        (without_is refs h.after.rows h.before.rows (λ q there. All-contains (λ p. get h.before.rows p ≡ None) refs q h.fresh there) (λ q no. sym (h.others q no)))

    relations : changed_at (rows_go refs) n (map relation_outline d.relations) ≡ map relation_outline c.relations
    relations = changed_back c.relations d.relations n h.before h.after h.rewritten (rows_go refs) again

-- ---- rows that went

-- free rows that go leave the keys of those that have referrers
pub deleted_rewritten : (old new : List RelationState) (n : ℕ) (refs : List TupleRef) (h : AreDeleted old new n refs) → AllFree old n refs → IsRewritten old new n h.before h.after
deleted_rewritten old new n refs h free =
    subst (λ rs. IsRewritten old rs n h.before h.after) (sym h.list)
    (rewritten_from old h.front n h.before h.after h.there h.unlinked.counted.recounted h.removed.keeps
    (λ q held some. ap (option_and_then (λ (u : Row). Some u.key))
    (h.removed.others q (λ there. let zero : referrers_at h.before.referrers q ≡ 0 = All-contains (IsFree h.before) refs q (free h.before h.there) there in absurd (omega (arith, zero, some))))))

-- free rows that went are those by which the outline differs
pub gone_outlined : (c d : CatalogState) (n : ℕ) (refs : List TupleRef) → HaveGone c d n refs → AreFreeRows c n refs → outline_of d ≡ without_rows n refs (outline_of c)
gone_outlined c d n refs gone free = λ i. record { limits = limits i; names = names i; relations = relations i }
  where
    b : RelationState
    b = gone.out.deleted.before

    a : RelationState
    a = gone.out.deleted.after

    removed : AreRemoved b a refs
    removed = gone.out.deleted.removed

    limits : d.limits ≡ c.limits
    limits = ap (λ (x : CatalogState). x.limits) gone.same

    names : d.names ≡ c.names
    names = ap (λ (x : CatalogState). x.names) gone.same

    relations : map relation_outline d.relations ≡ changed_at (rows_go refs) n (map relation_outline c.relations)
    relations =
        changed_forth c.relations d.relations n b a (deleted_rewritten c.relations d.relations n refs gone.out.deleted free) (rows_go refs)
        (sym (outline_without refs b a removed.keeps gone.out.aside (without_is refs b.rows a.rows removed.gone removed.others)))

-- ---- a row that came

-- a row that came is the one by which the outline differs
pub came_outlined : (c d : CatalogState) (n : ℕ) (values : List Value) (result : Result TupleRef Refusal) → IfOk result (HasCome c d n values)
    → IfOk result (λ r. HasRowsMore (outline_of c) (outline_of d) n (r ∷ []))
came_outlined c d n values (Ok r) come =
    more_outlined c d n (r ∷ []) (more_then c c d n values [] r (more_none c n come.inserted.before come.inserted.there) come)
came_outlined c d n values (Err refusal) come = come
