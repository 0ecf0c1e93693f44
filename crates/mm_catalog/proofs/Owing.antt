-- A relation that owes more or fewer rows, or hides others, is otherwise as it was.
use Rattle.std.proofs.Common.{◌≡◌, ℕ, ◌+◌, ◌≤◌, ◌++◌, List, Some, None, IsSome, refl, sym, ap, ◌∙◌, subst, arith, length, map, set}
use Rattle.std.specs.List.{slice_get}
use Rattle.std.specs.FinMap.{get, len}
use Rattle.std.specs.Option.{option_map}
use Rattle.std.proofs.lemmas.List.{map-set}
use Rattle.std.proofs.lemmas.Option.{slice_get-map, slice_get_within}
use Rattle.common_lemmas.proofs.Places.{slice_get-inside}
use Rattle.part_raw.specs.Store.{Tuples}
use Rattle.part_raw.specs.declared.tuple_ref.TupleRef.{TupleRef}
use Rattle.plain_tables.specs.References.{IsSound}
use Rattle.mm_relation.specs.Reading.{Keys}
use Rattle.mm_relation.specs.Rows.{Row}
use Rattle.mm_relation.specs.State.{IsCurrent, IsKept, RelationState, linked_keys}
use Rattle.mm_catalog.specs.State.{CatalogState}
use Rattle.mm_catalog.specs.Seen.{database_of, plain_index, table_of}
use Rattle.mm_catalog.specs.Consistent.{IsConsistent}
use Rattle.mm_catalog.specs.Deleted.{AreRemoved, AreUnlinked}
use Rattle.mm_catalog.specs.Hidden.{AreHidden, AreHiddenAt}
use Rattle.mm_catalog.specs.Linked.{relation_links}
use Rattle.mm_catalog.specs.Outline.{RelationOutline, changed_at, outline_of, relation_outline}
use Rattle.mm_catalog.specs.Standing.{StandsBeside}
use Rattle.mm_catalog.proofs.Alike.{AreAlike, AreAlike-set, consistent_alike, table_alike}
use Rattle.mm_catalog.proofs.Among.{among_at}
use Rattle.mm_catalog.proofs.Lists.{each_set, map-zip-all}
use Rattle.mm_catalog.proofs.Outlined.{changed_here}
use Rattle.mm_catalog.proofs.Taking.{IsSplit}

pub kept_aside : (s : RelationState) (hidden : Tuples Row) (k : ℕ) → IsKept s → IsKept (record s { hidden = hidden; owed = k })
kept_aside s hidden k kept = record { keyed = kept.keyed; few = kept.few; width = kept.width; trees = kept.trees; hashes = kept.hashes; within = kept.within }

pub current_aside : (keys : Keys) (s : RelationState) (hidden : Tuples Row) (k : ℕ) → IsCurrent keys s → IsCurrent keys (record s { hidden = hidden; owed = k })
current_aside keys s hidden k current = record { readable = current.readable; trees = current.trees; hashes = current.hashes }

pub stands_owing : (before : List RelationState) (s : RelationState) (k : ℕ) → StandsBeside before s → StandsBeside before (record s { owed = k })
unfolding relation_links
stands_owing before s k stands = record {
  kept = stands.kept;
  back = stands.back;
  current = current_aside (linked_keys s.targets before) s s.hidden k stands.current;
  counted = stands.counted;
  enough = stands.enough;
  room = stands.room;
}

-- rows that are hidden in a relation that owes them
module _ (relations : List RelationState) (n : ℕ) (refs : List TupleRef) (first back : List RelationState) (s : RelationState) (split : IsSplit relations n first back s) (t a : RelationState) (front : List RelationState)
    (owing : t ≡ record s { owed = s.owed + length refs }) where
  unlinked_owing : (k : ℕ) → AreUnlinked first front (record s { owed = k }) a → AreUnlinked first front s a
  unfolding relation_links
  unlinked_owing k h = record { fewer = h.fewer; counted = h.counted; links = h.links }

  removed_owing : (k : ℕ) → AreRemoved (record s { owed = k }) a refs → AreRemoved s a refs
  removed_owing k h = record {
    gone = h.gone;
    others = h.others;
    counts = h.counts;
    keeps = record { schema = h.keeps.schema; targets = h.keeps.targets; declared = h.keeps.declared; counted = h.keeps.counted };
  }

  hidden_owing : (k : ℕ) → AreHidden (record s { owed = k }) a refs → AreHidden s a refs
  hidden_owing k h = record { hidden = h.hidden; others = h.others }

  pub hidden_there : AreUnlinked first front t a → AreRemoved t a refs → AreHidden t a refs → a.owed ≡ t.owed → IsKept a → IsCurrent (linked_keys t.targets first) a → len s.hidden ≤ s.owed → ((r : TupleRef) → IsSome (get s.hidden r) → get s.rows r ≡ None)
      → AreHiddenAt relations (front ++ set back 0 a) n refs
  hidden_there unlinked removed hidden owed kept current few apart = record {
    deleted = record {
      front = front;
      before = s;
      after = a;
      there = split.there;
      list = ap (λ rs. front ++ set rs 0 a) split.behind;
      unlinked = subst (λ rs. AreUnlinked rs front s a) split.first (unlinked_owing (s.owed + length refs) (subst (λ u. AreUnlinked first front u a) owing unlinked));
      removed = removed_owing (s.owed + length refs) (subst (λ u. AreRemoved u a refs) owing removed);
      kept = kept;
      current = subst (λ rs. IsCurrent (linked_keys s.targets rs) a) split.first (subst (λ (u : RelationState). IsCurrent (linked_keys u.targets first) a) owing current);
    };
    hidden = hidden_owing (s.owed + length refs) (subst (λ u. AreHidden u a refs) owing hidden);
    apart = apart;
    few = few;
    owed = owed ∙ ap (λ (u : RelationState). u.owed) owing;
  }

-- ---- a relation with other hidden rows, that owes other rows

module _ (c : CatalogState) (ok : IsConsistent c) (n : ℕ) (hidden : Tuples Row) (k : ℕ) (s : RelationState) (there : slice_get c.relations n ≡ Some s) where
  abbrev t : RelationState
  t = record s { hidden = hidden; owed = k }

  abbrev all : List RelationState
  all = set c.relations n t

  abbrev d : CatalogState
  d = record c { relations = all }

  alike : AreAlike c.relations all
  alike = AreAlike-set c.relations n s t there (record { schema = refl; outline = refl; referrers = refl; counted = λ counted. counted })

  same_declared : (j : ℕ) (u v : RelationState) → slice_get c.relations j ≡ Some u → slice_get all j ≡ Some v → v.declared ≡ u.declared
  same_declared = each_set (λ (u v : RelationState). v.declared ≡ u.declared) (λ u. refl) c.relations n s t there refl

  pub database_aside : database_of d ≡ database_of c
  unfolding database_of table_of
  database_aside =
      map-zip-all (λ (x : List ℕ × RelationState). table_of c.relations x.0 x.1) (λ (x : List ℕ × RelationState). table_of all x.0 x.1) c.names c.relations all alike.count
      (λ j name u v named was now. table_alike c ok all alike j name u v was now ∙ ap (λ declared. record (table_of c.relations name u) { indexes = map plain_index declared }) (same_declared j u v was now))

  pub consistent_aside : IsConsistent d
  consistent_aside =
      consistent_alike c ok all alike
      (λ j v at.
      let u = slice_get-inside c.relations j (omega (arith, alike.count, slice_get_within all j v at)) in
      let among = among_at c ok j u.0 u.1 in
      each_set (λ (u v : RelationState). IsKept u × IsCurrent (linked_keys u.targets c.relations) u → IsKept v × IsCurrent (linked_keys v.targets c.relations) v) (λ u h. h) c.relations n s t there
      (λ h. (kept_aside s hidden k h.0, current_aside (linked_keys s.targets c.relations) s hidden k h.1)) j u.0 v u.1 at (among.kept, among.current))
      (subst (IsSound c.limits) (sym database_aside) ok.sound)

  pub outline_aside : (change : RelationOutline → RelationOutline) → relation_outline t ≡ change (relation_outline s) → outline_of d ≡ record (outline_of c) { relations = changed_at change n (map relation_outline c.relations) }
  outline_aside change is =
      let relations : map relation_outline all ≡ changed_at change n (map relation_outline c.relations) =
      map-set relation_outline c.relations n t ∙ ap (set (map relation_outline c.relations) n) is
      ∙ sym (changed_here change n (map relation_outline c.relations) (relation_outline s) (slice_get-map relation_outline c.relations n ∙ ap (option_map relation_outline) there)) in
      λ i. record { limits = c.limits; names = c.names; relations = relations i }
