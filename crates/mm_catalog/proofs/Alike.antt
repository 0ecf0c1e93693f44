-- A catalog of relations that show the rows that they showed: their declared indexes may be others, and they may keep the numbers
-- of their rows' referrers now.
use Rattle.std.proofs.Common.{◌≡◌, ℕ, IsTrue, List, Some, is_some, refl, sym, ap, ◌∙◌, subst, arith, length, map, set, get_or, length-set}
use Rattle.std.specs.List.{slice_get, count_by}
use Rattle.std.specs.FinMap as finite
use Rattle.std.proofs.lemmas.Option.{slice_get_within, slice_get-get_or}
use Rattle.common_lemmas.proofs.Places.{slice_get-inside}
use Rattle.part_raw.specs.declared.tuple_ref.TupleRef.{TupleRef}
use Rattle.plain_tables.specs.References.{IsSound}
use Rattle.mm_relation.specs.Rows.{referrers_at}
use Rattle.mm_relation.specs.State.{RelationState, IsKept, IsCurrent, linked_keys}
use Rattle.mm_catalog.specs.State.{CatalogState}
use Rattle.mm_catalog.specs.Seen.{database_of, table_of, rows_of, values_of, plain_index}
use Rattle.mm_catalog.specs.Linked.{target_of, target_at, links_to, is_link_to, HasLinksOrNulls}
use Rattle.mm_catalog.specs.Consistent.{IsAmong, IsConsistent, AreCounted}
use Rattle.mm_catalog.proofs.Among.{among_at}
use Rattle.mm_catalog.proofs.Lists.{each_set, map_alike}
use Rattle.mm_catalog.proofs.Outlines.{Outline, outline, outlines, same_keys, same_links}

pub record IsAlike (old new : RelationState) : Type 0 where
  pub schema : new.schema ≡ old.schema
  pub outline : outline new ≡ outline old
  pub referrers : new.referrers ≡ old.referrers
  pub counted : IsTrue old.counted → IsTrue new.counted

pub record AreAlike (old new : List RelationState) : Type 0 where
  pub count : length new ≡ length old
  pub each : (k : ℕ) (s t : RelationState) → slice_get old k ≡ Some s → slice_get new k ≡ Some t → IsAlike s t

-- one relation among others
pub AreAlike-set : (relations : List RelationState) (n : ℕ) (s t : RelationState) → slice_get relations n ≡ Some s → IsAlike s t → AreAlike relations (set relations n t)
AreAlike-set relations n s t at alike = record {
  count = length-set relations n t;
  each = each_set IsAlike (λ u. record { schema = refl; outline = refl; referrers = refl; counted = λ counted. counted }) relations n s t at alike;
}

module _ (c : CatalogState) (ok : IsConsistent c) (new : List RelationState) (h : AreAlike c.relations new) where
  before : (k : ℕ) (t : RelationState) → slice_get new k ≡ Some t → (s : RelationState) × (slice_get c.relations k ≡ Some s) × IsAlike s t
  before k t at =
      let s = slice_get-inside c.relations k (omega (arith, h.count, slice_get_within new k t at)) in
      (s.0, s.1, h.each k s.0 t s.1 at)

  pub same_outlines : outlines new ≡ outlines c.relations
  same_outlines = map_alike outline c.relations new h.count (λ k s t at here. (h.each k s t at here).outline)

  among_alike : (k : ℕ) (t : RelationState) → slice_get new k ≡ Some t → IsKept t → IsCurrent (linked_keys t.targets c.relations) t → IsAmong c.names new t
  among_alike k t at kept current =
      let s = before k t at in
      let a = among_at c ok k s.0 s.1 in
      let targets : t.targets ≡ s.0.targets = ap (λ (o : Outline). o.0) s.2.outline in
      record {
        kept = kept;
        targets = targets ∙ a.targets ∙ ap (λ (columns : List _). map (target_of c.names) columns) (ap (λ schema. schema.columns) (sym s.2.schema));
        counted = λ column table u e here.
            let was = before table u here in
            was.2.counted (a.counted column table was.0 (ap (λ ts. target_at ts column) (sym targets) ∙ e) was.1);
        linked = λ r row e. subst (λ ts. HasLinksOrNulls ts row) (sym targets) (a.linked r row (ap (λ (o : Outline). finite.get o.1 r) (sym s.2.outline) ∙ e));
        current = subst (λ keys. IsCurrent keys t) (sym (same_keys t.targets new c.relations same_outlines)) current;
      }

  same_counts : (table : ℕ) (r : TupleRef) → links_to new table r ≡ links_to c.relations table r
  unfolding links_to
  same_counts table r = ap (count_by (is_link_to table r)) (same_links new c.relations same_outlines)

  counted_alike : AreCounted new
  counted_alike table t r at held =
      let s = before table t at in
      ap (λ numbers. referrers_at numbers r) s.2.referrers ∙ ok.counted table s.0 r s.1 (ap (λ (o : Outline). is_some (finite.get o.1 r)) (sym s.2.outline) ∙ held) ∙ sym (same_counts table r)

  -- each table differs in its declared indexes at most
  pub table_alike : (k : ℕ) (name : List ℕ) (s t : RelationState) → slice_get c.relations k ≡ Some s → slice_get new k ≡ Some t → table_of new name t ≡ record (table_of c.relations name s) { indexes = map plain_index t.declared }
  unfolding table_of rows_of
  table_alike k name s t at here =
      let a = h.each k s t at here in
      let keys : linked_keys t.targets new ≡ linked_keys s.targets c.relations = ap (λ (o : Outline). linked_keys o.0 new) a.outline ∙ same_keys s.targets new c.relations same_outlines in
      λ j. record { name = name; columns = (a.schema j).columns; indexes = map plain_index t.declared; rows = map (values_of (keys j) (length (a.schema j).columns) (a.outline j).1) (a.outline j).2 }

  -- it is consistent still, if the database is sound
  pub consistent_alike : ((k : ℕ) (t : RelationState) → slice_get new k ≡ Some t → IsKept t × IsCurrent (linked_keys t.targets c.relations) t) → IsSound c.limits (database_of (record c { relations = new })) → IsConsistent (record c { relations = new })
  consistent_alike each sound = record {
    named = ok.named ∙ sym h.count;
    rows = ok.rows;
    sound = sound;
    each = λ k d l.
        let at = slice_get-get_or new k d l in
        let its = each k (get_or new k d) at in
        among_alike k (get_or new k d) at its.0 its.1;
    counted = counted_alike;
  }
