-- Rows that came into a table go out again: the database is as before.
use Rattle.std.proofs.Common.{◌≡◌, ℕ, Bool, true, false, List, Some, None, refl, sym, ap, ◌∙◌, subst, arith, length, map, set}
use Rattle.std.specs.List.{Contains, list_any, slice_get}
use Rattle.std.specs.Option.{option_and_then}
use Rattle.std.specs.FinMap.{get}
use Rattle.std.proofs.lemmas.Bool.{false≢true}
use Rattle.std.proofs.lemmas.List.{set-get_or}
use Rattle.std.proofs.lemmas.List.Elements.{All-contains}
use Rattle.std.proofs.lemmas.List.Folds.{Any-from_list_any, list_any-from_Any}
use Rattle.std.proofs.lemmas.Option.{same_Some, slice_get_within, get_or_from_slice_get}
use Rattle.part_raw.specs.declared.tuple_ref.TupleRef.{TupleRef}
use Rattle.part_raw.proofs.Tuples.{same_ref, same_ref_self, same_ref_true, same_tuples}
use Rattle.mm_relation.specs.Rows.{Row, referrers_at}
use Rattle.mm_relation.specs.Reading.{key_at}
use Rattle.mm_relation.specs.State.{tree_list, RelationState, IsKeyed, linked_keys}
use Rattle.mm_catalog.specs.State.{CatalogState}
use Rattle.mm_catalog.specs.Seen.{database_of, table_of, rows_of, values_of, plain_index}
use Rattle.mm_catalog.specs.Consistent.{IsConsistent}
use Rattle.mm_catalog.specs.Changes.{KeepsDatabase}
use Rattle.mm_catalog.specs.Deleted.{AreRemoved, IsFree}
use Rattle.mm_catalog.specs.Loaded.{HaveGone, HasMore}
use Rattle.mm_catalog.specs.Recounted.{IsRewritten, KeepsColumns}
use Rattle.mm_catalog.proofs.Among.{among_at, named_at}
use Rattle.mm_catalog.proofs.Elsewhere.{rewritten_from, database_rewritten}
use Rattle.mm_catalog.proofs.Loaded.{rewritten_then}
use Rattle.mm_catalog.proofs.Keyed.{keyed_unique}
use Rattle.mm_catalog.proofs.Tables.{database-get}

module _ (c : CatalogState) (ok : IsConsistent c) (d e : CatalogState) (n : ℕ) (refs : List TupleRef) (h : HasMore c d n refs) (gone : HaveGone d e n refs) where
  abbrev b : RelationState
  b = h.before

  abbrev m : RelationState
  m = h.after

  abbrev z : RelationState
  z = gone.out.deleted.after

  this : gone.out.deleted.before ≡ m
  this = same_Some gone.out.deleted.before m (sym gone.out.deleted.there ∙ h.rewritten.here)

  removed : AreRemoved m z refs
  removed = subst (λ s. AreRemoved s z refs) this gone.out.deleted.removed

  by_member : (q : TupleRef) (among : Bool) → list_any (same_ref q) refs ≡ among → get z.rows q ≡ get b.rows q
  by_member q true e =
      let found = Any-from_list_any (same_ref q) refs e in
      let there : Contains refs q = subst (Contains refs) (sym (same_ref_true q found.1 found.4)) (found.0, found.2, found.3) in
      removed.gone q there ∙ sym (All-contains (λ p. get b.rows p ≡ None) refs q h.fresh there)
  by_member q false e =
      let no : Contains refs q → ⊥ = λ there. false≢true (sym e ∙ list_any-from_Any (same_ref q) refs (there.0, q, there.1, there.2, same_ref_self q)) in
      removed.others q no ∙ h.others q no

  rows_again : z.rows ≡ b.rows
  rows_again = same_tuples z.rows b.rows (λ q. by_member q (list_any (same_ref q) refs) refl)

  keys_again : (tree_list z.by_key) ≡ (tree_list b.by_key)
  keys_again =
      keyed_unique b.rows (tree_list z.by_key) (tree_list b.by_key) (subst (λ rows. IsKeyed rows (tree_list z.by_key)) rows_again gone.out.deleted.kept.keyed)
      (among_at c ok n b h.rewritten.there).kept.keyed

  keeps : KeepsColumns b z
  keeps = record {
    schema = removed.keeps.schema ∙ h.rewritten.keeps.schema;
    targets = removed.keeps.targets ∙ h.rewritten.keeps.targets;
    declared = removed.keeps.declared ∙ h.rewritten.keeps.declared;
    counted = removed.keeps.counted ∙ h.rewritten.keeps.counted;
  }

  step : IsRewritten d.relations e.relations n m z
  step =
      subst (λ rs. IsRewritten d.relations rs n m z) (sym gone.out.deleted.list)
      (rewritten_from d.relations gone.out.deleted.front n m z h.rewritten.here gone.out.deleted.unlinked.counted.recounted removed.keeps
      (λ q held some. ap (option_and_then (λ (u : Row). Some u.key))
      (removed.others q (λ there. let zero : referrers_at m.referrers q ≡ 0 = All-contains (IsFree m) refs q h.free there in absurd (omega (arith, zero, some))))))

  all : IsRewritten c.relations e.relations n b z
  all = rewritten_then c.relations d.relations e.relations n b m z h.rewritten step (λ q held. ap (λ rows. key_at rows q) rows_again)

  table_again : (name : List ℕ) → table_of c.relations name z ≡ table_of c.relations name b
  unfolding table_of rows_of
  table_again name = λ i. record {
    name = name;
    columns = (keeps.schema i).columns;
    indexes = map plain_index (keeps.declared i);
    rows = map (values_of (linked_keys (keeps.targets i) c.relations) (length (keeps.schema i).columns) (rows_again i)) (keys_again i);
  }

  pub taken_back : KeepsDatabase c e
  taken_back =
      let within = slice_get_within c.relations n b h.rewritten.there in
      let name = named_at c ok n within in
      let same : e ≡ record c { relations = e.relations } = gone.same ∙ ap (λ (x : CatalogState). record x { relations = e.relations }) h.same in
      let table = table_of c.relations name.0 b in
      let there : slice_get (database_of c) n ≡ Some table = database-get c ok.named n name.0 b name.1 h.rewritten.there in
      record {
        database =
            ap database_of same ∙ database_rewritten c ok n e.relations b z all name.0 name.1 ∙ ap (set (database_of c) n) (table_again name.0)
            ∙ ap (set (database_of c) n) (sym (get_or_from_slice_get (database_of c) n table table there)) ∙ set-get_or (database_of c) n table;
        limits = ap (λ (x : CatalogState). x.limits) same;
      }
