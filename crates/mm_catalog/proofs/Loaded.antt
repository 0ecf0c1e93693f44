-- Rows that come into a table one after the other.
use Rattle.std.proofs.Common.{◌≡◌, ◌≢◌, ℕ, List, [], ◌∷◌, ◌++◌, Some, None, IsSome, is_some, refl, sym, ap, ◌∙◌, subst, arith, get_or, Option}
use Rattle.part_raw.specs.Store.{Tuples}
use Rattle.std.specs.List.{Contains, slice_get}
use Rattle.std.specs.Option.{option_and_then, unwrap_or}
use Rattle.std.specs.FinMap.{get, insert}
use Rattle.std.proofs.lemmas.Bool.{false≢true}
use Rattle.std.proofs.lemmas.List.Elements.{All-contains, All-push, Contains-append_left, Contains-push}
use Rattle.std.proofs.lemmas.List.Quantifiers.{all_pairs_push}
use Rattle.std.proofs.lemmas.Option.{same_Some, slice_get_within}
use Rattle.common_lemmas.proofs.Places.{slice_get-inside}
use Rattle.common_lemmas.proofs.Pairs.{AllPairs-nil}
use Rattle.part_raw.specs.declared.tuple_ref.TupleRef.{TupleRef}
use Rattle.part_raw.proofs.Tuples.{get-insert_same, get-insert_other}
use Rattle.plain_tables.specs.declared.value.Value.{Value}
use Rattle.mm_relation.specs.Rows.{Row, referrers_at}
use Rattle.mm_relation.specs.Changes.{new_row}
use Rattle.mm_relation.specs.Reading.{key_at}
use Rattle.mm_relation.specs.State.{RelationState}
use Rattle.mm_catalog.specs.State.{CatalogState}
use Rattle.mm_catalog.specs.Deleted.{IsFree}
use Rattle.mm_catalog.specs.Loaded.{HasCome, HasMore}
use Rattle.mm_catalog.specs.Recounted.{IsRewritten, KeepsColumns, KeepsAside}
use Rattle.mm_catalog.proofs.Elsewhere.{rewritten_from}
use Rattle.mm_catalog.proofs.Counted.{AreRecounted-refl, IsRecounted-trans}
use Rattle.mm_catalog.proofs.Kept.{columns_kept, aside_kept}

-- ---- one relation is another one, twice

pub rewritten_then : (old mid new : List RelationState) (n : ℕ) (b m a : RelationState) → IsRewritten old mid n b m → IsRewritten mid new n m a → ((r : TupleRef) → IsSome (get b.rows r) → key_at a.rows r ≡ key_at b.rows r) → IsRewritten old new n b a
rewritten_then old mid new n b m a h l keys = record {
  there = h.there;
  here = l.here;
  count = l.count ∙ h.count;
  others = λ k s u other at now.
      let t = slice_get-inside mid k (omega (arith, h.count, slice_get_within old k s at)) in
      IsRecounted-trans s t.0 u (h.others k s t.0 other at t.1) (l.others k t.0 u other t.1 now);
  keeps = record {
    schema = l.keeps.schema ∙ h.keeps.schema;
    targets = l.keeps.targets ∙ h.keeps.targets;
    declared = l.keeps.declared ∙ h.keeps.declared;
    counted = l.keeps.counted ∙ h.keeps.counted;
  };
  keys = λ r held some. keys r held;
}

-- ---- rows that come in

pub more_none : (c : CatalogState) (n : ℕ) (s : RelationState) → slice_get c.relations n ≡ Some s → HasMore c c n []
more_none c n s there = record {
  before = s;
  after = s;
  rewritten = record {
    there = there;
    here = there;
    count = refl;
    others = λ k t u other at now. (AreRecounted-refl c.relations).each k t u at now;
    keeps = record { schema = refl; targets = refl; declared = refl; counted = refl };
    keys = λ r held some. refl;
  };
  aside = record { hidden = refl; owed = refl };
  same = refl;
  held = λ k d l. absurd (omega arith);
  free = λ k d l. absurd (omega arith);
  fresh = λ k d l. absurd (omega arith);
  once = AllPairs-nil (λ q r. q ≢ r);
  others = λ r no. refl;
}

module _ (c d e : CatalogState) (n : ℕ) (values : List Value) (refs : List TupleRef) (r : TupleRef) (h : HasMore c d n refs) (come : HasCome d e n values r) where
  abbrev b : RelationState
  b = h.before

  abbrev m : RelationState
  m = h.after

  abbrev a : RelationState
  a = come.inserted.after

  abbrev row : Row
  row = new_row come.inserted.key come.inserted.cells

  this : come.inserted.before ≡ m
  this = same_Some come.inserted.before m (sym come.inserted.there ∙ h.rewritten.here)

  is_free : get m.rows r ≡ None
  is_free = subst (λ (s : RelationState). get s.rows r ≡ None) this come.inserted.taken.inserted.free

  rows_now : a.rows ≡ insert m.rows r row
  rows_now = come.inserted.taken.inserted.rows ∙ ap (λ (s : RelationState). insert s.rows r row) this

  keeps : KeepsColumns m a
  keeps = subst (λ s. KeepsColumns s a) this (columns_kept come.inserted.before a come.inserted.taken.inserted.keeps)

  aside : KeepsAside m a
  aside = subst (λ s. KeepsAside s a) this (aside_kept come.inserted.before a come.inserted.taken.inserted.keeps)

  stays : (q : TupleRef) → q ≢ r → get a.rows q ≡ get m.rows q
  stays q other = ap (λ rows. get rows q) rows_now ∙ get-insert_other m.rows r q row other

  itself : get a.rows r ≡ Some row
  itself = ap (λ rows. get rows r) rows_now ∙ get-insert_same m.rows r row

  not_new : (q : TupleRef) → IsSome (get m.rows q) → q ≢ r
  not_new q some same = false≢true (subst IsSome (ap (get m.rows) same ∙ is_free) some)

  still : (q : TupleRef) → IsSome (get m.rows q) → get a.rows q ≡ get m.rows q
  still q some = stays q (not_new q some)

  step : IsRewritten d.relations e.relations n m a
  step =
      subst (λ rs. IsRewritten d.relations rs n m a) (sym come.inserted.list)
      (rewritten_from d.relations come.inserted.front n m a h.rewritten.here come.inserted.taken.counted.recounted keeps
      (λ q held some. ap (option_and_then (λ (u : Row). Some u.key)) (still q held)))

  not_among : (q : TupleRef) → IsSome (get b.rows q) → Contains refs q → ⊥
  not_among q held there = false≢true (sym (ap is_some (All-contains (λ p. get b.rows p ≡ None) refs q h.fresh there)) ∙ held)

  old_rows : (q : TupleRef) → IsSome (get b.rows q) → get a.rows q ≡ get b.rows q
  old_rows q held =
      let same : get m.rows q ≡ get b.rows q = h.others q (not_among q held) in
      still q (subst IsSome (sym same) held) ∙ same

  numbers_now : a.referrers ≡ insert m.referrers r 0
  numbers_now = come.inserted.taken.inserted.referrers ∙ ap (λ (s : RelationState). insert s.referrers r 0) this

  pub more_then : HasMore c e n (refs ++ r ∷ [])
  more_then = record {
    before = b;
    after = a;
    rewritten = rewritten_then c.relations d.relations e.relations n b m a h.rewritten step (λ q held. ap (option_and_then (λ (u : Row). Some u.key)) (old_rows q held));
    aside = record { hidden = aside.hidden ∙ h.aside.hidden; owed = aside.owed ∙ h.aside.owed };
    same = come.same ∙ ap (λ (x : CatalogState). record x { relations = e.relations }) h.same;
    held = All-push (λ q. IsSome (get a.rows q)) refs r
        (λ k d l. subst IsSome (sym (still (get_or refs k d) (h.held k d l))) (h.held k d l))
        (subst IsSome (sym itself) refl);
    free = All-push (IsFree a) refs r
        (λ k d l.
        ap (λ (numbers : Tuples ℕ). referrers_at numbers (get_or refs k d)) numbers_now
        ∙ ap (λ (o : Option ℕ). unwrap_or o 0) (get-insert_other m.referrers r (get_or refs k d) 0 (not_new (get_or refs k d) (h.held k d l))) ∙ h.free k d l)
        (ap (λ (numbers : Tuples ℕ). referrers_at numbers r) numbers_now ∙ ap (λ (o : Option ℕ). unwrap_or o 0) (get-insert_same m.referrers r 0));
    fresh = All-push (λ q. get b.rows q ≡ None) refs r h.fresh (sym (h.others r new_here) ∙ is_free);
    once = all_pairs_push (λ p q. p ≢ q) refs r h.once (λ k d l. not_new (get_or refs k d) (h.held k d l));
    others = λ q no.
        stays q (λ same. no (subst (Contains (refs ++ r ∷ [])) (sym same) (Contains-push refs r)))
        ∙ h.others q (λ there. no (Contains-append_left refs (r ∷ []) q there));
  }
    where
      new_here : Contains refs r → ⊥
      new_here there = not_new r (All-contains (λ q. IsSome (get m.rows q)) refs r h.held there) refl
