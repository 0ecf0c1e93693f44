use Rattle.std.proofs.Common.{◌≡◌, true, ◌-◌, ◌++◌, List, Some, drop, length, map, refl, sym, take, ap, ◌∙◌, subst, arith}
use Rattle.std.specs.FinMap as finite
use Rattle.std.specs.List.{slice_get}
use Rattle.std.specs.Prelude.{Result, Ok, Err, OnOk}
use Rattle.std.specs.Result.{is_err}
use Rattle.std.specs.String.{string_bytes}
use Rattle.std.proofs.lemmas.Bool.{false≢true}
use Rattle.std.proofs.Math.Seq.{drop-append_seam}
use Rattle.std.proofs.lemmas.Result.{on_ok_weaker}
use Rattle.std.proofs.lemmas.Option.{same_Some, slice_get_read}
use Rattle.part_raw.specs.declared.tuple_ref.TupleRef.{TupleRef}
use Rattle.plain_tables.specs.ResolvedLaws.{IsMeant}
use Rattle.plain_tables.specs.declared.resolved.Resolved.TheVariants as resolved
use Rattle.mm_relation.specs.State.{RelationState, tree_list}
use Rattle.mm_catalog.specs.State.{CatalogState}
use Rattle.mm_catalog.specs.Seen.{database_of}
use Rattle.mm_catalog.specs.Changes.{IsDone}
use Rattle.mm_catalog.specs.Consistent.{IsConsistent}
use Rattle.mm_catalog.specs.Emptied.{HaveGoneOut}
use Rattle.mm_catalog.specs.Hidden.{AreHiddenAt}
use Rattle.mm_catalog.proofs.Dropping.{within}
use Rattle.mm_catalog.proofs.Emptied.{all_free, all_held, all_once, consistent_when, emptied_drops, emptied_meant, emptied_outline, emptied_rows}
use Rattle.mm_catalog.proofs.Lists.{rest_whole, whole}
use Rattle.mm_catalog.proofs.Standing.{stands_at}
use Rattle.mm_catalog.proofs.catalog.Catalog.empty_table.Goals as goal
use Rattle.mm_catalog.proofs.catalog.Catalog.empty_table.Goals.{After-deref, then-is_err, else-is_err}

abbrev seen : After-deref → CatalogState
seen c = record { limits = c.self.inside.limits; names = map string_bytes c.self.inside.names.keys; relations = c.self.inside.relations.items }

-- what the call is asked to drop
asked : (c : After-deref) → IsMeant (seen c).limits (database_of (seen c)) (resolved.DropTable c.args.table)
asked c = rw (← c.self.view_is) at c.requires

-- the references that were listed
abbrev listed : After-deref → List TupleRef
listed c = take (length c.deref.result.now - c.len-start.result) (drop c.len-start.result c.deref.result.now)

listed_at : (c : After-deref) → listed c ≡ tree_list c.index.result.now.by_key
listed_at c =
    let start : c.len-start.result ≡ length c.args.refs.now.items = omega (arith, c.len-start.ensures, c.args.refs.now.ok.0) in
    ap (λ (xs : List TupleRef). take (length xs - c.len-start.result) (drop c.len-start.result xs)) (c.deref.ensures.value ∙ c.in_ok-list_rows.ensures.listed)
    ∙ ap (λ k. take (length (c.args.refs.now.items ++ tree_list c.index.result.now.by_key) - k) (drop k (c.args.refs.now.items ++ tree_list c.index.result.now.by_key))) start
    ∙ rest_whole (c.args.refs.now.items ++ tree_list c.index.result.now.by_key) (length c.args.refs.now.items)
    ∙ drop-append_seam c.args.refs.now.items (tree_list c.index.result.now.by_key)

-- they are those of the rows of the table
these : (c : After-deref) (s : RelationState) → slice_get (seen c).relations c.args.table.0 ≡ Some s → listed c ≡ tree_list s.by_key
these c s there =
    let inside = within (seen c) c.self.invariant c.args.table (asked c) in
    let read = slice_get_read (seen c).relations (length (seen c).relations) c.args.table.0 c.index.result.now refl inside c.index.ensures in
    listed_at c ∙ ap (λ (u : RelationState). tree_list u.by_key) (same_Some c.index.result.now s (sym read ∙ there))

pub index-requires : goal.index-requires
index-requires c =
    let s : CatalogState = record { limits = c.self.inside.limits; names = map string_bytes c.self.inside.names.keys; relations = c.self.inside.relations.items } in
    let meant : IsMeant s.limits (database_of s) (resolved.DropTable c.args.table) = rw (← c.self.view_is) at c.requires in
    omega (arith, within s c.self.invariant c.args.table meant, c.self.inside.relations.ok.0)

pub hide_free-hidden-requires : goal.hide_free-hidden-requires
hide_free-hidden-requires c =
    let at = (goal.at.hide_free-hidden-requires c).After-deref in
    let s = seen at in
    rw c.as_mut_slice.ensures.value (record {
      there = within s c.self.invariant c.args.table (asked at);
      stands = stands_at s c.self.invariant c.args.table.0;
      held = all_held s c.self.invariant c.args.table (asked at) (listed at) (these at);
      once = all_once s c.self.invariant c.args.table (asked at) (listed at) (these at);
      free = all_free s c.self.invariant c.args.table (asked at) (listed at) (these at);
    })

pub invariant_of-self : goal.invariant_of-self
invariant_of-self c =
    let at = (goal.at.invariant_of-self c).After-deref in
    let s = seen at in
    let back = whole c.hide_free-hidden.new.relations (drop (length c.hide_free-hidden.new.relations) c.self.inside.relations.items) c.self.inside.relations.len (omega (arith, c.hide_free-hidden.auto.relations, ap length c.as_mut_slice.ensures.value, c.self.inside.relations.ok.0)) in
    subst (λ (rs : List RelationState). IsConsistent (record s { relations = rs })) (sym back)
    (consistent_when s c.self.invariant c.args.table (asked at) (listed at) (these at) c.hide_free-hidden.result c.hide_free-hidden.new.relations (rw c.as_mut_slice.ensures.value at c.hide_free-hidden.ensures.hidden) (rw c.as_mut_slice.ensures.value at c.hide_free-hidden.ensures.unchanged))

-- what failed says nothing of success
not_done : {A E : Type 0} (r : Result A E) (P : Type 0) → is_err r ≡ true → OnOk r P
not_done (Ok x) P failed = absurd (false≢true failed)
not_done (Err why) P failed = tt

pub returns-clause-hidden : goal.returns-clause-hidden
returns-clause-hidden c =
    let at = (goal.at.returns-clause-hidden c).After-deref in
    let s = seen at in
    let old = c.args.refs.now.items in
    let back = whole c.hide_free-hidden.new.relations (drop (length c.hide_free-hidden.new.relations) c.self.inside.relations.items) c.self.inside.relations.len (omega (arith, c.hide_free-hidden.auto.relations, ap length c.as_mut_slice.ensures.value, c.self.inside.relations.ok.0)) in
    let gone : OnOk c.hide_free-hidden.result (HaveGoneOut s (record s { relations = take c.self.inside.relations.len (c.hide_free-hidden.new.relations ++ drop (length c.hide_free-hidden.new.relations) c.self.inside.relations.items) }) c.args.table.0 old c.list_rows.new.refs.items) =
    on_ok_weaker c.hide_free-hidden.result
    (λ (h : AreHiddenAt s.relations c.hide_free-hidden.new.relations c.args.table.0 (listed at)). subst (λ (rs : List RelationState). HaveGoneOut s (record s { relations = rs }) c.args.table.0 old c.list_rows.new.refs.items) (sym back) (record {
      refs = listed at;
      more = emptied_outline s c.self.invariant c.args.table (asked at) (listed at) (these at) c.hide_free-hidden.new.relations h;
      list = c.in_ok-list_rows.ensures.listed ∙ ap (λ (all : List TupleRef). old ++ all) (sym (listed_at at));
    }))
    (rw c.as_mut_slice.ensures.value at c.hide_free-hidden.ensures.hidden) in
    rw (← c.self.view_is)
    (elim c.if-is_err.branch [
      | then-is_err w ↦ not_done c.hide_free-hidden.result _ (sym c.is_err.ensures.value ∙ w.if-is_err.true)
      | else-is_err w ↦
          subst (λ (refs : List TupleRef). OnOk c.hide_free-hidden.result (HaveGoneOut s (record s { relations = take c.self.inside.relations.len (c.hide_free-hidden.new.relations ++ drop (length c.hide_free-hidden.new.relations) c.self.inside.relations.items) }) c.args.table.0 old refs))
          (ap (λ refs. refs.items) (sym w.refs-is)) gone
    ])

pub returns-clause-empty : goal.returns-clause-empty
returns-clause-empty c =
    let at = (goal.at.returns-clause-empty c).After-deref in
    let s = seen at in
    let back = whole c.hide_free-hidden.new.relations (drop (length c.hide_free-hidden.new.relations) c.self.inside.relations.items) c.self.inside.relations.len (omega (arith, c.hide_free-hidden.auto.relations, ap length c.as_mut_slice.ensures.value, c.self.inside.relations.ok.0)) in
    on_ok_weaker c.hide_free-hidden.result
    (λ (h : AreHiddenAt s.relations c.hide_free-hidden.new.relations c.args.table.0 (listed at)). subst (λ (rs : List RelationState). (t : RelationState) → slice_get rs c.args.table.0 ≡ Some t → t.rows ≡ finite.empty) (sym back) (emptied_rows s c.self.invariant c.args.table (asked at) (listed at) (these at) c.hide_free-hidden.new.relations h))
    (rw c.as_mut_slice.ensures.value at c.hide_free-hidden.ensures.hidden)

pub returns-clause-meant : goal.returns-clause-meant
returns-clause-meant c =
    let at = (goal.at.returns-clause-meant c).After-deref in
    let s = seen at in
    let back = whole c.hide_free-hidden.new.relations (drop (length c.hide_free-hidden.new.relations) c.self.inside.relations.items) c.self.inside.relations.len (omega (arith, c.hide_free-hidden.auto.relations, ap length c.as_mut_slice.ensures.value, c.self.inside.relations.ok.0)) in
    on_ok_weaker c.hide_free-hidden.result
    (λ (h : AreHiddenAt s.relations c.hide_free-hidden.new.relations c.args.table.0 (listed at)). subst (λ (rs : List RelationState). IsMeant s.limits (database_of (record s { relations = rs })) (resolved.DropTable c.args.table)) (sym back) (emptied_meant s c.self.invariant c.args.table (asked at) (listed at) (these at) c.hide_free-hidden.new.relations h))
    (rw c.as_mut_slice.ensures.value at c.hide_free-hidden.ensures.hidden)

pub returns-clause-drops : goal.returns-clause-drops
returns-clause-drops c =
    let at = (goal.at.returns-clause-drops c).After-deref in
    let s = seen at in
    let back = whole c.hide_free-hidden.new.relations (drop (length c.hide_free-hidden.new.relations) c.self.inside.relations.items) c.self.inside.relations.len (omega (arith, c.hide_free-hidden.auto.relations, ap length c.as_mut_slice.ensures.value, c.self.inside.relations.ok.0)) in
    rw (← c.self.view_is)
    (on_ok_weaker c.hide_free-hidden.result
    (λ (h : AreHiddenAt s.relations c.hide_free-hidden.new.relations c.args.table.0 (listed at)). subst (λ (rs : List RelationState). (d : CatalogState) → IsDone (record s { relations = rs }) d (resolved.DropTable c.args.table) → IsDone s d (resolved.DropTable c.args.table)) (sym back) (emptied_drops s c.self.invariant c.args.table (asked at) (listed at) (these at) c.hide_free-hidden.new.relations h))
    (rw c.as_mut_slice.ensures.value at c.hide_free-hidden.ensures.hidden))
