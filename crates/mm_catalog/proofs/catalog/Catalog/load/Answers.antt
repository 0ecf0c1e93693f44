use Rattle.std.proofs.Common.{◌≡◌, ◌⊎◌, ℕ, ◌+◌, ◌-◌, ◌<◌, [], ◌∷◌, ◌++◌, List, Some, append-nil, append_assoc, length, drop, take, refl, sym, ap, ◌∙◌, subst, arith}
use Rattle.std.specs.FinMap as finite
use Rattle.std.specs.List.{All, slice_get}
use Rattle.std.specs.Option.{IsSome}
use Rattle.std.proofs.Math.Seq.{drop-length}
use Rattle.std.proofs.lemmas.List.{drop-append-le, length_push, take_at}
use Rattle.std.proofs.lemmas.Option.{same_Some, slice_get_within}
use Rattle.common_lemmas.proofs.Places.{slice_get-inside}
use Rattle.plain_tables.specs.Doing.{in_record, load}
use Rattle.plain_tables.specs.Effects.{Refused}
use Rattle.plain_tables.specs.Tables.{Row}
use Rattle.plain_tables.specs.declared.refusal.Refusal.{Refusal}
use Rattle.plain_tables.specs.declared.refusal.Refusal.TheVariants.{NoMemory}
use Rattle.part_raw.specs.declared.tuple_ref.TupleRef.{TupleRef}
use Rattle.mm_relation.specs.State.{RelationState}
use Rattle.mm_catalog.specs.Deleted.{IsFree}
use Rattle.mm_catalog.specs.LoadOrder.{first_row}
use Rattle.mm_catalog.specs.Loaded.{HasMore}
use Rattle.mm_catalog.specs.Seen.{database_of}
use Rattle.mm_catalog.specs.State.{CatalogState}
use Rattle.mm_catalog.proofs.Among.{there_at}
use Rattle.mm_catalog.proofs.Lists.{drop-next, drop-some, first_behind}
use Rattle.mm_catalog.proofs.Loaded.{more_none, more_then}
use Rattle.mm_catalog.proofs.LoadSteps.{under_way_none, under_way_meant, under_way_then, under_way_refused}
use Rattle.mm_catalog.proofs.Outlined.{more_outlined}
use Rattle.mm_catalog.proofs.TakenBack.{taken_back}
use Rattle.mm_catalog.proofs.catalog.Catalog.load.Given.{Over}
use Rattle.mm_catalog.proofs.catalog.Catalog.load.Goals as goal
use Rattle.mm_catalog.proofs.catalog.Catalog.load.Goals.{In-Err}

pub loop-init : goal.loop-init
loop-init g c =
    let old : CatalogState = c.args.self.now in
    let n = c.args.table.0 in
    let there = slice_get-inside old.relations n (there_at old c.a_catalog_is_consistent.ensures n c.requires.0 c.requires.1) in
    let same = c.in_ok-make_room.ensures.same in
    let none = ap (drop (length c.args.came.now.items)) same ∙ drop-length c.args.came.now.items in
    record {
      count = omega (arith, ap length same);
      list = same ∙ sym (append-nil c.args.came.now.items) ∙ ap (λ refs. c.args.came.now.items ++ refs) (sym none);
      left = refl;
      room = omega (arith, c.in_ok-make_room.ensures.room, ap length same, c.len-count.ensures);
      more = subst (HasMore old old n) (sym none) (more_none old n there.0 there.1);
      way = under_way_none old c.args.table (g.R.LoadedRows.left c.args.rows) c.requires;
    }

pub put_next-requires-clause-some : goal.put_next-requires-clause-some
put_next-requires-clause-some g c = drop-some (g.R.LoadedRows.left c.args.rows) c.loop.counter c.loop.invariant.left (omega (arith, c.loop-test.true, c.len-count.ensures))

-- the row whose turn it is
next : (all left : List Row) (i : ℕ) → left ≡ drop i all → i < length all → slice_get all i ≡ Some (first_row left)
next all left i are within = first_behind all i [] within ∙ ap (λ (rows : List Row). Some (first_row rows)) (sym are)

pub put_next-requires-clause-meant : goal.put_next-requires-clause-meant
put_next-requires-clause-meant g c =
    let rows : List Row = g.R.LoadedRows.left c.args.rows in
    let there = next rows (g.R.LoadedRows.left c.loop.rows) c.loop.counter c.loop.invariant.left (omega (arith, c.loop-test.true, c.len-count.ensures)) in
    under_way_meant c.args.self.now c.loop.self c.args.table rows c.loop.counter c.loop.invariant.way _ there

pub loop-preserved : goal.loop-preserved
loop-preserved g c =
    let rows = g.R.LoadedRows.left c.args.rows in
    let there = next rows (g.R.LoadedRows.left c.loop.rows) c.loop.counter c.loop.invariant.left (omega (arith, c.loop-test.true, c.len-count.ensures)) in
    let before = c.args.came.now.items in
    let r = c.in-Ok.r in
    let taken = drop (length before) c.loop.came.items in
    let refs : drop (length before) c.push_reserved.new.self.items ≡ taken ++ r ∷ [] =
    ap (drop (length before)) c.push_reserved.ensures.items ∙ drop-append-le (length before) c.loop.came.items (r ∷ []) (omega (arith, c.loop.invariant.count)) in
    record {
      count = ap length c.push_reserved.ensures.items ∙ omega (arith, c.loop.invariant.count, length_push c.loop.came.items r);
      list =
          c.push_reserved.ensures.items ∙ ap (λ items. items ++ r ∷ []) c.loop.invariant.list ∙ append_assoc before taken (r ∷ [])
          ∙ ap (λ rs. before ++ rs) (sym refs);
      left = c.put_next.ensures.rest ∙ drop-next rows c.loop.counter c.loop.invariant.left;
      room = omega (arith, c.loop.invariant.room, c.push_reserved.ensures.capacity);
      more = subst (HasMore c.args.self.now c.put_next.new.catalog c.args.table.0) (sym refs)
          (more_then c.args.self.now c.loop.self c.put_next.new.catalog c.args.table.0 _ taken r c.loop.invariant.more c.in-Ok.ensures.came);
      way = under_way_then c.args.self.now c.loop.self c.args.table rows c.loop.counter c.loop.invariant.way _ there c.put_next.new.catalog c.in-Ok.ensures.inserted;
    }

-- the references of this load begin behind those that the list had
start_is : (start : ℕ) (list : List TupleRef) → start ≡ length list → (all : List TupleRef) → drop (length list) all ≡ drop start all
start_is start list is all = ap (λ (k : ℕ). drop k all) (sym is)

pub unload-requires-clause-within : goal.unload-requires-clause-within
unload-requires-clause-within g c = omega (arith, c.len-start.ensures, c.args.came.now.ok.0, c.loop.invariant.count)

pub unload-requires-clause-there : goal.unload-requires-clause-there
unload-requires-clause-there g c =
    let can = c.loop.invariant.way.can in
    subst (λ (s : CatalogState). c.args.table.0 < length (database_of s)) (sym c.in-Err.ensures.refused.0)
    (slice_get_within (database_of c.loop.self) c.args.table.0 can.0 can.1)

-- what came before the row that was refused, and goes again
came : (g : Over) (c : In-Err g) → HasMore c.args.self.now c.put_next.new.catalog c.args.table.0 (drop c.len-start.result c.loop.came.items)
came g c =
    let start : c.len-start.result ≡ length c.args.came.now.items = omega (arith, c.len-start.ensures, c.args.came.now.ok.0) in
    subst (HasMore c.args.self.now c.put_next.new.catalog c.args.table.0) (start_is c.len-start.result c.args.came.now.items start c.loop.came.items)
    (subst (λ (s : CatalogState). HasMore c.args.self.now s c.args.table.0 (drop (length c.args.came.now.items) c.loop.came.items)) (sym c.in-Err.ensures.refused.0)
    c.loop.invariant.more)

-- the catalog holds these rows, each once, and no link names them
pub unload-requires-clause-held : goal.unload-requires-clause-held
unload-requires-clause-held g c =
    let more = came g (goal.at.unload-requires-clause-held g c).In-Err in
    λ s there. subst (λ (t : RelationState). All (λ r. IsSome (finite.get t.rows r)) (drop c.len-start.result c.loop.came.items)) (same_Some more.after s (sym more.rewritten.here ∙ there)) more.held

pub unload-requires-clause-once : goal.unload-requires-clause-once
unload-requires-clause-once g c = (came g (goal.at.unload-requires-clause-once g c).In-Err).once

pub unload-requires-clause-free : goal.unload-requires-clause-free
unload-requires-clause-free g c =
    let more = came g (goal.at.unload-requires-clause-free g c).In-Err in
    λ s there. subst (λ (t : RelationState). All (IsFree t) (drop c.len-start.result c.loop.came.items)) (same_Some more.after s (sym more.rewritten.here ∙ there)) more.free

pub returns-in-Err-clause-refused : goal.returns-in-Err-clause-refused
returns-in-Err-clause-refused g c =
    let old : CatalogState = c.args.self.now in
    let rows = g.R.LoadedRows.left c.args.rows in
    let refs : List TupleRef = drop c.len-start.result c.loop.came.items in
    let more = came g (goal.at.returns-in-Err-clause-refused g c).In-Err in
    let there = next rows (g.R.LoadedRows.left c.loop.rows) c.loop.counter c.loop.invariant.left (omega (arith, c.loop-test.true, c.len-count.ensures)) in
    let place : c.len.result - c.len-start.result ≡ c.loop.counter = omega (arith, c.len.ensures, c.len-start.ensures, c.loop.invariant.count, c.loop.came.ok.0, c.args.came.now.ok.0) in
    let named : c.in_record.result ≡ in_record (c.loop.counter + 1) c.in-Err.refusal = c.in_record.ensures ∙ ap (λ (k : ℕ). in_record (k + 1) c.in-Err.refusal) place in (
      taken_back old c.a_catalog_is_consistent.ensures c.put_next.new.catalog c.unload.new.self c.args.table.0 refs more c.unload.ensures.gone,
      subst (λ (e : Refusal). (e ≡ NoMemory) ⊎ ((load old.limits (database_of old) c.args.table rows).outcome ≡ Refused e)) (sym named)
          (under_way_refused old c.loop.self c.args.table rows c.loop.counter c.loop.invariant.way _ there c.put_next.new.catalog c.in-Err.refusal c.in-Err.ensures.refused),
    )

pub returns-in-Err-clause-outline : goal.returns-in-Err-clause-outline
returns-in-Err-clause-outline g c =
    let more = came g (goal.at.returns-in-Err-clause-outline g c).In-Err in
    c.unload.ensures.outline ∙ (more_outlined c.args.self.now c.put_next.new.catalog c.args.table.0 (drop c.len-start.result c.loop.came.items) more).others

pub returns-in-Err-clause-list : goal.returns-in-Err-clause-list
returns-in-Err-clause-list g c =
    let before = c.args.came.now.items in
    let start : c.len-start.result ≡ length before = omega (arith, c.len-start.ensures, c.args.came.now.ok.0) in
    c.unload.ensures.left ∙ ap (take c.len-start.result) c.loop.invariant.list
    ∙ take_at before (drop (length before) c.loop.came.items) c.len-start.result (sym start)

pub returns-clause-came : goal.returns-clause-came
returns-clause-came g c = record {
  refs = drop (length c.args.came.now.items) c.loop.came.items;
  more = more_outlined c.args.self.now c.loop.self c.args.table.0 (drop (length c.args.came.now.items) c.loop.came.items) c.loop.invariant.more;
  list = c.loop.invariant.list;
}
