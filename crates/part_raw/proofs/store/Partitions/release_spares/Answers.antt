use Rattle.std.proofs.Common.{◌≡◌, ◌-◌, ◌<◌, ◌≤◌, ◌∙◌, ℕ, Bool, true, false, if◌then◌else◌, List, IsSome, length, take, ap, refl, sym, subst, sum_by, arith}
use Rattle.std.specs.FinMap.{get, len}
use Rattle.part_raw.specs.declared.tuple_ref.TupleRef.{TupleRef}
use Rattle.part_raw.specs.Store.{Tuples}
use Rattle.part_raw.specs.TupleRefs.{part_of, ref_to}
use Rattle.part_raw.specs.Counted.{counts_of, number_of}
use Rattle.part_raw.specs.Layout.{tuples_of}
use Rattle.part_raw.specs.Open.{open_at, tables}
use Rattle.part_raw.proofs.Numbers.{counts-alike, number-take}
use Rattle.part_raw.proofs.Sound.{most_lengths}
use Rattle.part_raw.proofs.Tables.{length-tables, small_tables, table_within}
use Rattle.part_raw.proofs.Relinked.{tells}
use Rattle.part_raw.proofs.Spared.{IsReleased, IsTable-relinked, held_of_bit, few_left}
use Rattle.part_raw.proofs.Stocked.{few_here}
use Rattle.part_raw.proofs.store.Partitions.release_spares.Given.{Over}
use Rattle.part_raw.proofs.store.Partitions.release_spares.Goals as goal
use Rattle.part_raw.proofs.store.Partitions.release_spares.Goals.{After-relink-self-inside}
use Rattle.std.proofs.lemmas.List.{length-take}

-- the counts of the partitions that stay
beside-take : (b : Bool) (n m : ℕ) (counts : List (List ℕ)) → length counts ≡ (if b then n else 0) → m ≤ n → length (take m counts) ≡ (if b then m else 0)
beside-take true n m counts e fewer = omega (arith, length-take m counts, e, fewer)
beside-take false n m counts e fewer = omega (arith, length-take m counts, e)

pub release_empty-requires-clause-kept : goal.release_empty-requires-clause-kept
release_empty-requires-clause-kept g c = record { laid = c.self.invariant.0.table.laid; mapped = c.self.invariant.0.table.store.mapped }

pub release_empty-requires-clause-few : goal.release_empty-requires-clause-few
release_empty-requires-clause-few g c = omega (arith, few_here c.self.invariant.0)

pub overflow_sub-self : goal.overflow_sub-self
overflow_sub-self g c = omega (arith, c.release_empty.ensures.slots, c.self.invariant.1)

pub relink-self-inside-requires : goal.relink-self-inside-requires
relink-self-inside-requires g c =
    let shown_long = length-tables c.self.inside.width c.pop_bare.new.blocks.items in
    omega (arith, c.pop_bare.ensures.kept.mapped.as_many, shown_long, c.pop_bare.ensures.fewer, c.release_empty.ensures.as_many, few_here c.self.invariant.0)

released : (g : Over) (c : After-relink-self-inside g) → IsReleased c.self.inside.width c.self.inside.blocks.items c.pop_bare.new.blocks.items c.self.inside.occupancies.items c.relink-self-inside.new.occupancies.items c.pop_bare.new.occupancies.items c.self.inside.free c.self.inside.first_open c.release_empty.result
released g c =
    record {
      is = c.self.invariant.0.table;
      kept = c.pop_bare.ensures.kept;
      tuples = c.pop_bare.ensures.tuples ∙ c.release_empty.ensures.tuples;
      fewer = omega (arith, c.pop_bare.ensures.fewer, c.release_empty.ensures.as_many);
      freed = omega (arith, c.pop_bare.ensures.free, c.release_empty.ensures.free);
      slots = omega (arith, c.pop_bare.ensures.slots, c.release_empty.ensures.slots);
      words = c.relink-self-inside.ensures.held;
      flags = c.relink-self-inside.ensures.blocks;
      held = c.pop_bare.ensures.held c.release_empty.ensures.held;
    }

-- so many slots are free at last
left : (g : Over) (c : After-relink-self-inside g) → c.self.inside.slots - c.release_empty.result - c.len-len.result ≡ sum_by length (tables c.self.inside.width c.pop_bare.new.blocks.items) - len (tuples_of (tables c.self.inside.width c.self.inside.blocks.items))
left g c = omega (arith, (released g c).slots, c.self.invariant.1, rw (← c.self.view_is) at c.len-len.ensures.value)

pub overflow_sub-self-2 : goal.overflow_sub-self-2
overflow_sub-self-2 g c =
    let r = released g (goal.at.overflow_sub-self-2 g c).After-relink-self-inside in
    omega (arith, r.slots, r.freed, c.self.invariant.1, rw (← c.self.view_is) at c.len-len.ensures.value, r.is.store.total, r.is.store.counted)

pub returns-clause-tuples : goal.returns-clause-tuples
returns-clause-tuples g c = rw (← c.self.view_is) (c.pop_bare.ensures.tuples ∙ c.release_empty.ensures.tuples)

pub returns-clause-counts : goal.returns-clause-counts
returns-clause-counts g c =
    let width = c.self.inside.width in
    let was = tuples_of (tables width c.self.inside.blocks.items) in
    let same = c.pop_bare.ensures.tuples ∙ c.release_empty.ensures.tuples in
    let number : (r : TupleRef) → IsSome (get was r) → number_of c.pop_bare.new.counts.items r ≡ number_of c.self.inside.counts.items r = λ r held.
    let last = subst (λ (tuples : Tuples _). IsSome (get tuples r)) (sym same) held in
    let released = subst (λ (tuples : Tuples _). IsSome (get tuples r)) (sym c.release_empty.ensures.tuples) held in
    ap (λ counts. number_of counts r) c.pop_bare.ensures.counts ∙ number-take c.release_empty.new.counts.items r (length c.pop_bare.new.blocks.items) (table_within width c.pop_bare.new.blocks.items r (part_of r) refl last)
    ∙ c.release_empty.ensures.numbers r released in
    rw (← c.self.view_is) (ap (counts_of c.pop_bare.new.counts.items) same ∙ counts-alike was c.self.inside.counts.items c.pop_bare.new.counts.items number)

pub returns-clause-free : goal.returns-clause-free
returns-clause-free g c =
    let len_was = rw (← c.self.view_is) at c.len-len.ensures.value in
    rw (← c.self.view_is) (omega (arith, c.pop_bare.ensures.slots, c.release_empty.ensures.slots, c.self.invariant.1, len_was, c.self.invariant.0.table.store.total))

pub invariant_of-self : goal.invariant_of-self
invariant_of-self g c =
    let d = (goal.at.invariant_of-self g c).After-relink-self-inside in
    let r = released g d in
    let now = tables c.self.inside.width c.pop_bare.new.blocks.items in (
      record {
        own = c.pop_bare.ensures.own (c.release_empty.ensures.own c.self.invariant.0.own);
        beside = ap length c.pop_bare.ensures.counts
            ∙ beside-take c.self.inside.counted (length c.self.inside.blocks.items) (length c.pop_bare.new.blocks.items) c.release_empty.new.counts.items (c.release_empty.ensures.counts ∙ c.self.invariant.0.beside) (omega (arith, c.pop_bare.ensures.fewer, c.release_empty.ensures.as_many));
        table = IsTable-relinked r _ _ (left g d) (c.relink-self-inside.ensures.linked (open_at now) (tells now c.pop_bare.new.occupancies.items c.pop_bare.ensures.kept.mapped));
      },
      omega (arith, r.slots, c.self.invariant.1),
    )

pub returns-clause-few : goal.returns-clause-few
returns-clause-few g c = let d = (goal.at.returns-clause-few g c).After-relink-self-inside in few_left (released g d) _ (left g d)

pub returns-clause-last : goal.returns-clause-last
returns-clause-last g c = λ some.
    let d = (goal.at.returns-clause-last g c).After-relink-self-inside in
    let r = released g d in
    let now = c.pop_bare.new.blocks.items in
    let shown = tables c.self.inside.width now in
    let popped = c.pop_bare.new.occupancies.items in
    let kept = ap len r.tuples in
    let long : length popped ≡ length now = r.kept.mapped.as_many ∙ length-tables c.self.inside.width now in
    let most = most_lengths shown (small_tables c.self.inside.width now) in
    let there : 0 < length popped = omega (arith, some, left g d, kept, r.is.store.total, r.slots, long, most, length-tables c.self.inside.width now) in
    let part = length popped - 1 in
    let last = r.held part (omega (arith, there)) (c.pop_bare.ensures.last there) in (
      ref_to part last.0,
      held_of_bit r part last.0 (omega (arith, there, long)) last.1 last.2,
      omega (arith, there, left g d, kept, r.is.store.total, r.slots, long, most, length-tables c.self.inside.width now),
    )
