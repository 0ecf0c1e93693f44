use Rattle.std.proofs.Common.{ℤ, Bor, refl}
use Rattle.std.specs.Cmp.{int_cmp_total}
use Rattle.std.specs.Ordering.{int_cmp}
use Rattle.std.proofs.lemmas.Cmp.{on_total}
use Rattle.plain_tables.specs.declared.value.Value.{Value}
use Rattle.plain_tables.specs.declared.value.Value.TheVariants.{Int}
use Rattle.plain_tables.specs.Values.{value_cmp, value_cmp_total}
use Rattle.ttree.specs.Held.{items_of_tree}
use Rattle.mm_relation.proofs.Sorted.{sorted_well}
use Rattle.mm_relation.proofs.sorted_rows.rows_by_column.Goals as goal

pub returns-in-Some : goal.returns-in-Some
returns-in-Some g c =
    let well = sorted_well (λ (z : ℤ). Int z) int_cmp int_cmp_total (λ a b. refl) (g.R.LinkedKeys.keys c.args.others.now) c.args.column.0 c.args.rows.now.tuples (items_of_tree c.args.by_key.now) c.requires.keyed c.requires.read
    c.in-Some.integers.items (rw c.in-Some.is at c.in_ok-integers.ensures.refs) (rw c.in-Some.is at c.in_ok-integers.ensures.values) c.sorted_refs.result c.sorted_refs.ensures in
    record { bag = well.0; rising = well.1 }

pub returns : goal.returns
returns g c =
    let well = sorted_well (λ (v : Bor Value). v.now) (λ (a b : Bor Value). value_cmp a.now b.now) (on_total (λ (v : Bor Value). v.now) value_cmp_total) (λ a b. refl) (g.R.LinkedKeys.keys c.args.others.now) c.args.column.0 c.args.rows.now.tuples (items_of_tree c.args.by_key.now) c.requires.keyed c.requires.read
    c.in_ok-values_by_key.field-0.items c.in_ok-values_by_key.ensures.refs c.in_ok-values_by_key.ensures.values c.sorted_refs-2.result c.sorted_refs-2.ensures in
    record { bag = well.0; rising = well.1 }
