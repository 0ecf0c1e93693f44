use Rattle.std.proofs.Common.{is_some, ap, ◌∙◌, arith}
use Rattle.std.specs.Option.{option_map}
use Rattle.std.specs.FinMap.{get, remove}
use Rattle.part_raw.proofs.Mapped.{get-mapped, mapped-insert}
use Rattle.part_raw.proofs.Tuples.{get-insert_same, remove-insert}
use Rattle.mm_relation.specs.Rows.{row_of, rows_in, outside, among}
use Rattle.mm_relation.proofs.Parted.{get-outside, outside-insert, among-insert, outside-same, among-same}
use Rattle.mm_relation.proofs.Hiding.{fresh_slot, parted_covered, parted_with}
use Rattle.mm_relation.proofs.rows.Rows.put.Goals as goal

pub remove-requires : goal.remove-requires
remove-requires c = ap is_some (ap (λ tuples. get tuples c.put-r.result) c.put-r.ensures.tuples ∙ get-insert_same c.self.inside.store.tuples c.put-r.result c.args.row.now.items)

pub invariant_of-self : goal.invariant_of-self
invariant_of-self c =
    let wide = rw (← c.self.view_is) at c.requires.width in
    let before = parted_covered c.self.inside.store.width c.self.inside.store.tuples c.self.inside.store.counts c.self.inside.hidden c.self.inside.hidden_count c.self.inside.owed c.self.invariant c.cover.new.hidden c.self.inside.owed c.cover.ensures.same c.self.invariant.within c.self.invariant.few (λ owing r held. omega (arith, c.self.invariant.covered owing r held, c.cover.ensures.grows)) in
    rw (c.put-r.ensures.width, c.put-r.ensures.tuples, c.put-r.ensures.counts)
    (parted_with c.self.inside.store.width c.self.inside.store.tuples c.self.inside.store.counts c.cover.new.hidden c.self.inside.hidden_count c.self.inside.owed before c.put-r.result c.args.row.now.items c.put-r.ensures.fresh (wide, c.requires.keyed)
    (rw c.put-r.ensures.tuples at c.in-Ok.ensures.covered))

pub invariant_of-self-in-Err : goal.invariant_of-self-in-Err
invariant_of-self-in-Err c =
    rw (c.remove.ensures.width, c.remove.ensures.tuples, c.remove.ensures.counts, c.put-r.ensures.width, c.put-r.ensures.tuples, c.put-r.ensures.counts, remove-insert c.self.inside.store.tuples c.put-r.result c.args.row.now.items c.put-r.ensures.fresh, remove-insert c.self.inside.store.counts c.put-r.result 0 c.put-r.ensures.uncounted)
    (parted_covered c.self.inside.store.width c.self.inside.store.tuples c.self.inside.store.counts c.self.inside.hidden c.self.inside.hidden_count c.self.inside.owed c.self.invariant c.cover.new.hidden c.self.inside.owed c.cover.ensures.same c.self.invariant.within c.self.invariant.few (λ owing r held. omega (arith, c.self.invariant.covered owing r held, c.cover.ensures.grows)))

pub returns-in-Ok-clause-fresh : goal.returns-in-Ok-clause-fresh
returns-in-Ok-clause-fresh c =
    let is_out = fresh_slot c.self.inside.store.width c.self.inside.store.tuples c.self.inside.store.counts c.self.inside.hidden c.self.inside.hidden_count c.self.inside.owed c.self.invariant c.put-r.result c.put-r.ensures.fresh in
    rw (← c.self.view_is) (get-mapped (λ r. row_of) (outside c.self.inside.hidden c.self.inside.store.tuples) c.put-r.result ∙ ap (option_map row_of) (get-outside c.self.inside.hidden c.self.inside.store.tuples c.put-r.result is_out ∙ c.put-r.ensures.fresh))

pub returns-in-Ok-clause-unnamed : goal.returns-in-Ok-clause-unnamed
returns-in-Ok-clause-unnamed c =
    let is_out = fresh_slot c.self.inside.store.width c.self.inside.store.tuples c.self.inside.store.counts c.self.inside.hidden c.self.inside.hidden_count c.self.inside.owed c.self.invariant c.put-r.result c.put-r.ensures.fresh in
    rw (← c.self.view_is) (get-outside c.self.inside.hidden c.self.inside.store.counts c.put-r.result is_out ∙ c.put-r.ensures.uncounted)

pub returns-in-Ok-clause-tuples : goal.returns-in-Ok-clause-tuples
returns-in-Ok-clause-tuples c =
    let is_out = fresh_slot c.self.inside.store.width c.self.inside.store.tuples c.self.inside.store.counts c.self.inside.hidden c.self.inside.hidden_count c.self.inside.owed c.self.invariant c.put-r.result c.put-r.ensures.fresh in
    rw (← c.self.view_is)
    (ap (λ tuples. rows_in (outside c.cover.new.hidden tuples)) c.put-r.ensures.tuples ∙ ap rows_in (outside-same c.self.inside.hidden c.cover.new.hidden _ c.cover.ensures.same ∙ outside-insert c.self.inside.hidden c.self.inside.store.tuples c.put-r.result is_out c.args.row.now.items)
    ∙ mapped-insert (λ r. row_of) (outside c.self.inside.hidden c.self.inside.store.tuples) c.put-r.result c.args.row.now.items)

pub returns-in-Ok-clause-aside : goal.returns-in-Ok-clause-aside
returns-in-Ok-clause-aside c =
    let is_out = fresh_slot c.self.inside.store.width c.self.inside.store.tuples c.self.inside.store.counts c.self.inside.hidden c.self.inside.hidden_count c.self.inside.owed c.self.invariant c.put-r.result c.put-r.ensures.fresh in
    let numbers = ap (outside c.cover.new.hidden) c.put-r.ensures.counts ∙ outside-same c.self.inside.hidden c.cover.new.hidden _ c.cover.ensures.same ∙ outside-insert c.self.inside.hidden c.self.inside.store.counts c.put-r.result is_out 0 in
    let still = ap (λ tuples. rows_in (among c.cover.new.hidden tuples)) c.put-r.ensures.tuples ∙ ap rows_in (among-same c.self.inside.hidden c.cover.new.hidden _ c.cover.ensures.same ∙ among-insert c.self.inside.hidden c.self.inside.store.tuples c.put-r.result is_out c.args.row.now.items) in
    rw (← c.self.view_is) (λ i. record { numbers = numbers i; counted = c.put-r.ensures.counted i; hidden = still i; owed = c.self.inside.owed })

pub returns-in-Err-clause-kept : goal.returns-in-Err-clause-kept
returns-in-Err-clause-kept c =
    let back = c.remove.ensures.tuples ∙ ap (λ tuples. remove tuples c.put-r.result) c.put-r.ensures.tuples ∙ remove-insert c.self.inside.store.tuples c.put-r.result c.args.row.now.items c.put-r.ensures.fresh in
    rw (← c.self.view_is) (ap (λ tuples. rows_in (outside c.cover.new.hidden tuples)) back ∙ ap rows_in (outside-same c.self.inside.hidden c.cover.new.hidden c.self.inside.store.tuples c.cover.ensures.same))

pub returns-in-Err-clause-kept_aside : goal.returns-in-Err-clause-kept_aside
returns-in-Err-clause-kept_aside c =
    let back = c.remove.ensures.tuples ∙ ap (λ tuples. remove tuples c.put-r.result) c.put-r.ensures.tuples ∙ remove-insert c.self.inside.store.tuples c.put-r.result c.args.row.now.items c.put-r.ensures.fresh in
    let numbers = ap (outside c.cover.new.hidden) (c.remove.ensures.counts ∙ ap (λ counts. remove counts c.put-r.result) c.put-r.ensures.counts ∙ remove-insert c.self.inside.store.counts c.put-r.result 0 c.put-r.ensures.uncounted) ∙ outside-same c.self.inside.hidden c.cover.new.hidden c.self.inside.store.counts c.cover.ensures.same in
    let still = ap (λ tuples. rows_in (among c.cover.new.hidden tuples)) back ∙ ap rows_in (among-same c.self.inside.hidden c.cover.new.hidden c.self.inside.store.tuples c.cover.ensures.same) in
    let counted = c.remove.ensures.counted ∙ c.put-r.ensures.counted in
    rw (← c.self.view_is) (λ i. record { numbers = numbers i; counted = counted i; hidden = still i; owed = c.self.inside.owed })
