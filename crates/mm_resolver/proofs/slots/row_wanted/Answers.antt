use Rattle.std.proofs.Common.{◌≡◌, ◌+◌, ℕ, List, length, map, take, sym, ap, ◌∙◌, subst, [], ◌∷◌, ◌++◌, arith}
use Rattle.std.specs.List.{zip}
use Rattle.std.proofs.lemmas.List.{length_push, take_all}
use Rattle.std.proofs.lemmas.Slice.Zip.{zip_turn, zip_end, length-zip}
use Rattle.plain_tables.specs.declared.schema.Column.{Column}
use Rattle.plain_statements.specs.declared.resolution.Need.{Need}
use Rattle.plain_statements.specs.Slots.{Needed, stored_need}
use Rattle.mm_resolver.specs.Wanted.{IsWantedOf}
use Rattle.mm_resolver.proofs.Adding.{asked-of, pairs_more, zip-seen}
use Rattle.mm_resolver.proofs.slots.row_wanted.Goals as goal

pub loop-column-preserved : goal.loop-column-preserved
loop-column-preserved g c =
    let columns : List Column = c.args.columns.now in
    let row = c.args.row.now in
    let n : ℕ = length c.loop-column.yielded in
    let seen = g.V.AsSlot.as_slot in
    let wants : Column → Need = λ k. stored_need (g.S.Schemas.database c.args.schemas.now) k.kind in
    let asks = asked-of seen wants in
    let turn = zip_turn columns row c.loop-column.yielded c.into_iter-column-iterator.result c.loop-column.column-iterator c.next.new.self c.next.result
    (cc) (cc) c.loop-column.yielded_by (c.in-Some.column, c.in-Some.value) c.in-Some.is c.next.ensures.steps in
    let more : map asks (take (n + 1) (zip columns row)) ≡ map asks (take n (zip columns row)) ++ asks (c.in-Some.column.now, c.in-Some.value.now) ∷ [] =
    pairs_more asks columns row n c.in-Some.column.now c.in-Some.value.now turn.0 turn.1 (turn.2 _) (turn.3 _) in
    let added = c.in_ok-want.ensures (map asks (take n (zip columns row))) c.loop-column.invariant in
    let needed : IsWantedOf (map asks (take n (zip columns row)) ++ asks (c.in-Some.column.now, c.in-Some.value.now) ∷ []) c.want.new.wanted =
    subst (λ (need : Need). IsWantedOf (map asks (take n (zip columns row)) ++ (seen c.in-Some.value.now, need) ∷ []) c.want.new.wanted) c.stored_need-need.ensures added in
    subst (λ (k : ℕ). IsWantedOf (map asks (take k (zip columns row))) c.want.new.wanted) (sym (length_push c.loop-column.yielded (c.in-Some.column, c.in-Some.value)))
    (subst (λ (xs : List Needed). IsWantedOf xs c.want.new.wanted) (sym more) needed)

pub returns : goal.returns
returns g c =
    let columns : List Column = c.args.columns.now in
    let row = c.args.row.now in
    let seen = g.V.AsSlot.as_slot in
    let wants : Column → Need = λ k. stored_need (g.S.Schemas.database c.args.schemas.now) k.kind in
    let asks = asked-of seen wants in
    let many = zip_end columns row c.loop-column.yielded c.into_iter-column-iterator.result c.loop-column.column-iterator c.next.new.self c.next.result
    (cc) (cc) c.loop-column.yielded_by c.in-None.is c.next.ensures.steps in
    let all = take_all (length c.loop-column.yielded) (zip columns row) (omega (arith, many, length-zip columns row)) in
    subst (λ (xs : List Needed). IsWantedOf xs c.loop-column.wanted) (ap (map asks) all ∙ sym (zip-seen seen wants columns row)) c.loop-column.invariant
