use Rattle.std.proofs.Common.{◌≡◌, ◌∙◌, ◌∷◌, [], ℕ, true, false, List, length, ap, sym, subst, arith}
use Rattle.std.specs.List.{list_any}
use Rattle.std.proofs.lemmas.List.{length-map, map-append}
use Rattle.part_raw.specs.declared.tuple_ref.TupleRef.{TupleRef}
use Rattle.mm_index.specs.Bag.{IsSameBag}
use Rattle.mm_index.proofs.Bags.{length-same_bag}
use Rattle.project_hash.specs.Hashes.{hash_of_values}
use Rattle.project_hash.specs.Known.{AreKnown, hashed, row_states}
use Rattle.project_hash.specs.Shown.{ShownState, alike}
use Rattle.project_hash.specs.Table.{row_state}
use Rattle.project_hash.proofs.KnownRows.{key_more, key_there, known_more}
use Rattle.project_hash.proofs.known.Known.keep.Goals as goal

pub reserve-requires : goal.reserve-requires
reserve-requires g c =
    let long = length-same_bag _ _ c.requires.known.found in
    omega (arith, long, length-map c.args.self.now.rows.items (hashed c.args.table.now), c.args.self.now.rows.ok.0, c.requires.few)

pub insert-requires-clause-short : goal.insert-requires-clause-short
insert-requires-clause-short g c =
    let long = length-same_bag _ _ c.requires.known.found in
    omega (arith, long, ap length c.in_ok-reserve.ensures.entries, length-map c.args.self.now.rows.items (hashed c.args.table.now), c.args.self.now.rows.ok.0, c.requires.few)

pub returns-then-has_alike-clause-rows : goal.returns-then-has_alike-clause-rows
returns-then-has_alike-clause-rows g c =
    let rows = row_states c.args.table.now c.args.self.now.rows.items in
    let some : list_any (alike (row_state c.args.table.now c.args.r)) rows ≡ true =
    ap (λ (x : ShownState). list_any (alike x) rows) (sym c.new-row.ensures) ∙ sym c.has_alike.ensures ∙ c.if-has_alike.true in
    sym (key_there rows (row_state c.args.table.now c.args.r) some)

pub returns-clause-known : goal.returns-clause-known
returns-clause-known g c =
    let t = c.args.table.now in
    let r = c.args.r in
    let rows = c.args.self.now.rows.items in
    let none : list_any (alike (row_state t r)) (row_states t rows) ≡ false =
    ap (λ (x : ShownState). list_any (alike x) (row_states t rows)) (sym c.new-row.ensures) ∙ sym c.has_alike.ensures ∙ c.if-has_alike.false in
    let entry : c.shown_hash-hash.result ≡ hash_of_values (row_state t r).values = c.shown_hash-hash.ensures ∙ ap (λ (x : ShownState). hash_of_values x.values) c.new-row.ensures in
    subst (λ (rs : List TupleRef). AreKnown t rs c.insert.new.self.entries) (sym c.in_ok-push.ensures.items)
    (known_more t rows c.args.self.now.by_hash.entries c.requires.known r c.requires.held none c.insert.new.self.entries
    (subst (IsSameBag c.insert.new.self.entries)
    (ap (λ (h : ℕ). (h, r) ∷ c.reserve.new.self.entries) entry ∙ ap (λ (es : List (ℕ × TupleRef)). hashed t r ∷ es) c.in_ok-reserve.ensures.entries)
    c.insert.ensures.entries))

pub returns-clause-rows : goal.returns-clause-rows
returns-clause-rows g c =
    let t = c.args.table.now in
    let rows = c.args.self.now.rows.items in
    let none : list_any (alike (row_state t c.args.r)) (row_states t rows) ≡ false =
    ap (λ (x : ShownState). list_any (alike x) (row_states t rows)) (sym c.new-row.ensures) ∙ sym c.has_alike.ensures ∙ c.if-has_alike.false in
    ap (row_states t) c.in_ok-push.ensures.items ∙ map-append (row_state t) rows (c.args.r ∷ []) ∙ sym (key_more (row_states t rows) (row_state t c.args.r) none)
