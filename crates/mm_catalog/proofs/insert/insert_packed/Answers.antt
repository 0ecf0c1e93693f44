use Rattle.std.proofs.Common.{◌≡◌, ◌∙◌, ◌<◌, ◌+◌, ◌⊎◌, ℕ, List, None, sym, ap, subst, arith, length}
use Rattle.std.specs.FinMap as finite
use Rattle.std.specs.List.{All}
use Rattle.std.proofs.lemmas.Result.{IfErr-weaker}
use Rattle.plain_tables.specs.declared.refusal.Refusal.TheVariants.{KeyExists, TableFull}
use Rattle.plain_tables.specs.declared.value.Value.{Value}
use Rattle.mm_relation.specs.Rows.{StartsWithKey, row_of}
use Rattle.mm_relation.specs.State.{HasKey, IsReadable, linked_keys}
use Rattle.mm_catalog.specs.Counted.{IsHeldIn}
use Rattle.mm_catalog.specs.Inserted.{IsKeptOut, IsTakenIn, IsInsertedBeside, full}
use Rattle.mm_catalog.specs.Linked.{row_links}
use Rattle.mm_catalog.proofs.CellRows.{cells_readable, cells_held}
use Rattle.mm_catalog.proofs.Taking.{IfOk-both, kept_out_for}
use Rattle.mm_catalog.proofs.insert.insert_packed.Goals as goal

pub kept_out-requires : goal.kept_out-requires
kept_out-requires c =
    let row = c.requires.row.2 in
    subst StartsWithKey (sym c.as_slice.ensures.value) (c.requires.row.0, row.behind, row.split)

pub take_in-requires-clause-starts : goal.take_in-requires-clause-starts
take_in-requires-clause-starts c = let row = c.requires.row.2 in (c.requires.row.0, row.behind, row.split)

pub take_in-requires-clause-readable : goal.take_in-requires-clause-readable
take_in-requires-clause-readable c =
    let targets = c.args.relation.now.targets in
    let row = c.requires.row.2 in
    let wide : length targets ≡ length c.requires.row.1 + 1 = omega (arith, c.requires.width, ap length row.split, row.are.count) in
    subst (λ cells. IsReadable (linked_keys targets c.args.before.now) (length targets) (row_of cells)) (sym row.split)
    (cells_readable c.args.before.now targets c.requires.row.0 c.requires.row.1 row.behind row.are wide)

pub take_in-requires-clause-links : goal.take_in-requires-clause-links
take_in-requires-clause-links c =
    let targets = c.args.relation.now.targets in
    let row = c.requires.row.2 in
    let wide : length targets ≡ length c.requires.row.1 + 1 = omega (arith, c.requires.width, ap length row.split, row.are.count) in
    subst (λ cells. All (IsHeldIn c.args.before.now) (row_links targets (row_of cells))) (sym row.split)
    (cells_held c.args.before.now targets c.requires.row.0 c.requires.row.1 row.behind row.are wide c.requires.stands.counted)

pub returns-then-len-from-clause-refused : goal.returns-then-len-from-clause-refused
returns-then-len-from-clause-refused c key rest row =
    let rows = c.args.relation.now.rows in
    let told = subst (λ cells. (HasKey rows (row_of cells).key × (c.kept_out.result ≡ KeyExists None)) ⊎ ((HasKey rows (row_of cells).key → ⊥) × (c.kept_out.result ≡ TableFull None)))
    (c.as_slice.ensures.value ∙ row.split) c.kept_out.ensures in
    kept_out_for c.args.before.now c.args.relation.now c.args.limits.rows key rest c.kept_out.result _ told
    (λ fresh. full fresh row.behind row.are (omega (arith, c.if-len-from.true, c.len.ensures.value, c.from.ensures)))

pub returns-clause-refused : goal.returns-clause-refused
returns-clause-refused c key rest row =
    let same : (row_of c.args.cells.now.items).key ≡ key = ap (λ cells. (row_of cells).key) row.split in
    IfErr-weaker c.take_in.result (λ refusal. (most : ℕ) (others : List Value) → IsKeptOut c.args.before.now c.args.relation.now most (row_of c.args.cells.now.items).key others refusal)
    (IsKeptOut c.args.before.now c.args.relation.now c.args.limits.rows key rest)
    (λ refusal why. subst (λ k. IsKeptOut c.args.before.now c.args.relation.now c.args.limits.rows k rest refusal) same (why c.args.limits.rows rest)) c.take_in.ensures.refused

pub returns-clause-inserted : goal.returns-clause-inserted
returns-clause-inserted c key rest row =
    let old = c.args.relation.now in
    let cells = c.args.cells.now.items in
    let room : finite.len old.rows < c.args.limits.rows = omega (arith, c.if-len-from.false, c.len.ensures.value, c.from.ensures) in
    IfOk-both c.take_in.result (λ _. HasKey old.rows (row_of cells).key → ⊥)
    (λ r. IsTakenIn c.args.before.now c.take_in.new.before old c.take_in.new.relation r (row_of cells))
    (IsInsertedBeside c.args.before.now c.take_in.new.before old c.take_in.new.relation c.args.limits.rows key rest)
    (λ r fresh taken. record {
      cells = row.behind;
      are = row.are;
      fresh = subst (λ cs. HasKey old.rows (row_of cs).key → ⊥) row.split fresh;
      room = room;
      taken = subst (λ cs. IsTakenIn c.args.before.now c.take_in.new.before old c.take_in.new.relation r (row_of cs)) row.split taken;
    })
    c.take_in.ensures.fresh c.take_in.ensures.taken
