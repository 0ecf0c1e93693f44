use Rattle.std.proofs.Common.{◌≡◌, ◌+◌, ◌-◌, Some, IsSome, inr, drop, length, length-set, get_or, set, take, sym, ap, ◌∙◌, subst, arith}
use Rattle.std.specs.FinMap.{get}
use Rattle.std.specs.List.{All, slice_get}
use Rattle.std.proofs.Math.Seq.{drop-append_seam}
use Rattle.std.proofs.lemmas.List.{get_or_default, set-set, take-set}
use Rattle.std.proofs.lemmas.Option.{same_Some, slice_get-get_or}
use Rattle.common_lemmas.proofs.Places.{set_itself, slice_get_set}
use Rattle.mm_relation.specs.State.{RelationState}
use Rattle.mm_catalog.specs.Assigned.{AreNotSet, AreToColumns, IsUpdated}
use Rattle.mm_catalog.specs.Noted.{cells_at, owing}
use Rattle.mm_catalog.proofs.Noted.{first_of}
use Rattle.mm_catalog.proofs.Owing.{consistent_aside}
use Rattle.mm_catalog.proofs.noting.set_and_note.Goals as goal
use Rattle.mm_catalog.proofs.noting.set_and_note.Goals.{After-index-relations-table-2}

there : (c : After-index-relations-table-2) → slice_get c.args.relations.now c.args.table.0 ≡ Some (get_or c.args.relations.now c.args.table.0 c.index-relations-table-2.result)
there c = slice_get-get_or c.args.relations.now c.args.table.0 c.index-relations-table-2.result c.requires.there

pub set_rows-answer-requires-clause-consistent : goal.set_rows-answer-requires-clause-consistent
set_rows-answer-requires-clause-consistent c =
    let at = there (goal.at.set_rows-answer-requires-clause-consistent c).After-index-relations-table-2 in
    let k = c.requires.consistent in
    let n = c.args.table.0 in
    let b : RelationState = get_or c.args.relations.now c.args.table.0 c.index-relations-table-2.result in
    let t : RelationState = owing (length c.args.rows.now) b in
    (record k.0 { relations = set k.0.relations n t }, ap (λ rs. set rs n t) k.1 ∙ ap (set c.args.relations.now n) (sym c.in_ok-owe_rows.ensures.owed), consistent_aside k.0 k.2 n b.hidden t.owed b (ap (λ rs. slice_get rs n) k.1 ∙ at))

pub set_rows-answer-requires-clause-columns : goal.set_rows-answer-requires-clause-columns
set_rows-answer-requires-clause-columns c s here =
    let at = there (goal.at.set_rows-answer-requires-clause-columns c).After-index-relations-table-2 in
    let same = same_Some c.owe_rows.new.relation s (sym (slice_get_set c.args.relations.now c.args.table.0 c.owe_rows.new.relation c.requires.there) ∙ here) in
    subst (λ (t : RelationState). AreToColumns (length t.targets) c.args.assignments.now) (sym c.in_ok-owe_rows.ensures.owed ∙ same) (c.requires.columns (get_or c.args.relations.now c.args.table.0 c.index-relations-table-2.result) at)

pub set_rows-answer-requires-clause-held : goal.set_rows-answer-requires-clause-held
set_rows-answer-requires-clause-held c s here =
    let at = there (goal.at.set_rows-answer-requires-clause-held c).After-index-relations-table-2 in
    let same = same_Some c.owe_rows.new.relation s (sym (slice_get_set c.args.relations.now c.args.table.0 c.owe_rows.new.relation c.requires.there) ∙ here) in
    subst (λ (t : RelationState). All (λ r. IsSome (get t.rows r)) c.args.rows.now) (sym c.in_ok-owe_rows.ensures.owed ∙ same) (c.requires.held (get_or c.args.relations.now c.args.table.0 c.index-relations-table-2.result) at)

pub returns-in-Ok-clause-noted : goal.returns-in-Ok-clause-noted
returns-in-Ok-clause-noted c =
    let at = there (goal.at.returns-in-Ok-clause-noted c).After-index-relations-table-2 in
    record {
      before = (get_or c.args.relations.now c.args.table.0 c.index-relations-table-2.result);
      there = at;
      few = c.owe_rows.ensures.few;
      updated = subst (λ t. IsUpdated (set c.args.relations.now c.args.table.0 t) c.set_rows-answer.new.relations c.args.table.0 c.args.rows.now c.args.assignments.now) c.in_ok-owe_rows.ensures.owed c.in-Ok.ensures.updated;
      were = ap (drop (length c.args.cells.now.items)) c.in_ok-copy_rows.ensures.copied ∙ drop-append_seam c.args.cells.now.items (cells_at (get_or c.args.relations.now c.args.table.0 c.index-relations-table.result) c.args.assignments.now c.args.rows.now) ∙ ap (λ s. cells_at s c.args.assignments.now c.args.rows.now) (get_or_default c.args.relations.now c.args.table.0 c.index-relations-table.result c.index-relations-table-2.result c.requires.there);
    }

pub returns-in-Err-clause-unchanged : goal.returns-in-Err-clause-unchanged
returns-in-Err-clause-unchanged c =
    let at = there (goal.at.returns-in-Err-clause-unchanged c).After-index-relations-table-2 in
    let n = c.args.table.0 in
    let old = c.args.relations.now in
    let b : RelationState = get_or c.args.relations.now c.args.table.0 c.index-relations-table-2.result in
    let e : RelationState = get_or c.set_rows-answer.new.relations n c.index-relations-table-in-Err.result in
    let owed : RelationState = c.owe_rows.new.relation in
    let now = c.set_rows-answer.new.relations in
    let same = c.in-Err.ensures.unchanged in
    let here = slice_get_set old n owed c.requires.there in
    let read : slice_get now n ≡ Some e = slice_get-get_or now n c.index-relations-table-in-Err.result (omega (arith, ap length same, length-set old n owed, c.requires.there)) in
    let is : e ≡ owing (length c.args.rows.now) b = same_Some e owed (sym read ∙ ap (λ rs. slice_get rs n) same ∙ here) ∙ c.in_ok-owe_rows.ensures.owed in
    let again : b.owed + length c.args.rows.now - length c.args.rows.now ≡ b.owed = omega arith in
    let back : c.forgive.new.self ≡ b =
    c.forgive.ensures ∙ ap (λ (u : RelationState). record u { owed = u.owed - length c.args.rows.now }) is ∙ ap (λ k. record b { owed = k }) again in
    ap (λ rs. set rs n c.forgive.new.self) same ∙ set-set old n owed c.forgive.new.self ∙ ap (set old n) back ∙ set_itself old n b at

pub returns-in-Err-clause-refused : goal.returns-in-Err-clause-refused
returns-in-Err-clause-refused c =
    let at = there (goal.at.returns-in-Err-clause-refused c).After-index-relations-table-2 in
    let n = c.args.table.0 in
    let old = c.args.relations.now in
    let b : RelationState = get_or c.args.relations.now c.args.table.0 c.index-relations-table-2.result in
    let told = c.in-Err.ensures.refused in
    let same : told.0 ≡ owing (length c.args.rows.now) b = same_Some told.0 c.owe_rows.new.relation (sym told.1 ∙ slice_get_set old n c.owe_rows.new.relation c.requires.there) ∙ c.in_ok-owe_rows.ensures.owed in
    inr (
      b,
      at,
      subst (λ rs. AreNotSet rs b.targets c.args.assignments.now c.in-Err.refusal) (take-set old n c.owe_rows.new.relation)
          (subst (λ (s : RelationState). AreNotSet (take n (set old n c.owe_rows.new.relation)) s.targets c.args.assignments.now c.in-Err.refusal) same told.2),
    )

pub returns-in_err-owe_rows-clause-others : goal.returns-in_err-owe_rows-clause-others
returns-in_err-owe_rows-clause-others c = first_of c.args.cells.now.items (cells_at (get_or c.args.relations.now c.args.table.0 c.index-relations-table.result) c.args.assignments.now c.args.rows.now) c.copy_rows.new.cells.items c.in_ok-copy_rows.ensures.copied

pub returns-in-Ok-clause-others : goal.returns-in-Ok-clause-others
returns-in-Ok-clause-others c = first_of c.args.cells.now.items (cells_at (get_or c.args.relations.now c.args.table.0 c.index-relations-table.result) c.args.assignments.now c.args.rows.now) c.copy_rows.new.cells.items c.in_ok-copy_rows.ensures.copied

pub returns-in-Err-clause-others : goal.returns-in-Err-clause-others
returns-in-Err-clause-others c = first_of c.args.cells.now.items (cells_at (get_or c.args.relations.now c.args.table.0 c.index-relations-table.result) c.args.assignments.now c.args.rows.now) c.copy_rows.new.cells.items c.in_ok-copy_rows.ensures.copied
