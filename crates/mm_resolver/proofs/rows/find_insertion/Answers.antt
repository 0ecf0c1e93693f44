use Rattle.std.proofs.Common.{◌≡◌, ◌∙◌, List, [], length, map, refl, sym, subst, true, eq-eqb}
use Rattle.std.proofs.lemmas.List.{length-map}
use Rattle.plain_statements.specs.declared.statement.Slot.{Slot}
use Rattle.plain_statements.specs.declared.statement.Statement.TheVariants as statement
use Rattle.plain_statements.specs.Slots.{row_needs, stored_need}
use Rattle.mm_resolver.specs.Wanted.{IsWantedOf}
use Rattle.mm_resolver.proofs.Answered.{means-so}
use Rattle.mm_resolver.proofs.Holes.{none-wanted-of-row}
use Rattle.mm_resolver.proofs.StatementMeanings.{insert-counted}
use Rattle.mm_resolver.proofs.rows.find_insertion.Goals as goal

pub returns-clause-found : goal.returns-clause-found
returns-clause-found g c =
    let tables = g.S.Schemas.database c.args.schemas.now in
    let named_table = c.in_ok-named_table.named_table in
    let columns = named_table.columns.now in
    let slots : List Slot = map g.V.AsSlot.as_slot c.args.row in
    let many : length slots ≡ length columns = length-map c.args.row g.V.AsSlot.as_slot ∙ sym c.len.ensures ∙ c.if-len-named_table.false in
    let asked : IsWantedOf (row_needs tables columns slots) c.in_ok-wanted.wanted =
    subst (λ row. IsWantedOf (row_needs tables columns (map g.V.AsSlot.as_slot row)) c.in_ok-wanted.wanted) c.as_slice.ensures c.in_ok-wanted.ensures in
    record {
      needs = row_needs tables columns slots;
      late = [];
      asked = asked;
      behind = refl;
      holes = none-wanted-of-row (λ k. stored_need tables k.kind) columns slots;
      means =
          means-so tables (statement.Insert c.args.table.now slots) _
          (insert-counted tables c.args.table.now named_table c.in_ok-named_table.ensures.found slots true (eq-eqb (length slots) (length columns) many));
    }
