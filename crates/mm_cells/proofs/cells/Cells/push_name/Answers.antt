-- The name stands behind the others, and what was read is read still.
use Rattle.std.proofs.Common.{◌≡◌, ◌++◌, ◌∷◌, ◌+◌, [], List, ℕ, map, length, refl, ap, sym, ◌∙◌, arith}
use Rattle.std.proofs.lemmas.List.{length-append}
use Rattle.mm_cells.specs.Reading.{cell_value, texts_of}
use Rattle.mm_cells.specs.declared.cells.ResultCell.{ResultCell}
use Rattle.mm_cells.proofs.CellValues.{text-read, texts-in-turn, pushed-behind}
use Rattle.mm_cells.proofs.cells.Cells.push_name.Goals as goal

pub returns-clause-pushed : goal.returns-clause-pushed
returns-clause-pushed c =
    let texts : List ℕ = c.args.self.now.texts.items in
    let more : List ℕ = c.args.table.now ++ 46 ∷ c.args.column.now in
    let at : c.in-Ok.at ≡ length texts = omega (arith, c.in-Ok.ensures.1, c.len.ensures, c.args.self.now.texts.ok.0) in
    let whole = length-append c.args.table.now (46 ∷ c.args.column.now) in
    let long : c.in-Ok-try_from.length ≡ length more = omega (arith, c.in-Ok-try_from.ensures.1, whole) in
    ap (λ e. map (cell_value e) c.push.new.self.items) c.in_ok-append_name.ensures.appended
    ∙ ap (map (cell_value (texts ++ more))) (c.in_ok-push.ensures.items ∙ ap (λ (cs : List ResultCell). cs ++ record { integer = _; at = c.in-Ok.at; length = c.in-Ok-try_from.length; kind = 2 } ∷ []) c.in_ok-reserve.ensures.items)
    ∙ text-read texts more c.args.self.now.cells.items _ c.args.self.now.readable refl at long

pub invariant_of-self-2-clause-in_turn : goal.invariant_of-self-2-clause-in_turn
invariant_of-self-2-clause-in_turn c =
    let texts : List ℕ = c.args.self.now.texts.items in
    let more : List ℕ = c.args.table.now ++ 46 ∷ c.args.column.now in
    let cells : List ResultCell = c.args.self.now.cells.items in
    let at : c.in-Ok.at ≡ length texts = omega (arith, c.in-Ok.ensures.1, c.len.ensures, c.args.self.now.texts.ok.0) in
    let whole = length-append c.args.table.now (46 ∷ c.args.column.now) in
    let long : c.in-Ok-try_from.length ≡ length more = omega (arith, c.in-Ok-try_from.ensures.1, whole) in
    let text : c.append_name.new.texts.items ≡ texts ++ more = c.in_ok-append_name.ensures.appended in
    let put : c.push.new.self.items ≡ c.reserve.new.self.items ++ record { integer = _; at = c.in-Ok.at; length = c.in-Ok-try_from.length; kind = 2 } ∷ [] =
    pushed-behind c.push.result c.reserve.new.self.items c.push.new.self.items _ (c.push.ensures.succeeds (omega (arith, c.in_ok-reserve.ensures.ok))) c.push.ensures.items in
    ap (λ e. texts_of (map (cell_value e) c.push.new.self.items)) text
    ∙ ap (λ cs. texts_of (map (cell_value (texts ++ more)) cs)) (put ∙ ap (λ (cs : List ResultCell). cs ++ record { integer = _; at = c.in-Ok.at; length = c.in-Ok-try_from.length; kind = 2 } ∷ []) c.in_ok-reserve.ensures.items)
    ∙ texts-in-turn texts more cells _ c.args.self.now.readable c.args.self.now.in_turn refl at long
    ∙ sym text
