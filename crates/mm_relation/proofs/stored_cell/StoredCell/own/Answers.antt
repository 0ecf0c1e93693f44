use Rattle.std.proofs.Common.{◌≡◌, ◌∙◌, ℕ, Option, Some, None, ap, is_some, refl, sym}
use Rattle.std.proofs.lemmas.Bool.{false≢true}
use Rattle.plain_tables.specs.declared.value.Value.{Value}
use Rattle.plain_tables.specs.Stored.{link_number}
use Rattle.mm_relation.specs.Cells.{cell_with}
use Rattle.mm_relation.specs.Reading.{link_of}
use Rattle.mm_relation.specs.declared.row.Cell.TheVariants.{Held}
use Rattle.mm_relation.proofs.stored_cell.StoredCell.own.Goals as goal

-- a cell that holds a value of its own holds the one that it is kept as
kept : (value own : Value) (link : Option ℕ) → cell_with value link ≡ Held own → Held value ≡ cell_with value link
kept value own None e = refl
kept value own (Some n) e = absurd (false≢true (sym (ap (λ cell. is_some (link_of cell)) e)))

pub returns : goal.returns
returns c =
    let value : Value = c.self.inside.value in
    kept value c.requires.0 (link_number value) (c.self.view_is ∙ c.requires.1) ∙ c.self.view_is
