-- Slot fronts: a slot at the front of a line.
use Rattle.std.proofs.Common.{◌≡◌, ℕ, List, Bool, false}
use Rattle.std.specs.Str.{IsUtf8, bytes_eq}
use lib.Chars.{codes}
use Rattle.plain_tables.specs.Spelling.{Literal, IsSymbol}
use Rattle.plain_tables.specs.Reading.{lexeme}
use Rattle.plain_tables.specs.declared.value.Value.{Value}
use Rattle.plain_statements.specs.declared.statement.Slot.{Slot}
use Rattle.plain_statements.specs.declared.statement.Slot.TheVariants.{Given, Hole}
use Rattle.mm_lang.specs.Parsing.{Reads, IsOfText, BeginsWithNone}
use Rattle.mm_lang.specs.Statements.{slot_symbol, slot_by}
use Rattle.mm_lang.proofs.Fronts.{lexeme-is_not, no-literal}

pub begins-no_slot : (line characters mark : List ℕ) (r : Bool) → characters ≡ lexeme line → r ≡ false → r ≡ bytes_eq characters mark
    → mark ≡ codes "?" → (IsUtf8 characters → (v : Value) → IsSymbol characters (Literal v) → ⊥) → BeginsWithNone (slot_by slot_symbol) line
begins-no_slot line characters mark r e f test g not = record { none = λ of y other reads free. none-of of y other reads }
  where
    none-of : IsOfText line → (y : Slot) (other : List ℕ) → Reads line (slot_by slot_symbol y) other → ⊥
    none-of of (Given v) other reads = no-literal line characters e not of v reads.0
    none-of of (Hole n) other reads = lexeme-is_not line characters mark (codes "?") r e f test g reads.0
