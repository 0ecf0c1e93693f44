-- Example: a line of which one question mark is a hole, and another one stands in a text.
use Rattle.std.proofs.Common.{◌≡◌, ℕ, List, [], ◌∷◌, ◌++◌, length, refl, sym, ap, subst, append_assoc, arith}
use Rattle.std.specs.List.{AllByRecursion}
use lib.Chars.{codes}
use Rattle.plain_tables.specs.Spelling.{Symbol, Keyword, Name, Literal, Sign, Open, Close, Comma, IsMadeOf, symbol_text, IsSpellableValue, Spells}
use Rattle.plain_tables.specs.declared.value.Value.{Value}
use Rattle.plain_tables.specs.declared.value.Value.TheVariants as value
use Rattle.plain_tables.specs.declared.command.Command.{Command}
use Rattle.plain_tables.specs.declared.command.Command.TheVariants as command
use Rattle.plain_tables.proofs.Canonical.{symbol-text, blank-ends}
use Rattle.plain_tables.proofs.LineFeeds.{contains-feed}
use Rattle.plain_tables.proofs.WellFormed.{made-no_line_feed}
use Rattle.plain_statements.specs.declared.statement.Slot.TheVariants.{Given, Hole}
use Rattle.plain_statements.specs.declared.statement.Statement.TheVariants as statement
use Rattle.plain_statements.specs.Filling.{filled}
use Rattle.plain_statements.specs.StatementSpelling.{written, QuestionMarksAreHoles}

-- the line's symbols, from the last one to the first
abbrev behind_hole : List Symbol
behind_hole = Sign Comma ∷ Literal (value.Text (codes "a?b")) ∷ Sign Close ∷ []

closed : IsMadeOf (codes ")") (Sign Close ∷ [])
closed = ([], codes ")", [], tt, refl, tt, tt, refl)

text-made : IsMadeOf (codes " 'a?b')") (Literal (value.Text (codes "a?b")) ∷ Sign Close ∷ [])
text-made = (32 ∷ [], codes "'a?b'", codes ")", (refl, tt), refl, refl, closed, refl)

comma-made : IsMadeOf (codes " , 'a?b')") behind_hole
comma-made = (32 ∷ [], codes ",", codes " 'a?b')", (refl, tt), refl, refl, text-made, refl)

hole-made : (v : Value) → IsSpellableValue v → IsMadeOf (32 ∷ symbol_text (Literal v) ++ codes " , 'a?b')") (Literal v ∷ behind_hole)
hole-made v can =
    (32 ∷ [], symbol_text (Literal v), codes " , 'a?b')", (refl, tt), symbol-text (Literal v) can, blank-ends (Literal v) (codes ", 'a?b')"), comma-made, refl)

abbrev row_line : Value → List ℕ
row_line v = 32 ∷ symbol_text (Literal v) ++ codes " , 'a?b')"

line-made : (v : Value) → IsSpellableValue v
    → IsMadeOf (codes "insert t (" ++ row_line v) (Keyword (codes "insert") ∷ Name (codes "t") ∷ Sign Open ∷ Literal v ∷ behind_hole)
line-made v can =
    let opened : IsMadeOf (codes " (" ++ row_line v) (Sign Open ∷ Literal v ∷ behind_hole) =
    (32 ∷ [], codes "(", row_line v, (refl, tt), refl, refl, hole-made v can, refl) in
    let name : IsMadeOf (codes " t (" ++ row_line v) (Name (codes "t") ∷ Sign Open ∷ Literal v ∷ behind_hole) =
    (32 ∷ [], codes "t", codes " (" ++ row_line v, (refl, tt), (refl, refl), refl, opened, refl) in
    ([], codes "insert", codes " t (" ++ row_line v, tt, refl, refl, name, refl)

example-spells : (v : Value) → IsSpellableValue v
    → Spells (codes "insert t (" ++ row_line v) (command.Insert (codes "t") (v ∷ value.Text (codes "a?b") ∷ []))
example-spells v can =
    let row : Command = command.Insert (codes "t") (v ∷ value.Text (codes "a?b") ∷ []) in
    let text : IsSpellableValue (value.Text (codes "a?b")) = contains-feed (codes "a?b") ((λ e. omega arith), ((λ e. omega arith), ((λ e. omega arith), tt))) in (
      made-no_line_feed row (codes "insert t (" ++ row_line v) (refl, omega arith, (can, (text, tt))) (line-made v can),
      omega arith,
      line-made v can,
    )

written-line : (v : Value) → written (v ∷ []) (codes "insert t (?, 'a?b')") ≡ codes "insert t (" ++ row_line v
written-line v = ap (λ l. codes "insert t ( " ++ l) (append_assoc (symbol_text (Literal v)) (32 ∷ []) (codes ", 'a?b')"))

pub question_marks_are_holes : QuestionMarksAreHoles
question_marks_are_holes = (refl, each)
  where
    each : (values : List Value) → length values ≡ 1 → AllByRecursion IsSpellableValue values
        → Spells (written values (codes "insert t (?, 'a?b')")) (filled values (statement.Insert (codes "t") (Hole 0 ∷ Given (value.Text (codes "a?b")) ∷ [])))
    each [] long can = absurd (omega arith)
    each (v ∷ []) long can =
        subst (λ l. Spells l (command.Insert (codes "t") (v ∷ value.Text (codes "a?b") ∷ []))) (sym (written-line v)) (example-spells v can.0)
    each (v ∷ w ∷ values) long can = absurd (omega arith)
