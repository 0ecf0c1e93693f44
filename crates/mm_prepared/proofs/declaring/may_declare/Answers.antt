use Rattle.std.proofs.Common.{◌≡◌, ◌∙◌, ap, sym, false}
use lib.Chars.{codes}
use Rattle.mm_prepared.specs.Declaring.{behind_blanks}
use Rattle.mm_prepared.proofs.Declarations.{begins, last-begins, tables-begin}
use Rattle.mm_prepared.proofs.declaring.may_declare.Goals as goal

pub returns-else-starts_with : goal.returns-else-starts_with
returns-else-starts_with c = λ of.
    let text = behind_blanks c.args.line.now in
    let same = c.trim_blanks-text.ensures in
    let table : begins text (codes "table") ≡ false =
    ap (λ t. begins t (codes "table")) (sym same) ∙ (sym c.starts_with.ensures.value ∙ c.if-starts_with.false) in
    c.starts_with-else-starts_with.ensures.value
    ∙ (ap (λ t. begins t (codes "drop")) same
    ∙ last-begins (begins text (codes "table")) (begins text (codes "drop")) (tables-begin c.args.line.now of) table)
