use Rattle.std.proofs.Common.{refl}
use Rattle.plain_tables.specs.Spelling.{value_symbols, setting_symbols}
use Rattle.mm_lang.specs.Parsing.{assigned_symbols}
use Rattle.mm_lang.proofs.Fronts.{passed-error, begins-as, begins-none_as}
use Rattle.mm_lang.proofs.items.SettingItem.read.Goals as goal

pub returns-in_err-column-clause-syntax : goal.returns-in_err-column-clause-syntax
returns-in_err-column-clause-syntax c = λ syntax.
    begins-none_as (assigned_symbols value_symbols) setting_symbols (λ s. (s.column, s.value)) (λ s. refl) c.args.line.now
    (c.in_err-column.ensures.syntax (passed-error c.from_residual.ensures.1 syntax))

pub returns-clause-item : goal.returns-clause-item
returns-clause-item c =
    begins-as (assigned_symbols value_symbols) setting_symbols (λ s. (s.column, s.value)) (λ s. refl) c.args.line.now
    (record { column = c.in_ok-column.column; value = c.in_ok-column.value }) c.in_ok-column.line.now c.in_ok-column.ensures.item
