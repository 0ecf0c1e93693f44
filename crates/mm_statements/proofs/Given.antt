-- Given: a statement that a line spells, with values of 64 bits, is a command as a line can give it.
use Rattle.std.proofs.Common.{ℕ, List, length, ⊎_elim, subst, sym}
use Rattle.std.specs.List.{All}
use Rattle.std.proofs.lemmas.Bool.{cases_lt}
use Rattle.std.proofs.lemmas.List.{get_or_past}
use Rattle.std.proofs.lemmas.List.Elements.{All-get_or, All-map, All-weaker}
use Rattle.common_lemmas.proofs.Elements.{All-from_map}
use Rattle.plain_tables.specs.ResolvedLaws.{HasWidth, IsGiven}
use Rattle.plain_tables.specs.declared.value.Value.{Value}
use Rattle.plain_tables.specs.declared.value.Value.TheVariants as value
use Rattle.plain_tables.specs.declared.command.Setting.{Setting}
use Rattle.plain_tables.proofs.Given.{spellable_are_given}
use Rattle.plain_tables.proofs.Spellable.{spelled-spellable}
use Rattle.plain_statements.specs.declared.statement.Slot.{Slot}
use Rattle.plain_statements.specs.declared.statement.Slot.TheVariants.{Given, Hole}
use Rattle.plain_statements.specs.declared.statement.Statement.{Statement}
use Rattle.plain_statements.specs.declared.statement.Statement.TheVariants as statement
use Rattle.plain_statements.specs.Filling.{filled, filled_setting, hole_value, slot_value}
use Rattle.plain_statements.specs.StatementSpelling.{SpellsStatement, marks, written}
use Rattle.mm_statements.proofs.Marks.{nulls, spelled-null}

module _ (values : List Value) (all : All HasWidth values) where
  hole-width : (n : ℕ) → HasWidth (hole_value values n)
  hole-width n =
      ⊎_elim (λ below. All-get_or HasWidth values n value.Null below all)
      (λ past. subst HasWidth (sym (get_or_past values n value.Null past)) tt) (cases_lt n (length values))

  slot-width : (others : List Value) (slot : Slot) → HasWidth (slot_value others slot) → HasWidth (slot_value values slot)
  slot-width others (Given v) given = given
  slot-width others (Hole n) given = hole-width n

  given-with : (others : List Value) (s : Statement) → IsGiven (filled others s) → IsGiven (filled values s)
  given-with others (statement.Insert table slots) given =
      All-map HasWidth (slot_value values) slots
      (All-weaker (λ x. HasWidth (slot_value others x)) (λ x. HasWidth (slot_value values x)) (slot-width others) slots
      (All-from_map HasWidth (slot_value others) slots given))
  given-with others (statement.Update table settings conditions) given =
      All-map (λ (x : Setting). HasWidth x.value) (filled_setting values) settings
      (All-weaker (λ x. HasWidth (slot_value others x.slot)) (λ x. HasWidth (slot_value values x.slot)) (λ x. slot-width others x.slot) settings
      (All-from_map (λ (x : Setting). HasWidth x.value) (filled_setting others) settings given))
  given-with others s given = given

  pub filled-given : (line : List ℕ) (s : Statement) → SpellsStatement line s → IsGiven (filled values s)
  filled-given line s spells =
      let others : List Value = nulls (marks line) in
      given-with others s
      (spellable_are_given (filled others s) (spelled-spellable (written others line) (filled others s) (spelled-null line s spells)))
