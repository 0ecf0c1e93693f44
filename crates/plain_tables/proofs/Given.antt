-- What can be spelled has names, a column and integers of 64 bits.
use Rattle.std.proofs.lemmas.List.Elements.{All-weaker, All-from_recursion}
use Rattle.plain_tables.specs.Names.{IsName}
use Rattle.plain_tables.specs.Spelling.{IsSpellableColumn, IsSpellableValue, IsSpellableSetting, AreSpellableItems}
use Rattle.plain_tables.specs.ResolvedLaws.{HasWidth, NamesItems, SpellableAreGiven}
use Rattle.plain_tables.specs.declared.value.Value.{Value}
use Rattle.plain_tables.specs.declared.value.Value.TheVariants as value
use Rattle.plain_tables.specs.declared.command.Items.{Items}
use Rattle.plain_tables.specs.declared.command.Items.TheVariants as items
use Rattle.plain_tables.specs.declared.command.Command.TheVariants as command

width : (v : Value) → IsSpellableValue v → HasWidth v
width (value.Int z) is = is
width other is = tt

named_items : (its : Items) → AreSpellableItems its → NamesItems its
named_items items.All is = tt
named_items (items.Named names) is = is.0

pub spellable_are_given : SpellableAreGiven
spellable_are_given (command.Table name schema) is = (
  is.0,
  is.1,
  All-weaker IsSpellableColumn (λ c. IsName c.name) (λ c s. s.0) schema.columns (All-from_recursion IsSpellableColumn schema.columns is.2),
)
spellable_are_given (command.Insert name row) is =
    All-weaker IsSpellableValue HasWidth width row (All-from_recursion IsSpellableValue row is.2)
spellable_are_given (command.Update name settings conditions) is =
    All-weaker IsSpellableSetting (λ s. HasWidth s.value) (λ s can. width s.value can.1) settings
    (All-from_recursion IsSpellableSetting settings is.2)
spellable_are_given (command.Select distinct its name joins conditions) is = named_items its is.0
spellable_are_given other is = tt
