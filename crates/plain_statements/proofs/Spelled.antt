-- Spelled: the laws of lines and statements.
use Rattle.std.proofs.Common.{◌≡◌, ℕ, List, [], ◌∷◌, map, length, refl, sym, ap, ◌∙◌, subst, arith}
use Rattle.std.specs.Prelude.{IfSome}
use Rattle.std.specs.List.{AllByRecursion, flat_map, range_with_len}
use Rattle.std.proofs.lemmas.List.FromFn.{length-map-range_with_len}
use Rattle.plain_tables.specs.Spelling.{IsSpellableValue, Spells}
use Rattle.plain_tables.specs.declared.value.Value.{Value}
use Rattle.plain_tables.specs.declared.command.Command.{Command}
use Rattle.plain_tables.specs.declared.command.Command.TheVariants as command
use Rattle.plain_tables.proofs.Separated.{all-append}
use Rattle.plain_tables.proofs.Uniqueness.{spells-one}
use Rattle.plain_statements.specs.declared.statement.Slot.{Slot}
use Rattle.plain_statements.specs.declared.statement.Slot.TheVariants.{Given}
use Rattle.plain_statements.specs.Filling.{slot_value, filled_setting, filled_condition, filled}
use Rattle.plain_statements.specs.StatementSpelling.{marks, written, numbers_of, slots_of, holes_of, given_setting, given_condition, given, SpellsAtMostOneStatement, CommandsAreStatements, StatementsWithoutMarks}
use Rattle.plain_statements.proofs.Holes.{null_at, text_at, text_at-spellable, values_by, all-spellable, statements-one}

-- ---- at most one statement

pub spells-one-statement : SpellsAtMostOneStatement
spells-one-statement line s t p q =
    let m : ℕ = marks line in
    let same : (f : ℕ → Value) → ((n : ℕ) → IsSpellableValue (f n)) → filled (values_by f m) s ≡ filled (values_by f m) t =
    λ f each. spells-one (written (values_by f m) line) (filled (values_by f m) s) (filled (values_by f m) t)
    (p.1 (values_by f m) (length-map-range_with_len f 0 m) (all-spellable f each 0 m))
    (q.1 (values_by f m) (length-map-range_with_len f 0 m) (all-spellable f each 0 m)) in
    statements-one m s t p.0 q.0 (same null_at (λ n. tt)) (same text_at text_at-spellable)

-- ---- lines without question marks

pub written-none : (line : List ℕ) → written [] line ≡ line
written-none [] = refl
written-none (c ∷ cs) = refl

pub statements_without_marks : StatementsWithoutMarks
statements_without_marks line s none spells = subst (λ l. Spells l (filled [] s)) (written-none line) (spells.1 [] (sym none) tt)

-- ---- commands

map-back : {X Y : Type 0} (f : Y → X) (g : X → Y) → ((x : X) → f (g x) ≡ x) → (xs : List X) → map f (map g xs) ≡ xs
map-back f g back [] = refl
map-back f g back (x ∷ xs) = rw (back x, map-back f g back xs) refl

given-filled : (values : List Value) (c : Command) → IfSome (given c) (λ s. filled values s ≡ c)
given-filled values (command.Insert table row) = rw (map-back (slot_value values) Given (λ v. refl) row) refl
given-filled values (command.Update table settings conditions) =
    rw (map-back (filled_setting values) given_setting (λ x. refl) settings, map-back (filled_condition values) given_condition (λ x. refl) conditions) refl
given-filled values (command.Delete table conditions) = rw (map-back (filled_condition values) given_condition (λ x. refl) conditions) refl
given-filled values (command.Select distinct items table joins conditions) =
    rw (map-back (filled_condition values) given_condition (λ x. refl) conditions) refl
given-filled values other = tt

-- slots of which none is a hole
abbrev AreGiven : List Slot → Type 0
AreGiven slots = AllByRecursion (λ x. numbers_of x ≡ []) slots

given-none : (slots : List Slot) → AreGiven slots → flat_map numbers_of slots ≡ []
given-none [] all = refl
given-none (x ∷ slots) all = rw (all.0, given-none slots all.1) refl

values-given : (row : List Value) → AreGiven (map Given row)
values-given [] = tt
values-given (v ∷ row) = (refl, values-given row)

slots-given : {X Y : Type 0} (slot : Y → Slot) (g : X → Y) → ((x : X) → numbers_of (slot (g x)) ≡ []) → (xs : List X)
    → AreGiven (map slot (map g xs))
slots-given slot g each [] = tt
slots-given slot g each (x ∷ xs) = (each x, slots-given slot g each xs)

given-slots : (c : Command) → IfSome (given c) (λ s. AreGiven (slots_of s))
given-slots (command.Insert table row) = values-given row
given-slots (command.Update table settings conditions) =
    all-append (λ x. numbers_of x ≡ []) (map (λ x. x.slot) (map given_setting settings)) (map (λ x. x.slot) (map given_condition conditions))
    (slots-given (λ x. x.slot) given_setting (λ x. refl) settings) (slots-given (λ x. x.slot) given_condition (λ x. refl) conditions)
given-slots (command.Delete table conditions) = slots-given (λ x. x.slot) given_condition (λ x. refl) conditions
given-slots (command.Select distinct items table joins conditions) = slots-given (λ x. x.slot) given_condition (λ x. refl) conditions
given-slots other = tt

none-long : (values : List Value) → length values ≡ 0 → values ≡ []
none-long [] e = refl
none-long (v ∷ values) e = absurd (omega arith)

pub commands_are_statements : CommandsAreStatements
commands_are_statements line c s e = (filling, λ none spells. (numbers none, spelled none spells))
  where
    filling : (values : List Value) → filled values s ≡ c
    filling values = subst (λ found. IfSome found (λ t. filled values t ≡ c)) e (given-filled values c)

    numbers : marks line ≡ 0 → holes_of s ≡ range_with_len 0 (marks line)
    numbers none =
        given-none (slots_of s) (subst (λ found. IfSome found (λ t. AreGiven (slots_of t))) e (given-slots c)) ∙ ap (range_with_len 0) (sym none)

    spelled : marks line ≡ 0 → Spells line c → (values : List Value) → length values ≡ marks line → AllByRecursion IsSpellableValue values
        → Spells (written values line) (filled values s)
    spelled none spells values long can = rw (none-long values (long ∙ none), written-none line, filling []) spells
