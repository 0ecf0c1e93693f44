-- The texts in a command that a UTF-8 line spells are UTF-8.
use Rattle.std.proofs.Common.{◌≡◌, ℕ, List, [], ◌∷◌, ◌++◌, map, Bool, true, false, refl, sym, ◌∙◌, ap, arith, subst, append_assoc}
use Rattle.std.specs.Prelude.{◌==◌}
use Rattle.std.specs.List.{All, AllByRecursion, flat_map}
use Rattle.std.specs.Str.{IsUtf8}
use Rattle.std.proofs.lemmas.Bool.{eqb-true}
use Rattle.std.proofs.lemmas.List.Elements.{All-from_recursion}
use Rattle.std.proofs.lemmas.Str.{IsUtf8-append}
use Rattle.plain_tables.specs.Spelling.{Symbol, Literal, Sign, Close, Comma, doubled, separated, value_symbols, setting_symbols, where_symbols, symbols_of, IsSymbol, IsMadeOf, Spells}
use Rattle.plain_tables.specs.declared.value.Value.TheVariants as value
use Rattle.plain_tables.specs.declared.command.Command.{Command}
use Rattle.plain_tables.specs.declared.command.Command.TheVariants as command
use Rattle.plain_tables.proofs.Separated.{all-left, separated-each}
use Rattle.plain_tables.proofs.Utf8Parts.{utf8-before, utf8-behind, mark-utf8}
use Rattle.plain_streams.specs.Texts.{IsTextUtf8}

-- ---- a text with its quote marks doubled

-- one character of a text, single or doubled, behind what is UTF-8
undoubled-one : (front : List ℕ) (c : ℕ) (text : List ℕ) (b : Bool) → (c == 39) ≡ b
    → (IsUtf8 (flat_map doubled text) → IsUtf8 text)
    → (IsUtf8 ((front ++ c ∷ []) ++ flat_map doubled text) → IsUtf8 ((front ++ c ∷ []) ++ text))
    → IsUtf8 (front ++ (doubled c ++ flat_map doubled text)) → IsUtf8 (front ++ c ∷ text)
undoubled-one front c text true mark behind_mark later whole =
    let is : c ≡ 39 = eqb-true c 39 mark in
    let marked : IsUtf8 (front ++ 39 ∷ c ∷ flat_map doubled text) = rw mark at whole in
    let behind : IsUtf8 (c ∷ flat_map doubled text) = utf8-behind front 39 (c ∷ flat_map doubled text) (omega arith) marked in
    let rest : IsUtf8 text = behind_mark (utf8-behind [] c (flat_map doubled text) (omega (arith, is)) behind) in
    let one : IsUtf8 (c ∷ []) = subst (λ n. IsUtf8 (n ∷ [])) (sym is) mark-utf8 in
    IsUtf8-append front (c ∷ text) (utf8-before front 39 (c ∷ flat_map doubled text) (omega arith) marked)
    (IsUtf8-append (c ∷ []) text one rest)
undoubled-one front c text false plain behind_mark later whole =
    let single : IsUtf8 (front ++ c ∷ flat_map doubled text) = rw plain at whole in
    subst IsUtf8 (append_assoc front (c ∷ []) text)
    (later (subst IsUtf8 (sym (append_assoc front (c ∷ []) (flat_map doubled text))) single))

undoubled : (front text : List ℕ) → IsUtf8 (front ++ flat_map doubled text) → IsUtf8 (front ++ text)
undoubled front [] utf8 = utf8
undoubled front (c ∷ text) utf8 =
    undoubled-one front c text (c == 39) refl (undoubled [] text) (undoubled (front ++ c ∷ []) text) utf8

-- ---- the symbols of a line

-- a literal of a UTF-8 text, or of no text, or no literal
abbrev IsSymbolUtf8 : Symbol → Type 0
IsSymbolUtf8 (Literal v) = IsTextUtf8 v
IsSymbolUtf8 symbol = Unit {0}

symbol-utf8 : (front characters rest : List ℕ) (symbol : Symbol) → IsSymbol characters symbol
    → IsUtf8 (front ++ (characters ++ rest)) → IsSymbolUtf8 symbol
symbol-utf8 front characters rest (Literal (value.Text text)) is utf8 =
    let inner : List ℕ = flat_map doubled text in
    let whole : front ++ (characters ++ rest) ≡ front ++ 39 ∷ (inner ++ 39 ∷ rest) =
    ap (λ cs. front ++ (cs ++ rest)) is ∙ ap (λ cs. front ++ 39 ∷ cs) (append_assoc inner (39 ∷ []) rest) in
    let behind : IsUtf8 (inner ++ 39 ∷ rest) = utf8-behind front 39 (inner ++ 39 ∷ rest) (omega arith) (subst IsUtf8 whole utf8) in
    undoubled [] text (utf8-before inner 39 rest (omega arith) behind)
symbol-utf8 front characters rest other is utf8 = tt

made-utf8 : (symbols : List Symbol) (front line : List ℕ) → IsUtf8 (front ++ line) → IsMadeOf line symbols
    → AllByRecursion IsSymbolUtf8 symbols
made-utf8 [] front line utf8 made = tt
made-utf8 (symbol ∷ symbols) front line utf8 (blanks, characters, rest, are, is, ends, others, e) =
    let here : IsUtf8 ((front ++ blanks) ++ (characters ++ rest)) =
    subst IsUtf8 (ap (λ l. front ++ l) e ∙ sym (append_assoc front blanks (characters ++ rest))) utf8 in (
      symbol-utf8 (front ++ blanks) characters rest symbol is here,
      made-utf8 symbols ((front ++ blanks) ++ characters) rest
          (subst IsUtf8 (sym (append_assoc (front ++ blanks) characters rest)) here) others,
    )

-- ---- the texts that a command is to store

abbrev pub StoresUtf8 : Command → Type 0
StoresUtf8 (command.Insert name row) = All IsTextUtf8 row
StoresUtf8 (command.Update name settings conditions) = All (λ s. IsTextUtf8 s.value) settings
StoresUtf8 c = Unit {0}

symbols-stored : (c : Command) → AllByRecursion IsSymbolUtf8 (symbols_of c) → StoresUtf8 c
symbols-stored (command.Insert name row) all =
    All-from_recursion IsTextUtf8 row
    (separated-each IsSymbolUtf8 (Sign Comma) value_symbols IsTextUtf8 (λ v each. each.0) row
    (all-left IsSymbolUtf8 (separated (map value_symbols row)) (Sign Close ∷ []) all.1.1.1))
symbols-stored (command.Update name settings conditions) all =
    All-from_recursion (λ s. IsTextUtf8 s.value) settings
    (separated-each IsSymbolUtf8 (Sign Comma) setting_symbols (λ s. IsTextUtf8 s.value) (λ s each. each.1.1.0) settings
    (all-left IsSymbolUtf8 (separated (map setting_symbols settings)) (where_symbols conditions) all.1.1.1))
symbols-stored other all = tt

pub spelled-stored : (line : List ℕ) (c : Command) → IsUtf8 line → Spells line c → StoresUtf8 c
spelled-stored line c utf8 spells = symbols-stored c (made-utf8 (symbols_of c) [] line utf8 spells.2)
