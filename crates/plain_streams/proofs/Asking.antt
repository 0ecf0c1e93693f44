-- Asking: whether a line asks for a block is decided, and it asks for one length at most.
use Rattle.std.proofs.Common.{◌≡◌, ◌≢◌, ◌∙◌, ℕ, zero, suc, ◌<◌, ◌^◌, List, [], ◌∷◌, ◌++◌, length, Bool, true, false, ◌⊎◌, inl, inr, refl, sym, ap, arith}
use Rattle.std.specs.Prelude.{◌&&◌, nat_lt}
use Rattle.std.specs.Bool.{Decides}
use Rattle.std.specs.Str.{bytes_eq, is_utf8}
use Rattle.std.specs.Str.Parse.{IsNumeral, digits_value}
use Rattle.std.proofs.lemmas.Bool.{cases_Bool, cases_eq, cases_lt, true≢false}
use Rattle.std.proofs.lemmas.Bool.Decides.{Decides-and, Decides-ltb, not_from_Decides}
use Rattle.std.proofs.lemmas.List.Elements.{Contains-append_right}
use Rattle.std.proofs.lemmas.Slice.Eq.{bytes_eq-Decides}
use Rattle.std.proofs.lemmas.Str.{IsUtf8-from_is_utf8, is_utf8-from_IsUtf8}
use lib.Chars.{codes}
use Rattle.plain_tables.specs.CsvReading.{is_numeral}
use Rattle.plain_tables.specs.Names.{IsName, is_name}
use Rattle.plain_tables.specs.Reading.{lexeme, after_lexeme}
use Rattle.plain_tables.specs.Spelling.{Keyword, Name, Count, Spells}
use Rattle.plain_tables.specs.declared.command.Command.TheVariants.{Load}
use Rattle.plain_tables.proofs.Lexemes.{lexeme-of_made, made-from_lexeme, blanks-no_lexeme, no_lexeme-blanks}
use Rattle.mm_csv.proofs.FieldParts.{numeral-is, is-numeral}
use Rattle.plain_streams.specs.Division.{IsUnbroken}
use Rattle.plain_streams.specs.Requests.{IsReadable, Asks, Takes, asked, unasked, without_return}

-- ---- line feeds

pub IsUnbroken-nil : IsUnbroken []
IsUnbroken-nil (k, l, e) = omega arith

pub IsUnbroken-cons : (c : ℕ) (xs : List ℕ) → c ≢ 10 → IsUnbroken xs → IsUnbroken (c ∷ xs)
IsUnbroken-cons c xs ne u (zero, l, e) = ne e
IsUnbroken-cons c xs ne u (suc k, l, e) = u (k, omega arith, e)

-- what stands before a line feed and behind it, or no line feed
pub first_line : (bytes : List ℕ) → ((line : List ℕ) × (more : List ℕ) × IsUnbroken line × (bytes ≡ line ++ 10 ∷ more)) ⊎ IsUnbroken bytes
first_line [] = inr IsUnbroken-nil
first_line (c ∷ bytes) = elim (cases_eq c 10) [
  | inl feed ↦ inl ([], bytes, IsUnbroken-nil, ap (λ b. b ∷ bytes) feed)
  | inr other ↦ elim (first_line bytes) [
    | inl (line, more, free, e) ↦ inl (c ∷ line, more, IsUnbroken-cons c line other free, ap (λ s. c ∷ s) e)
    | inr free ↦ inr (IsUnbroken-cons c bytes other free)
  ]
]

-- ---- loads

-- a line by its lexemes: the word, the table, the count, and what stands behind it
abbrev count_of : List ℕ → List ℕ
count_of line = lexeme (after_lexeme (after_lexeme line))

abbrev IsLoadLine : List ℕ → Type 0
IsLoadLine line =
    (lexeme line ≡ codes "load")
    × (IsName (lexeme (after_lexeme line))
    × (IsNumeral 10 (count_of line)
    × ((digits_value 10 (count_of line) < 2 ^ 63) × (lexeme (after_lexeme (after_lexeme (after_lexeme line))) ≡ []))))

Decides-numeral : (ds : List ℕ) → Decides (is_numeral ds) (IsNumeral 10 ds)
Decides-numeral ds = (numeral-is ds, is-numeral ds)

is_load_line : List ℕ → Bool
is_load_line line =
    bytes_eq (lexeme line) (codes "load")
    && (is_name (lexeme (after_lexeme line))
    && (is_numeral (count_of line)
    && (nat_lt (digits_value 10 (count_of line)) (2 ^ 63)
    && bytes_eq (lexeme (after_lexeme (after_lexeme (after_lexeme line)))) [])))

Decides-load_line : (line : List ℕ) → Decides (is_load_line line) (IsLoadLine line)
unfolding is_load_line
Decides-load_line line =
    Decides-and _ _ (bytes_eq-Decides (lexeme line) (codes "load"))
    (Decides-and _ _ ((λ e. e), (λ e. e))
    (Decides-and _ _ (Decides-numeral (count_of line))
    (Decides-and _ _ (Decides-ltb (digits_value 10 (count_of line)) (2 ^ 63)) (bytes_eq-Decides _ []))))

-- A line that spells a load is a load by its lexemes, and the count is what it spells.
load-lexemes : (line table : List ℕ) (n : ℕ) → Spells line (Load table n) → IsLoadLine line × (n ≡ digits_value 10 (count_of line))
load-lexemes line table n spells =
    let word = lexeme-of_made line (Keyword (codes "load")) (Name table ∷ Count n ∷ []) refl spells.2 in
    let name = lexeme-of_made (after_lexeme line) (Name table) (Count n ∷ []) tt word.1 in
    let count = lexeme-of_made (after_lexeme (after_lexeme line)) (Count n) [] tt name.1 in
    let named : IsName (lexeme (after_lexeme line)) = rw name.0.0 name.0.1 in
    let small : digits_value 10 (count_of line) < 2 ^ 63 = rw count.0.2 at count.0.0 in
    ((word.0, (named, (count.0.1, (small, blanks-no_lexeme _ count.1)))), count.0.2)

lexemes-load : (line : List ℕ) → IsUnbroken line → IsLoadLine line → Spells line (Load (lexeme (after_lexeme line)) (digits_value 10 (count_of line)))
lexemes-load line free (word, (name, (numeral, (small, end)))) =
    let behind = after_lexeme (after_lexeme line) in
    let n = digits_value 10 (count_of line) in
    let table = lexeme (after_lexeme line) in
    let count = made-from_lexeme behind (Count n) [] tt (small, numeral, refl) (no_lexeme-blanks (after_lexeme behind) end) in
    let named = made-from_lexeme (after_lexeme line) (Name table) (Count n ∷ []) tt (refl, name) count in
    (free, tt, made-from_lexeme line (Keyword (codes "load")) (Name table ∷ Count n ∷ []) refl word named)

-- ---- what a line asks for

abbrev AsksSome : List ℕ → Type 0
AsksSome line = (n : ℕ) × Asks line n

abbrev AsksNone : List ℕ → Type 0
AsksNone line = (n : ℕ) → ¬ (Asks line n)

readable_or_not : (line : List ℕ) → IsReadable line ⊎ ¬ (IsReadable line)
readable_or_not line = elim (cases_lt 8192 (length line)) [
  | inl long ↦ inr (λ is. omega (arith, long, is.short))
  | inr short ↦ elim (cases_Bool (is_utf8 line)) [
    | inl utf8 ↦ inl (record { short = short; utf8 = IsUtf8-from_is_utf8 line utf8 })
    | inr other ↦ inr (λ is. true≢false (sym (is_utf8-from_IsUtf8 line is.utf8) ∙ other))
  ]
]

asks_if_load : (line : List ℕ) → IsReadable (without_return line) → IsUnbroken (without_return line)
    → (b : Bool) → is_load_line (without_return line) ≡ b → AsksSome line ⊎ AsksNone line
asks_if_load line readable free true load =
    let is = (Decides-load_line (without_return line)).0 load in
    inl (digits_value 10 (count_of (without_return line)), (readable, (lexeme (after_lexeme (without_return line)), lexemes-load (without_return line) free is)))
asks_if_load line readable free false other =
    inr (λ n asks. not_from_Decides (is_load_line (without_return line)) (Decides-load_line (without_return line)) other (load-lexemes (without_return line) asks.1.0 n asks.1.1).0)

-- Whether a line asks for a block is decided.
pub asks_or_not : (line : List ℕ) → AsksSome line ⊎ AsksNone line
asks_or_not line = elim (readable_or_not (without_return line)) [
  | inr not ↦ inr (λ n asks. not asks.0)
  | inl readable ↦ elim (first_line (without_return line)) [
    | inl (front, more, free, e) ↦ inr (λ n asks. asks.1.1.0 (rw e (Contains-append_right front (10 ∷ more) 10 (0, omega arith, refl))))
    | inr free ↦ asks_if_load line readable free (is_load_line (without_return line)) refl
  ]
]

-- A line asks for one length at most.
pub asks_one : (line : List ℕ) (m n : ℕ) → Asks line m → Asks line n → m ≡ n
asks_one line m n (readable, (table, spells)) (same, (other, spells')) =
    (load-lexemes (without_return line) table m spells).1 ∙ sym (load-lexemes (without_return line) other n spells').1

-- ---- what a line takes

pub takes_some : (line : List ℕ) → (n : ℕ) × Takes line n
takes_some line = elim (asks_or_not line) [
  | inl (n, asks) ↦ (n, asked n asks)
  | inr none ↦ (0, unasked none)
]

pub takes_one : (line : List ℕ) (m n : ℕ) → Takes line m → Takes line n → m ≡ n
takes_one line m n (asked k a) (asked l b) = asks_one line k l a b
takes_one line m n (asked k a) (unasked none) = absurd (none k a)
takes_one line m n (unasked none) (asked l b) = absurd (none l b)
takes_one line m n (unasked none) (unasked none') = refl

-- A line that takes bytes asks for them.
pub takes_asks : (line : List ℕ) (n : ℕ) → 0 < n → Takes line n → Asks line n
takes_asks line n some (asked k a) = a
takes_asks line n some (unasked none) = absurd (omega arith)
