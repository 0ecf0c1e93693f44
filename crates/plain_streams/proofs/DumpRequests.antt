-- The answer of a dump: it is one whole request, which loads the block.
use Rattle.std.proofs.Common.{◌≡◌, ℕ, zero, suc, ◌<◌, ◌≤◌, ◌^◌, List, [], ◌∷◌, ◌++◌, length, Bool, true, false, refl, sym, ◌∙◌, subst, arith, append_assoc, append-nil, length-append}
use Rattle.std.specs.Prelude.{◌==◌, ◌-◌, ◌&&◌, IsFalse, nat_le, not, slice_index}
use Rattle.std.specs.Fmt.{decimal}
use Rattle.std.specs.List.{AllByRecursion}
use Rattle.std.specs.Str.{IsAscii}
use Rattle.std.proofs.lemmas.Bool.{and_parts, leb-true, ltb-false, ne_eqb}
use Rattle.std.proofs.lemmas.Bool.Decides.{nat_tests}
use Rattle.std.proofs.lemmas.Fmt.{decimal_is_IsNumeral, length-decimal-le}
use Rattle.std.proofs.lemmas.Str.{IsUtf8-from_ascii}
use Rattle.std.proofs.lemmas.Str.Ascii.{IsAscii-cons, IsAscii-nil}
use Rattle.plain_tables.specs.AnswerText.{answer_text}
use Rattle.plain_tables.specs.Names.{IsName, is_reserved, is_word, is_word_character}
use Rattle.plain_tables.specs.Reading.{begins_run}
use Rattle.plain_tables.specs.Spelling.{Count, Name, Spells, canonical_spelling}
use Rattle.plain_tables.specs.Databases.{Database}
use Rattle.plain_tables.specs.References.{IsSoundTable}
use Rattle.plain_tables.specs.Effects.{Effect, Dumped}
use Rattle.plain_tables.specs.Doing.{dump_block}
use Rattle.plain_tables.specs.Commands.{effect_of}
use Rattle.plain_tables.specs.declared.command.Limits.{Limits}
use Rattle.plain_tables.specs.declared.command.Command.TheVariants.{Load}
use Rattle.plain_tables.proofs.Canonical.{canonical-spells}
use Rattle.plain_tables.proofs.Lexemes.{AllPass, IsRun, word-ascii, begins-ascii, symbol-run}
use Rattle.common_lemmas.proofs.Tests.{find_satisfies}
use Rattle.plain_tables.proofs.Separated.{all-append}
use Rattle.plain_tables.specs.Databases.{is_named}
use Rattle.mm_csv.specs.BlockReading.{block_records}
use Rattle.plain_streams.specs.Requests.{Request, IsReadable, Asks, asked, is_silent, without_return}
use Rattle.plain_streams.specs.Division.{IsWhole, Divides, request_bytes, last_request}
use Rattle.plain_streams.specs.Runs.{Answers, AnswersAll, IsEffect, HasBlock, command, effect}
use Rattle.plain_streams.specs.Dumps.{DumpsAreRequests, DumpsRunAgain, load_request}
use Rattle.plain_streams.proofs.Asking.{asks_one}
use Rattle.plain_streams.proofs.Division.{Divides-behind, Divides-nil}
use Rattle.plain_streams.proofs.Dumps.{dumped, dumps_load_again}

-- ---- characters that are shown

-- a blank or a character behind it, of ASCII
abbrev IsShown : ℕ → Type 0
IsShown c = (32 ≤ c) × (c < 128)

abbrev AreShown : List ℕ → Type 0
AreShown cs = AllByRecursion IsShown cs

word-low : (c : ℕ) → is_word_character c ≡ true → 32 ≤ c
word-low c h = grind (arith, nat_tests)

words-shown : (cs : List ℕ) → AllPass is_word_character cs → AreShown cs
words-shown [] all = tt
words-shown (c ∷ cs) all = ((word-low c all.0, word-ascii c all.0), words-shown cs all.1)

begins-low : (c : ℕ) → begins_run c ≡ true → 32 ≤ c
begins-low c h = grind (arith, nat_tests)

run-shown : (cs : List ℕ) → IsRun cs → AreShown cs
run-shown [] run = absurd run
run-shown (c ∷ cs) run = ((begins-low c run.1, begins-ascii c run.1), words-shown cs run.2)

name-shown : (name : List ℕ) → IsName name → AreShown name
name-shown name named = run-shown name (symbol-run name (Name name) tt tt (refl, named))

count-shown : (n : ℕ) → n < 2 ^ 63 → AreShown (decimal n)
count-shown n small =
    let (numeral, value) = decimal_is_IsNumeral n (omega arith) in
    run-shown (decimal n) (symbol-run (decimal n) (Count n) tt tt (small, numeral, sym value))

shown-ascii : (cs : List ℕ) → AreShown cs → IsAscii cs
shown-ascii [] all = IsAscii-nil
shown-ascii (c ∷ cs) all = IsAscii-cons c cs all.0.1 (shown-ascii cs all.1)

no-return : (cs : List ℕ) (i : ℕ) → AreShown cs → (slice_index cs i == 13) ≡ false
no-return [] i all = refl
no-return (c ∷ cs) zero all = ne_eqb c 13 (λ e. omega arith)
no-return (c ∷ cs) (suc i) all = no-return cs i all.1

-- ---- the line of a load

load-shown : (name : List ℕ) (n : ℕ) → IsName name → n < 2 ^ 63 → AreShown (canonical_spelling (Load name n))
load-shown name n named small =
    let digits = count-shown n small in
    let rest = all-append IsShown name (32 ∷ decimal n) (name-shown name named) ((omega arith, omega arith), digits) in
    ((omega arith, omega arith), ((omega arith, omega arith), ((omega arith, omega arith), ((omega arith, omega arith), ((omega arith, omega arith), rest)))))

load-short : (name : List ℕ) (n : ℕ) → IsName name → n < 2 ^ 63 → length (canonical_spelling (Load name n)) ≤ 8192
load-short name n named small =
    let short = (and_parts (is_word name) (nat_le (length name) 32 && not (is_reserved name)) named).1 in
    let few = leb-true (length name) 32 (and_parts (nat_le (length name) 32) (not (is_reserved name)) short).0 in
    let digits = length-decimal-le 20 n (omega arith) (omega arith) (omega arith) in
    let whole = length-append name (32 ∷ decimal n) in
    omega arith

-- What is printed for a load asks for its block, and spells the load alone.
load-line : (name : List ℕ) (n : ℕ) → IsName name → n < 2 ^ 63
    → (without_return (canonical_spelling (Load name n)) ≡ canonical_spelling (Load name n))
    × IsReadable (canonical_spelling (Load name n)) × Spells (canonical_spelling (Load name n)) (Load name n)
load-line name n named small =
    let line = canonical_spelling (Load name n) in
    let shown = load-shown name n named small in (
      rw (no-return line (length line - 1) shown) refl,
      record { short = load-short name n named small; utf8 = IsUtf8-from_ascii line (shown-ascii line shown) },
      canonical-spells (Load name n) (named, small),
    )

-- ---- the request

request-loads : (limits : Limits) (name block : List ℕ) → IsName name → length block ≤ limits.block → limits.block < 2 ^ 32
    → IsWhole (load_request name block)
    × ((others : Database) → IsEffect limits others (load_request name block) (effect_of (block_records block) limits others (Load name (length block))))
request-loads limits name block named within small =
    let n = length block in
    let line = canonical_spelling (Load name n) in
    let (same, readable, spells) = load-line name n named (omega arith) in
    let asks : Asks line n =
    subst (λ l. IsReadable l × ((table : List ℕ) × Spells l (Load table n))) (sym same) (readable, (name, spells)) in
    let has : HasBlock limits (load_request name block) = λ m other. let one = asks_one line m n other asks in (omega arith, sym one) in
    let loud : IsFalse (is_silent (without_return line)) = subst (λ l. IsFalse (is_silent l)) (sym same) refl in
    (record { line = spells.0; block = asked n asks }, λ others. command (Load name n) asks.0 loud (subst (λ l. Spells l (Load name n)) (sym same) spells) has)

pub dumps_are_requests : DumpsAreRequests
dumps_are_requests limits tables table name shown block small sound found answered =
    let (shown_is, block_is, fits) = dumped limits tables table name shown block found answered in
    let named : IsName shown = subst IsName shown_is ((find_satisfies (IsSoundTable limits) (is_named name) tables table sound.each found).0.named) in
    let within : length block ≤ limits.block = subst (λ b. length b ≤ limits.block) block_is (ltb-false limits.block (length (dump_block table)) fits) in
    let (whole, loads) = request-loads limits shown block named within small in
    (append_assoc (canonical_spelling (Load shown (length block))) (10 ∷ []) block, whole, loads)

-- one request and nothing behind it, finished or not
one-answer : (limits : Limits) (from : Database) (request : Request) (finished : Bool) (answer : List ℕ) (after : Database)
    → Answers limits from request answer after → AnswersAll limits from ((request ∷ []) ++ last_request finished []) answer after
one-answer limits from request false answer after here = (answer, [], after, here, (refl, refl), sym (append-nil answer))
one-answer limits from request true answer after here = (answer, [], after, here, (refl, refl), sym (append-nil answer))

pub dumps_run_again : DumpsRunAgain
dumps_run_again limits tables table others copy name shown block finished small sound found read ready answered =
    let request : Request = load_request shown block in
    let (same, whole, loads) = dumps_are_requests limits tables table name shown block small sound found answered in
    let done = dumps_load_again limits tables table others copy name shown block sound found read ready answered in
    let one = Divides-behind request [] [] [] whole Divides-nil in
    let divides : Divides (answer_text (Dumped shown block)) (request ∷ []) [] =
    subst (λ s. Divides s (request ∷ []) []) (append-nil (request_bytes request) ∙ sym same) one in
    let here = subst (λ (e : Effect). Answers limits others request (answer_text e.outcome) e.database) done (effect _ (loads others)) in
    (request ∷ [], [], divides, one-answer limits others request finished _ _ here)
