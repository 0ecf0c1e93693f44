-- Line feeds: which characters hold none.
use Rattle.std.proofs.Common.{◌≡◌, ◌≢◌, ℕ, zero, suc, List, [], ◌∷◌, Bool, true, false, refl, sym, ◌∙◌, ap, arith}
use Rattle.std.specs.Prelude.{◌==◌}
use Rattle.std.specs.List.{AllByRecursion, Contains, flat_map}
use Rattle.plain_tables.specs.Names.{is_word_character}
use Rattle.plain_tables.specs.Spelling.{Mark, Operator, mark_text, doubled, text_literal}
use Rattle.plain_tables.specs.Reading.{begins_run}
use Rattle.plain_tables.specs.declared.condition.Op.TheVariants as op
use Rattle.plain_tables.proofs.Lexemes.{AllPass, IsRun}
use Rattle.plain_tables.proofs.Separated.{all-append, all-left, all-right}

abbrev pub HasNoFeed : List ℕ → Type 0
HasNoFeed characters = AllByRecursion (λ c. c ≢ 10) characters

pub contains-feed : (line : List ℕ) → HasNoFeed line → Contains line 10 → ⊥
contains-feed [] free (k, within, e) = omega arith
contains-feed (c ∷ cs) free (zero, within, e) = free.0 e
contains-feed (c ∷ cs) free (suc k, within, e) = contains-feed cs free.1 (k, omega arith, e)

pub contains-no_feed : (line : List ℕ) → ¬ (Contains line 10) → HasNoFeed line
contains-no_feed [] not = tt
contains-no_feed (c ∷ cs) not =
    ((λ e. not (zero, omega arith, e)), contains-no_feed cs (λ has. not (suc has.0, omega (arith, has.1), has.2)))

-- ---- runs and signs

pub passing-no_feed : (p : ℕ → Bool) → p 10 ≡ false → (cs : List ℕ) → AllPass p cs → HasNoFeed cs
passing-no_feed p not [] all = tt
passing-no_feed p not (c ∷ cs) all =
    ((λ e. let here : p 10 ≡ true = ap p (sym e) ∙ all.0 in cc), passing-no_feed p not cs all.1)

pub run-no_feed : (characters : List ℕ) → IsRun characters → HasNoFeed characters
run-no_feed [] run = elim run [ ]
run-no_feed (c ∷ cs) run =
    ((λ e. let here : begins_run 10 ≡ true = ap begins_run (sym e) ∙ run.1 in cc), passing-no_feed is_word_character refl cs run.2)

pub mark-no_feed : (mark : Mark) → HasNoFeed (mark_text mark)
mark-no_feed (Operator op.Ne) = ((λ e. omega arith), ((λ e. omega arith), tt))
mark-no_feed (Operator op.Le) = ((λ e. omega arith), ((λ e. omega arith), tt))
mark-no_feed (Operator op.Ge) = ((λ e. omega arith), ((λ e. omega arith), tt))
mark-no_feed mark = ((λ e. omega arith), tt)

-- ---- texts

doubled-no_feed : (c : ℕ) (b : Bool) → (c == 39) ≡ b → c ≢ 10 → HasNoFeed (doubled c)
doubled-no_feed c true mark other = rw mark ((λ e. omega arith), (other, tt))
doubled-no_feed c false plain other = rw plain (other, tt)

doubled-feed : (c : ℕ) (b : Bool) → (c == 39) ≡ b → HasNoFeed (doubled c) → c ≢ 10
doubled-feed c true mark free = let both : HasNoFeed (39 ∷ c ∷ []) = rw mark at free in both.1.0
doubled-feed c false plain free = let one : HasNoFeed (c ∷ []) = rw plain at free in one.0

inner-no_feed : (text : List ℕ) → HasNoFeed text → HasNoFeed (flat_map doubled text)
inner-no_feed [] free = tt
inner-no_feed (c ∷ text) free =
    all-append (λ c. c ≢ 10) (doubled c) (flat_map doubled text) (doubled-no_feed c (c == 39) refl free.0) (inner-no_feed text free.1)

inner-feed : (text : List ℕ) → HasNoFeed (flat_map doubled text) → HasNoFeed text
inner-feed [] free = tt
inner-feed (c ∷ text) free = (
  doubled-feed c (c == 39) refl (all-left (λ c. c ≢ 10) (doubled c) (flat_map doubled text) free),
  inner-feed text (all-right (λ c. c ≢ 10) (doubled c) (flat_map doubled text) free),
)

-- The literal of a text holds no line feed where the text holds none, and only there.
pub literal-no_feed : (text : List ℕ) → ¬ (Contains text 10) → HasNoFeed (text_literal text)
literal-no_feed text not = (
  (λ e. omega arith),
  all-append (λ c. c ≢ 10) (flat_map doubled text) (39 ∷ []) (inner-no_feed text (contains-no_feed text not)) ((λ e. omega arith), tt),
)

pub literal-feed : (text : List ℕ) → HasNoFeed (text_literal text) → ¬ (Contains text 10)
literal-feed text free = contains-feed text (inner-feed text (all-left (λ c. c ≢ 10) (flat_map doubled text) (39 ∷ []) free.1))
