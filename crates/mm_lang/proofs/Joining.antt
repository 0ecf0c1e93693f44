-- Joining: a join, and the joins of a select, as they are read and as they are spelled.
use Rattle.std.proofs.Common.{◌≡◌, ◌≢◌, ℕ, List, [], ◌∷◌, refl, sym, ◌∙◌, ap, arith, subst}
use Rattle.std.specs.List.{flat_map}
use lib.Chars.{codes}
use Rattle.plain_tables.specs.Spelling.{Symbol, Keyword, Sign, Operator, side_symbols, joined_symbols, join_symbols}
use Rattle.plain_tables.specs.Reading.{lexeme, after_lexeme}
use Rattle.plain_tables.specs.declared.condition.Op.TheVariants as op
use Rattle.plain_tables.specs.declared.command.Join.{Join}
use Rattle.plain_tables.specs.declared.command.JoinSide.{JoinSide}
use Rattle.plain_tables.proofs.SingleItems.{joins-listed}
use Rattle.mm_lang.specs.Parsing.{Reads, ReadsList, IsOfText, BeginsWith, BeginsWithNone, BeginsWithList, BeginsWithNoList, BeginsWithJoins, BeginsWithNoJoins}
use Rattle.mm_lang.proofs.Fronts.{reads-split, reads-of_text, operator-ends_item}
use Rattle.mm_lang.proofs.Lists.{list-spelled, spelled-list}
use Rattle.mm_lang.proofs.Utf8.{of_text-after}

-- ---- one join

-- the sides of a join, behind its table and `on`
abbrev sides : JoinSide → List Symbol
sides right = Sign (Operator op.Eq) ∷ side_symbols right

left-and : (line : List ℕ) (join : Join) (rest : List ℕ) → Reads line (joined_symbols join) rest
    → (mid : List ℕ) × Reads (after_lexeme (after_lexeme line)) (side_symbols join.left) mid × Reads mid (sides join.right) rest
left-and line join rest reads = reads-split (after_lexeme (after_lexeme line)) (side_symbols join.left) (sides join.right) rest reads.1.1

pub begins-no_left : (line : List ℕ) → BeginsWithNone side_symbols (after_lexeme (after_lexeme line)) → BeginsWithNone joined_symbols line
begins-no_left line not = record {
  none = λ of y other reads free.
      let (mid, left, right) = left-and line y other reads in
      not.none (of_text-after (after_lexeme line) (of_text-after line of)) y.left mid left (operator-ends_item op.Eq (lexeme mid) right.0);
}

pub begins-no_right : (line : List ℕ) (left : JoinSide) (rest : List ℕ) → BeginsWith side_symbols (after_lexeme (after_lexeme line)) left rest
    → BeginsWithNone side_symbols (after_lexeme rest) → BeginsWithNone joined_symbols line
begins-no_right line left rest begins not = record {
  none = λ of y other reads free.
      let front : List ℕ = after_lexeme (after_lexeme line) in
      let text : IsOfText front = of_text-after (after_lexeme line) (of_text-after line of) in
      let parts : (mid : List ℕ) × Reads front (side_symbols y.left) mid × Reads mid (sides y.right) other = left-and line y other reads in
      let same : parts.0 ≡ rest = begins.only y.left parts.0 parts.1 (operator-ends_item op.Eq (lexeme parts.0) parts.2.0) in
      not.none (of_text-after rest (reads-of_text front (side_symbols left) rest text begins.found)) y.right other
      (subst (λ l. Reads (after_lexeme l) (side_symbols y.right) other) same parts.2.1) free;
}

-- ---- joins, one or more: a list with `join` between two of them, and one before the first

abbrev ListsJoins : List ℕ → List Join → List ℕ → Type 0
ListsJoins line joins rest = ReadsList joined_symbols (codes "join") line joins rest

spelled-joins : (line : List ℕ) (x : Join) (xs : List Join) (rest : List ℕ) → Reads line (flat_map join_symbols (x ∷ xs)) rest
    → (lexeme line ≡ codes "join") × ListsJoins (after_lexeme line) (x ∷ xs) rest
spelled-joins line x xs rest reads =
    let (word, listed) = subst (λ ss. Reads line ss rest) (joins-listed x xs) reads in
    (word, spelled-list joined_symbols (Keyword (codes "join")) (codes "join") (λ characters e. e) _ (x ∷ xs) rest (omega arith) listed)

joins-spelled : (line : List ℕ) (joins : List Join) (rest : List ℕ) → lexeme line ≡ codes "join" → ListsJoins (after_lexeme line) joins rest
    → Reads line (flat_map join_symbols joins) rest
joins-spelled line [] rest word reads = elim reads [ ]
joins-spelled line (x ∷ xs) rest word reads =
    subst (λ ss. Reads line ss rest) (sym (joins-listed x xs))
    (word, list-spelled joined_symbols (Keyword (codes "join")) (codes "join") (λ characters e. e) _ (x ∷ xs) rest reads)

pub begins-no_join : (line : List ℕ) → lexeme line ≢ codes "join" → BeginsWithJoins line [] line
begins-no_join line not = record { found = refl; only = λ others other reads free end. none-only others other reads }
  where
    none-only : (others : List Join) (other : List ℕ) → Reads line (flat_map join_symbols others) other → other ≡ line
    none-only [] other reads = sym reads
    none-only (x ∷ xs) other reads = absurd (not (spelled-joins line x xs other reads).0)

-- what a line with a `join` in front lists behind it
behind-join : (line front : List ℕ) → lexeme line ≡ codes "join" → front ≡ after_lexeme line → (joins : List Join) (rest : List ℕ)
    → Reads line (flat_map join_symbols joins) rest → lexeme rest ≢ codes "join" → ListsJoins front joins rest
behind-join line front word f [] rest reads end = absurd (end (ap lexeme (sym reads) ∙ word))
behind-join line front word f (x ∷ xs) rest reads end = subst (λ l. ListsJoins l (x ∷ xs) rest) (sym f) (spelled-joins line x xs rest reads).1

pub begins-joins : (line front : List ℕ) (joins : List Join) (rest : List ℕ) → lexeme line ≡ codes "join" → front ≡ after_lexeme line
    → BeginsWithList joined_symbols (codes "join") front joins rest → BeginsWithJoins line joins rest
begins-joins line front joins rest word f list = record {
  found = joins-spelled line joins rest word (rw f at list.found);
  only = λ others other reads free end. list.only others other (behind-join line front word f others other reads end) free end;
}

pub begins-not_joins : (line front : List ℕ) → lexeme line ≡ codes "join" → front ≡ after_lexeme line
    → BeginsWithNoList joined_symbols (codes "join") front → BeginsWithNoJoins line
begins-not_joins line front word f not = record {
  none = λ of others other reads free end.
      not.none (rw f (of_text-after line of)) others other (behind-join line front word f others other reads end) free end;
}
