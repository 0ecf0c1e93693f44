-- Lines that are of a text: what stands behind a lexeme is of it too, and a text's literal is UTF-8.
use Rattle.std.proofs.Common.{◌≡◌, ℕ, List, [], ◌∷◌, ◌++◌, take, sym, ◌∙◌, ap, arith, subst, append_assoc}
use Rattle.std.specs.List.{flat_map, prefix_len}
use Rattle.std.specs.Str.{IsUtf8}
use Rattle.std.proofs.lemmas.Str.{IsUtf8-append}
use Rattle.plain_tables.specs.Spelling.{doubled, text_literal, is_blank}
use Rattle.plain_tables.specs.Reading.{lexeme, after_lexeme}
use Rattle.plain_tables.proofs.Lexemes.{line-parts}
use Rattle.plain_tables.proofs.Utf8Parts.{utf8-before, utf8-behind, mark-utf8}
use Rattle.mm_lang.specs.Parsing.{IsOfText}

pub of_text-after : (line : List ℕ) → IsOfText line → IsOfText (after_lexeme line)
of_text-after line (front, utf8) =
    let blanks : List ℕ = take (prefix_len is_blank line) line in
    let whole : front ++ line ≡ (front ++ (blanks ++ lexeme line)) ++ after_lexeme line =
    ap (λ l. front ++ l) (line-parts line) ∙ (simp append_assoc) in
    (front ++ (blanks ++ lexeme line), subst IsUtf8 whole utf8)

-- Where the lexeme of such a line is a text's literal, it is UTF-8.
pub literal-utf8 : (line text : List ℕ) → IsOfText line → lexeme line ≡ text_literal text → IsUtf8 (lexeme line)
literal-utf8 line text (front, utf8) e =
    let blanks : List ℕ = take (prefix_len is_blank line) line in
    let inner : List ℕ = flat_map doubled text in
    let parts : line ≡ blanks ++ ((39 ∷ (inner ++ 39 ∷ [])) ++ after_lexeme line) =
    subst (λ l. line ≡ blanks ++ (l ++ after_lexeme line)) e (line-parts line) in
    let whole : front ++ line ≡ (front ++ blanks) ++ 39 ∷ (inner ++ 39 ∷ after_lexeme line) =
    ap (λ l. front ++ l) parts ∙ (simp append_assoc) in
    let behind : IsUtf8 (inner ++ 39 ∷ after_lexeme line) =
    utf8-behind (front ++ blanks) 39 (inner ++ 39 ∷ after_lexeme line) (omega arith) (subst IsUtf8 whole utf8) in
    let is : IsUtf8 inner = utf8-before inner 39 (after_lexeme line) (omega arith) behind in
    subst IsUtf8 (sym e) (IsUtf8-append (39 ∷ []) (inner ++ 39 ∷ []) mark-utf8 (IsUtf8-append inner (39 ∷ []) is mark-utf8))
