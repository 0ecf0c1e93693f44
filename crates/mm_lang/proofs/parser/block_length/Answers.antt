-- The line spells a load where it begins with the word, a name stands behind it, and a count alone behind that.
use Rattle.std.proofs.Common.{◌≡◌, ℕ, List, [], ◌∷◌, refl, Result, Ok, Err, MatchOption, MatchResult}
use Rattle.std.specs.Result.{result_ok}
use lib.Chars.{codes}
use Rattle.plain_tables.specs.Spelling.{Name, Count}
use Rattle.plain_tables.specs.Reading.{lexeme}
use Rattle.plain_tables.specs.declared.command.Command.TheVariants.{Load}
use Rattle.mm_lang.proofs.Fronts.{lexeme-is, lexeme-is_not, no-name}
use Rattle.mm_lang.proofs.Spelled.{spelled, spelled-completes, not-spelled}
use Rattle.mm_lang.proofs.Productions.{behind-symbol, symbols-behind, completed, load-only}
use Rattle.mm_lang.proofs.parser.block_length.Goals as goal

ok-cases : {T E : Type 0} (r : Result T E) (P Q : T → Type 0) (N : Type 0) → MatchResult r P (λ _. N) → ((x : T) → P x → Q x)
    → {M : Type 0} → (N → M) → MatchOption (result_ok r) M Q
ok-cases (Ok x) P Q N cases each none = each x cases
ok-cases (Err e) P Q N cases each none = none cases

pub returns-then-not-is_load : goal.returns-then-not-is_load
returns-then-not-is_load c = λ n table spells.
    lexeme-is_not _ _ _ _ c.eq-is_load.result c.word.ensures c.if-not-is_load.true c.eq-is_load.ensures c.as_slice.ensures (spelled-completes c.args.line.now (Load table n) spells).0

pub returns-in_err-behind_name : goal.returns-in_err-behind_name
returns-in_err-behind_name c =
    let word : lexeme c.args.line.now ≡ codes "load" = lexeme-is _ _ _ _ c.eq-is_load.result c.word.ensures c.if-not-is_load.false c.eq-is_load.ensures c.as_slice.ensures in
    rw c.from_residual.ensures
    (λ n table. not-spelled c.args.line.now (codes "load") c.rest.result.now word c.rest.ensures.rest (load-only c.rest.result.now (λ other bytes whole. no-name c.rest.result.now other c.in_err-behind_name.ensures whole.1.0)) (Load table n))

pub returns : goal.returns
returns c =
    let word : lexeme c.args.line.now ≡ codes "load" = lexeme-is _ _ _ _ c.eq-is_load.result c.word.ensures c.if-not-is_load.false c.eq-is_load.ensures c.as_slice.ensures in
    let front : List ℕ = c.rest.result.now in
    rw c.ok.ensures.value
    (ok-cases c.only_count.result _ _ _ c.only_count.ensures
    (λ n whole. (
      lexeme front,
      spelled c.args.line.now (codes "load") front (Load (lexeme front) n) c.rest.ensures.unbroken word c.rest.ensures.rest
          (completed front (Load (lexeme front) n) tt
          (behind-symbol front _ (Name (lexeme front)) (Count n ∷ []) (refl, c.in_ok-behind_name.ensures.0) c.in_ok-behind_name.ensures.1 whole)),
    ))
    (λ not n table. not-spelled c.args.line.now (codes "load") front word c.rest.ensures.rest
    (load-only front (λ other bytes whole. not bytes (symbols-behind _ _ (Name other) (Count bytes ∷ []) c.in_ok-behind_name.ensures.1 whole))) (Load table n)))
