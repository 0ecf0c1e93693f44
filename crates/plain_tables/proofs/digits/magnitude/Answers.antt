use Rattle.std.proofs.Common.{◌≡◌, length, get_or, take, true, false, sym, ◌∙◌, arith, subst}
use Rattle.std.specs.Prelude.{◌==◌}
use Rattle.std.specs.Char.{is_ascii_digit}
use Rattle.std.specs.Str.Parse.{AllDigits, digits_value}
use Rattle.std.proofs.lemmas.Bool.{eqb-false}
use Rattle.std.proofs.lemmas.List.{take_all}
use Rattle.common_lemmas.proofs.Digits.{not-digits, more-digits, more-value, grows}
use Rattle.plain_tables.proofs.digits.magnitude.Goals as goal

pub returns-then-not-is_ascii_digit : goal.returns-then-not-is_ascii_digit
returns-then-not-is_ascii_digit c = λ both.
    not-digits c.args.digits.now c.loop-c.c-index c.loop-c-test.true (sym c.is_ascii_digit.ensures.value ∙ c.if-not-is_ascii_digit.true) both.0.1

pub returns-in_err-checked_mul : goal.returns-in_err-checked_mul
returns-in_err-checked_mul c =
    let digit : is_ascii_digit (get_or c.args.digits.now c.loop-c.c-index 0) ≡ true =
    sym c.is_ascii_digit.ensures.value ∙ c.if-not-is_ascii_digit.false in
    rw c.from_residual.ensures
    (λ both. c.in_err-checked_mul.ensures
    (omega (arith, both.1, grows c.args.digits.now c.loop-c.c-index c.loop-c.value c.loop-c-test.true digit c.loop-c.invariant.1)))

pub returns-in_err-value : goal.returns-in_err-value
returns-in_err-value c =
    let digit : is_ascii_digit (get_or c.args.digits.now c.loop-c.c-index 0) ≡ true =
    sym c.is_ascii_digit.ensures.value ∙ c.if-not-is_ascii_digit.false in
    rw c.from_residual-in_err-value.ensures
    (λ both. c.in_err-value.ensures
    (omega (arith, both.1, c.in_ok-checked_mul.ensures.1, grows c.args.digits.now c.loop-c.c-index c.loop-c.value c.loop-c-test.true digit c.loop-c.invariant.1)))

pub loop-c-preserved : goal.loop-c-preserved
loop-c-preserved c =
    let digit : is_ascii_digit (get_or c.args.digits.now c.loop-c.c-index 0) ≡ true =
    sym c.is_ascii_digit.ensures.value ∙ c.if-not-is_ascii_digit.false in (
      more-digits c.args.digits.now c.loop-c.c-index c.loop-c-test.true digit c.loop-c.invariant.0,
      omega (
        arith,
        c.in_ok-value.ensures.1,
        c.in_ok-checked_mul.ensures.1,
        more-value c.args.digits.now c.loop-c.c-index c.loop-c.value c.loop-c-test.true digit c.loop-c.invariant.1,
      ),
      omega (arith, c.in_ok-value.ensures.0, c.in_ok-value.ensures.1),
    )

pub returns : goal.returns
returns c =
    let whole : take c.loop-c.c-index c.args.digits.now ≡ c.args.digits.now = take_all c.loop-c.c-index c.args.digits.now c.loop-c-test.false in
    let all : AllDigits 10 c.args.digits.now = subst (AllDigits 10) whole c.loop-c.invariant.0 in
    let value : c.loop-c.value ≡ digits_value 10 c.args.digits.now = subst (λ ds. c.loop-c.value ≡ digits_value 10 ds) whole c.loop-c.invariant.1 in
    let some : (length c.args.digits.now == 0) ≡ false = sym c.is_empty.ensures ∙ c.if-is_empty.false in
    (((omega (arith, eqb-false (length c.args.digits.now) 0 some), all), omega (arith, value, c.loop-c.invariant.2)), value)
