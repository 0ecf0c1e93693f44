use Rattle.std.proofs.Common.{◌≡◌, ◌∙◌, arith, rules}
use Rattle.std.proofs.lemmas.Result.{on_ok_weaker}
use Rattle.std.specs.Fmt.{decimal}
use Rattle.mm_csv.proofs.Outputs.{field-added, large-shown}
use Rattle.mm_csv.proofs.output.Output.put_large.Goals as goal

pub returns : goal.returns
returns g c = λ alone.
    let digits : c.as_bytes.result.now ≡ decimal c.args.n = search rules in
    on_ok_weaker c.put.result
    (λ put. field-added alone c.args.place c.args.self.now c.put_comma.new.self c.put.new.self (decimal c.args.n) c.as_bytes.result.now c.in_ok-put_comma.ensures put
    (digits ∙ large-shown alone c.args.n (omega (arith, c.ranges.n))))
    c.put.ensures
