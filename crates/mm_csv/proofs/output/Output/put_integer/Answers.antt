use Rattle.std.proofs.Common.{◌≡◌, ◌∙◌, rules}
use Rattle.std.proofs.lemmas.Result.{on_ok_weaker}
use Rattle.std.specs.Fmt.{signed_decimal}
use Rattle.mm_csv.proofs.Outputs.{field-added, integer-shown}
use Rattle.mm_csv.proofs.output.Output.put_integer.Goals as goal

pub returns : goal.returns
returns g c = λ alone.
    let digits : c.as_bytes.result.now ≡ signed_decimal c.args.z = search rules in
    on_ok_weaker c.put.result
    (λ put. field-added alone c.args.place c.args.self.now c.put_comma.new.self c.put.new.self (signed_decimal c.args.z) c.as_bytes.result.now c.in_ok-put_comma.ensures put
    (digits ∙ integer-shown alone c.args.z c.ranges.z))
    c.put.ensures
