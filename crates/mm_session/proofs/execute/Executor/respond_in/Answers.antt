use Rattle.std.proofs.Common.{◌≤◌, ◌++◌, [], length, drop, refl, sym, ap, ◌∙◌, arith}
use Rattle.std.proofs.lemmas.List.{take-append-drop}
use Rattle.std.proofs.Math.Nat.{min-le_left}
use Rattle.plain_streams.specs.Requests.{asked, unasked}
use Rattle.mm_session.proofs.Asks.{has_block-asked, has_block-unasked}
use Rattle.mm_session.proofs.execute.Executor.respond_in.Goals as goal

pub returns-in_default-clause-answered : goal.returns-in_default-clause-answered
returns-in_default-clause-answered c = (
  [],
  refl,
  λ line is.
      let none = c.in_default.ensures line is in
      (unasked none, c.respond.ensures.answers line is (has_block-unasked c.args.self.now.tables.catalog.limits (record { line = line; block = [] }) none)),
)

pub returns-clause-answered : goal.returns-clause-answered
returns-clause-answered c =
    let bytes = c.args.bytes.now in
    let block = c.split_at.result.0.now in
    let limits = c.args.self.now.tables.catalog.limits in
    let n = c.in-Some.length in
    let within : n ≤ limits.block = omega (arith, min-le_left c.block_limit.result (length bytes), c.block_limit.ensures) in (
      block,
      sym (take-append-drop n bytes) ∙ ap (λ f. f ++ drop n bytes) (sym c.split_at.ensures.front) ∙ ap (λ b. block ++ b) (sym c.split_at.ensures.back),
      λ line is.
          let asks = c.in-Some.ensures line is in (
            asked (length block) (rw c.split_at.ensures.front_len asks),
            c.respond-2.ensures.answers line is (has_block-asked limits (record { line = line; block = block }) n asks within c.split_at.ensures.front_len),
          ),
    )
