use Rattle.std.proofs.Common.{◌≡◌, ℕ, ◌<◌, true, false, length, arith, sym, subst, ◌∙◌, inl, inr}
use Rattle.std.proofs.lemmas.Bool.{cases_lt}
use Rattle.part_raw.specs.Open.{has_block_at}
use Rattle.part_raw.proofs.Bitmaps.{mapped-read}
use Rattle.part_raw.proofs.store.bare_from.Goals as goal

pub loop-part-preserved : goal.loop-part-preserved
loop-part-preserved c = (
  omega (arith, c.loop-part.invariant.0),
  λ part from below within. elim (cases_lt part c.loop-part.part) as (λ _. has_block_at c.args.occupancies.now.items part ≡ true) [
    | inl before ↦ c.loop-part.invariant.1 part from before within
    | inr here ↦
        let same : part ≡ c.loop-part.part = omega (arith, here, below) in
        let among : c.loop-part.part < length c.args.occupancies.now.items = omega (arith, same, within) in
        subst (λ (k : ℕ). has_block_at c.args.occupancies.now.items k ≡ true) (sym same)
        (mapped-read (λ o. o.has_block) c.args.occupancies.now.items c.loop-part.part c.index.result.now false among c.index.ensures ∙ c.if-index.true)
  ],
)
