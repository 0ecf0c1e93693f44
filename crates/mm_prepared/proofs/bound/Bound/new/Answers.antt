use Rattle.std.proofs.Common.{rules, ◌≡◌, ◌+◌, ◌++◌, ◌∷◌, [], ◌∙◌, sym, ap, arith, vec_len}
use Rattle.std.specs.Prelude.{replicate}
use Rattle.std.proofs.lemmas.List.{replicate-append-replicate}
use Rattle.plain_tables.specs.declared.value.Value.TheVariants as value
use Rattle.mm_prepared.proofs.bound.Bound.new.Goals as goal

pub loop-values-preserved : goal.loop-values-preserved
loop-values-preserved c =
    let old = c.loop-values.values in
    let pushed : c.push.new.self.items ≡ old.items ++ value.Null ∷ [] = search rules in
    let more : vec_len c.push.new.self ≡ vec_len old + 1 = search rules in
    record {
      nulls =
          pushed
          ∙ ap (λ vs. vs ++ value.Null ∷ []) c.loop-values.invariant.nulls
          ∙ replicate-append-replicate (vec_len old) 1 value.Null
          ∙ ap (λ n. replicate n value.Null) (sym more);
      within = omega (arith, more);
    }
