use Rattle.std.proofs.Common.{◌≡◌, ◌==◌, ◌||◌, ◌∙◌, Bool, true, false, refl}
use Rattle.std.proofs.lemmas.Bool.{eqb-true}
use Rattle.mm_relation.proofs.relation.Relation.has_tree.Goals as goal

pub returns-else-column-eq0 : goal.returns-else-column-eq0
returns-else-column-eq0 c =
    c.has_declared.ensures ∙ or_of (c.args.column.0 == 0) _ (λ e. c.if-column-eq0.false (eqb-true c.args.column.0 0 e))
  where
    or_of : (b x : Bool) → (b ≡ true → ⊥) → x ≡ (b || x)
    or_of true x differs = absurd (differs refl)
    or_of false x differs = refl
