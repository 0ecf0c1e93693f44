use Rattle.std.proofs.Common.{◌≡◌, Bool, true, false, sym, ◌∙◌, ap, refl}
use Rattle.std.specs.Bool.{OnTrue, OnFalse}
use Rattle.std.specs.List.{Contains}
use Rattle.lin_hash.specs.RowNodes.{rows_of}
use Rattle.lin_hash.proofs.RowTaking.{held-from_used, held-used}
use Rattle.lin_hash.proofs.row_table.RowTable.holds.Goals as goal

-- a fact for one value of a test
on_true : (b : Bool) (P : Type 0) → (b ≡ true → P) → OnTrue b P
on_true b P h = elim b as (λ x. (x ≡ true → P) → OnTrue x P) [ true ↦ λ k. k refl | false ↦ λ k. tt ] h

on_false : (b : Bool) (P : Type 0) → (b ≡ false → P) → OnFalse b P
on_false b P h = elim b as (λ x. (x ≡ false → P) → OnFalse x P) [ true ↦ λ k. tt | false ↦ λ k. k refl ] h

pub returns-clause-held : goal.returns-clause-held
returns-clause-held c =
    on_true c.holds.result _ (λ yes.
    rw (← ap (λ v. v.entries) c.self.view_is) (held-from_used c.self.inside.nodes.items c.args.r (sym c.holds.ensures ∙ yes)))

pub returns-clause-absent : goal.returns-clause-absent
returns-clause-absent c =
    on_false c.holds.result _ (λ no hash held.
    let t = c.self.inside in
    let here : Contains (rows_of t.nodes.items) (hash, c.args.r) = rw (← ap (λ v. v.entries) c.self.view_is) at held in
    let used = held-used t.address.level t.address.mark t.nodes.items t.heads.items c.self.invariant.hung c.self.invariant.few hash c.args.r here in
    let both : false ≡ true = sym no ∙ c.holds.ensures ∙ used in
    cc)
