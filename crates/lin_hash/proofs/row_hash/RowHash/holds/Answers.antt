use Rattle.std.proofs.Common.{◌∙◌, ap, sym, subst}
use Rattle.std.specs.Prelude.{ℕ, List}
use Rattle.std.specs.Bool.{OnFalse}
use Rattle.std.specs.List.{Contains}
use Rattle.part_raw.specs.declared.tuple_ref.TupleRef.{TupleRef}
use Rattle.lin_hash.specs.RowsHeld.{rows_entries}
use Rattle.lin_hash.proofs.row_hash.RowHash.holds.Goals as goal

pub returns-in-Some-clause-absent : goal.returns-in-Some-clause-absent
returns-in-Some-clause-absent c =
    subst (λ (es : List (ℕ × TupleRef)). OnFalse c.holds.result ((hash : ℕ) → Contains es (hash, c.args.r) → ⊥)) (ap rows_entries (sym c.in-Some.is) ∙ ap (λ h. h.entries) c.self.view_is) c.holds.ensures.absent
