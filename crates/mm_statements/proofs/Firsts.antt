-- The first rows: what comes of a statement of which they are asked.
use Rattle.std.proofs.Common.{◌≡◌, ◌∙◌, ℕ, List, ap, inl, inr, refl, Ok, Err}
use Rattle.std.specs.Option.{option_map}
use Rattle.plain_tables.specs.Doing.{done}
use Rattle.plain_tables.specs.declared.refusal.Refusal.{Refusal}
use Rattle.plain_tables.specs.declared.refusal.Refusal.TheVariants as refusal
use Rattle.plain_tables.specs.declared.resolved.Query.{Query}
use Rattle.plain_tables.specs.declared.resolved.Resolved.{Resolved}
use Rattle.plain_tables.specs.declared.resolved.Resolved.TheVariants as resolved
use Rattle.plain_tables.specs.declared.value.Value.{Value}
use Rattle.mm_prepared.specs.Kept.{seen}
use Rattle.mm_prepared.specs.declared.kept.Statements.{Statements}
use Rattle.mm_session.specs.Changing.{IsChange}
use Rattle.mm_session.specs.First.{ShowsFirst}
use Rattle.mm_session.specs.declared.fault.SelectFault.{SelectFault}
use Rattle.mm_session.specs.declared.fault.SelectFault.TheVariants as selecting
use Rattle.mm_statements.specs.Faults.{execute_fault_of_select}
use Rattle.mm_statements.specs.First.{IsUnshown, ShowsFirstOf}
use Rattle.mm_shared.specs.Held.{Held}
use Rattle.mm_statements.specs.Resolving.{IsFinished, IsUnfinished}
use Rattle.mm_statements.specs.declared.faults.ExecuteFault.{ExecuteFault}
use Rattle.mm_statements.specs.declared.faults.ExecuteFault.TheVariants as fault
use Rattle.mm_statements.proofs.Executing.{change-of, effect-of, select-of}
use Rattle.mm_statements.proofs.Seen.{state_of, statement-seen}

module _ (held : Held) (statements : Statements) (number : ℕ) where
  -- a statement that could not be finished
  pub unfinished-unshown : (e : ExecuteFault) → IsUnfinished held.session.database statements number e → IsUnshown (state_of held statements) number e
  unfinished-unshown fault.TooLong never = absurd never
  unfinished-unshown fault.Shared never = never
  unfinished-unshown fault.Interrupted never = absurd never
  unfinished-unshown fault.NoSuchStatement none = statement-seen held statements number ∙ ap (option_map seen) none
  unfinished-unshown (fault.Refused why) says = λ other. inl (effect-of held statements number (Err why) (says other))

  module _ (c : Resolved) (finished : IsFinished held.session.database statements number (Ok c)) where
    -- one that is a change
    pub change-unshown : (why : Refusal) → IsChange c → why ≡ refusal.NotACommand → IsUnshown (state_of held statements) number (fault.Refused why)
    change-unshown why change is = λ other. inr (is, change-of held statements number c finished change)

    -- one whose first rows were told
    pub first-shown : (most columns : ℕ) (values : List Value) → ShowsFirst (done held.session.limits held.session.database c).outcome most columns values
        → ShowsFirstOf (state_of held statements) number most columns values
    first-shown most columns values shows = (done held.session.limits held.session.database c, effect-of held statements number (Ok c) finished, shows)

-- cells that were not filled
pub cells-unshown : (held : Held) (statements : Statements) (number : ℕ) (query : Query) → IsFinished held.session.database statements number (Ok (resolved.Select query))
    → (f : SelectFault) → IsUnshown (state_of held statements) number (execute_fault_of_select f)
cells-unshown held statements number query finished (selecting.NoMemory refused) = λ other. absurd (other refl)
cells-unshown held statements number query finished selecting.TooLong = tt
cells-unshown held statements number query finished selecting.Interrupted = select-of held statements number query finished
