-- Counting: what comes of a statement whose rows are counted.
use Rattle.std.proofs.Common.{◌≡◌, ◌∙◌, ◌≤◌, ℕ, ap, inl, inr, refl, Ok, Err}
use Rattle.std.specs.Option.{option_map}
use Rattle.std.specs.Prelude.{◌^◌}
use Rattle.plain_tables.specs.Doing.{done}
use Rattle.plain_tables.specs.declared.refusal.Refusal.{Refusal}
use Rattle.plain_tables.specs.declared.refusal.Refusal.TheVariants as refusal
use Rattle.plain_tables.specs.declared.resolved.Query.{Query}
use Rattle.plain_tables.specs.declared.resolved.Resolved.{Resolved}
use Rattle.plain_tables.specs.declared.resolved.Resolved.TheVariants as resolved
use Rattle.mm_prepared.specs.Kept.{seen}
use Rattle.mm_prepared.specs.declared.kept.Statements.{Statements}
use Rattle.mm_session.specs.Changing.{IsChange}
use Rattle.mm_session.specs.Counting.{HasRows}
use Rattle.mm_session.specs.declared.fault.CountFault.{CountFault}
use Rattle.mm_session.specs.declared.fault.CountFault.TheVariants as counting
use Rattle.mm_statements.specs.Counting.{HasRowsOf, IsUncounted, execute_fault_of_count}
use Rattle.mm_shared.specs.Held.{Held}
use Rattle.mm_statements.specs.Resolving.{IsFinished, IsUnfinished}
use Rattle.mm_statements.specs.declared.faults.ExecuteFault.{ExecuteFault}
use Rattle.mm_statements.specs.declared.faults.ExecuteFault.TheVariants as fault
use Rattle.mm_statements.proofs.Executing.{change-of, effect-of, select-of}
use Rattle.mm_statements.proofs.Seen.{state_of, statement-seen}

module _ (held : Held) (statements : Statements) (number : ℕ) where
  -- a statement that could not be finished
  pub unfinished-uncounted : (e : ExecuteFault) → IsUnfinished held.session.database statements number e → IsUncounted (state_of held statements) number e
  unfinished-uncounted fault.TooLong never = absurd never
  unfinished-uncounted fault.Shared never = never
  unfinished-uncounted fault.Interrupted never = absurd never
  unfinished-uncounted fault.NoSuchStatement none = statement-seen held statements number ∙ ap (option_map seen) none
  unfinished-uncounted (fault.Refused why) says = λ other. inl (effect-of held statements number (Err why) (says other))

  module _ (c : Resolved) (finished : IsFinished held.session.database statements number (Ok c)) where
    -- one that is a change
    pub change-uncounted : (why : Refusal) → IsChange c → why ≡ refusal.NotACommand → IsUncounted (state_of held statements) number (fault.Refused why)
    change-uncounted why change is = λ other. inr (is, change-of held statements number c finished change)

    -- and one whose rows were
    pub rows-counted : (count : ℕ) → HasRows (done held.session.limits held.session.database c).outcome (λ n. count ≡ n) → HasRowsOf (state_of held statements) number (λ n. count ≡ n)
    rows-counted count has = (done held.session.limits held.session.database c, effect-of held statements number (Ok c) finished, has)

  -- a select whose rows were not counted
  pub count-declined : (query : Query) → IsFinished held.session.database statements number (Ok (resolved.Select query)) → (f : CountFault)
      → (f ≡ counting.TooMany → HasRows (done held.session.limits held.session.database (resolved.Select query)).outcome (λ n. 2 ^ 64 ≤ n))
      → IsUncounted (state_of held statements) number (execute_fault_of_count f)
  count-declined query finished (counting.NoMemory refused) many = λ other. absurd (other refl)
  count-declined query finished counting.TooMany many =
      (done held.session.limits held.session.database (resolved.Select query), effect-of held statements number (Ok (resolved.Select query)) finished, many refl)
  count-declined query finished counting.Interrupted many = select-of held statements number query finished
