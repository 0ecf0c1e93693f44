-- Executing: what comes of the resolved command of a statement.
use Rattle.std.proofs.Common.{◌≡◌, ◌≢◌, ℕ, map, refl, sym, ap, ◌∙◌, subst, ⊎_elim, [], Option, Some, None, Result, Ok, Err}
use Rattle.std.specs.Prelude.{IfSome, IsSome, IsSomeAnd, OnErr, OnOk}
use Rattle.std.specs.List.{All}
use Rattle.std.specs.Option.{option_map}
use Rattle.plain_tables.specs.Commands.{effect_of_resolved}
use Rattle.plain_tables.specs.Databases.{Database}
use Rattle.plain_tables.specs.Doing.{done}
use Rattle.plain_tables.specs.Resolving.{resolved_of}
use Rattle.plain_tables.specs.Effects.{Effect, refused}
use Rattle.plain_tables.specs.ResolvedLaws.{HasWidth, IsMeant, emptied}
use Rattle.plain_tables.specs.declared.command.Limits.{Limits}
use Rattle.plain_tables.specs.declared.refusal.Refusal.{Refusal}
use Rattle.plain_tables.specs.declared.refusal.Refusal.TheVariants as refusal
use Rattle.plain_tables.specs.declared.resolved.Query.{Query}
use Rattle.plain_tables.specs.declared.resolved.Resolved.{Resolved}
use Rattle.plain_tables.specs.declared.resolved.Resolved.TheVariants as resolved
use Rattle.plain_tables.proofs.ResolvedCommands.{resolved_are_meant}
use Rattle.plain_statements.specs.declared.resolution.Resolution.{Resolution}
use Rattle.plain_statements.specs.declared.statement.Statement.{Statement}
use Rattle.plain_statements.specs.Filling.{filled}
use Rattle.plain_statements.specs.Finishing.{finished}
use Rattle.plain_statements.specs.Laws.{Refuses, Resolves}
use Rattle.plain_statements.specs.StatementSpelling.{SpellsStatement}
use Rattle.mm_session.specs.Changing.{HasChanged, HasDeclined, IsChange}
use Rattle.mm_session.specs.Sessions.{State}
use Rattle.mm_session.specs.declared.fault.SelectFault.{SelectFault}
use Rattle.mm_session.specs.declared.fault.SelectFault.TheVariants as selecting
use Rattle.mm_prepared.specs.Kept.{KeptStatement}
use Rattle.mm_statements.specs.Databases.{IsUnchanged}
use Rattle.mm_statements.specs.Executing.{IsChangeOf, IsDeclined, IsEffectOf, IsSelectOf}
use Rattle.mm_shared.specs.Held.{Held}
use Rattle.mm_shared.specs.Faults.{IsUndone}
use Rattle.mm_statements.specs.Faults.{execute_fault_of_change, execute_fault_of_select}
use Rattle.mm_shared.specs.declared.faults.ChangeFault.{ChangeFault}
use Rattle.mm_shared.specs.declared.faults.ChangeFault.TheVariants as changing
use Rattle.mm_prepared.specs.Kept.{IsKnown, NamesNow, SameSeen, named, seen}
use Rattle.mm_statements.specs.Resolving.{IsFinished, IsRefusing, IsUnfinished, IsUnmeant, IsUnresolved}
use Rattle.mm_statements.specs.Resolving as resolving
use Rattle.mm_statements.specs.Right.{AreNoted, IsRight}
use Rattle.mm_shared.specs.declared.noted.NotedTables.{NotedTables}
use Rattle.mm_statements.specs.declared.faults.ExecuteFault.{ExecuteFault}
use Rattle.mm_statements.specs.declared.faults.ExecuteFault.TheVariants as fault
use Rattle.mm_prepared.specs.declared.kept.Prepared.{Prepared}
use Rattle.mm_prepared.specs.declared.kept.Statements.{Statements}
use Rattle.mm_statements.proofs.Changes.{change-schemas}
use Rattle.mm_statements.proofs.Given.{filled-given}
use Rattle.mm_statements.proofs.NotedMeanings.{noted-stays}
use Rattle.mm_statements.proofs.Seen.{same-seen, state_of, statement-seen}

-- ---- the resolved command

module _ (tables : Database) (p : Prepared) (s : Statement) (spelled : SpellsStatement p.line s) (r : Resolution) (resolves : Resolves tables s r) where
  pub is-finished : (statements : Statements) (number : ℕ) (m : Result Resolved Refusal) → named statements number ≡ Some p
      → finished p.bound r ≡ m → IsFinished tables statements number m
  is-finished statements number m there is = record {
    prepared = p;
    there = there;
    statement = s;
    spelled = spelled;
    means = resolves p.bound ∙ is;
  }

  pub is-meant : (limits : Limits) (c : Resolved) → All HasWidth p.bound → finished p.bound r ≡ Ok c → IsMeant limits tables c
  is-meant limits c widths is =
      resolved_are_meant [] limits tables (filled p.bound s) c (filled-given p.bound widths p.line s spelled) (resolves p.bound ∙ is)

-- what is known of a statement that is right is its resolution
pub known-resolves : (tables : Database) (p : Prepared) (r : Resolution) (right : IsRight tables p) → p.resolution ≡ Some r
    → Resolves tables right.statement r
known-resolves tables p r right known = subst (λ o. IfSome o (Resolves tables right.statement)) known right.resolved

-- a statement whose line is declined is declined so, whatever is bound
pub unmeant-refusing : (tables : Database) (statements : Statements) (number : ℕ) (p : Prepared) (why : Refusal)
    → named statements number ≡ Some p → IsRight tables p → IsUnmeant tables p.line why → IsRefusing tables statements number why
unmeant-refusing tables statements number p why there right (resolving.no_statement none) = absurd (none right.statement right.spelled)
unmeant-refusing tables statements number p why there right (resolving.refuses s e spelled refused) = record {
  prepared = p;
  there = there;
  statement = s;
  spelled = spelled;
  refuses = refused;
}

-- and so it is with the values that are bound
pub unresolved-unfinished : (tables : Database) (statements : Statements) (number : ℕ) (e : ExecuteFault)
    → IsUnresolved tables statements number e → IsUnfinished tables statements number e
unresolved-unfinished tables statements number fault.NoSuchStatement none = none
unresolved-unfinished tables statements number fault.TooLong never = never
unresolved-unfinished tables statements number fault.Shared never = never
unresolved-unfinished tables statements number fault.Interrupted never = never
unresolved-unfinished tables statements number (fault.Refused why) says = λ other.
    let r = says other in
    record { prepared = r.prepared; there = r.there; statement = r.statement; spelled = r.spelled; means = r.refuses r.prepared.bound }

-- ---- where its meaning is worked out before

-- A statement of which a resolution is set is known.
pub set-known : {X E : Type 0} (old new : Statements) (number : ℕ) (p : Prepared) (r : Resolution) (result : Result X E)
    → OnOk result ((q : Prepared) → named old number ≡ Some q → NamesNow old new number (Some (record q { resolution = Some r })))
    → OnErr result (named old number ≡ None) → named old number ≡ Some p → IsKnown new number
set-known old new number p r (Ok x) set none there =
    subst (λ o. IsSomeAnd o (λ (q : Prepared). IsSome q.resolution)) (sym (set p there).own) refl
set-known old new number p r (Err e) set none there = let bad : None ≡ Some p = sym none ∙ there in cc

finished-as : (tables : Database) (old : Statements) (number : ℕ) (m : Result Resolved Refusal) (p : Prepared) (s : Statement)
    → SpellsStatement p.line s → resolved_of [] tables (filled p.bound s) ≡ m → (o : Option Prepared) → named old number ≡ o
    → Some (seen p) ≡ option_map seen o → IsFinished tables old number m
finished-as tables old number m p s spelled means None there same = cc
finished-as tables old number m p s spelled means (Some q) there same =
    let alike : seen p ≡ seen q = cc in
    record {
      prepared = q;
      there = there;
      statement = s;
      spelled = subst (λ (k : KeptStatement). SpellsStatement k.line s) alike spelled;
      means = subst (λ (k : KeptStatement). resolved_of [] tables (filled k.values s) ≡ m) alike means;
    }

-- what is finished after it, is finished before it
pub same-finished : (tables : Database) (old new : Statements) (number : ℕ) (m : Result Resolved Refusal) → SameSeen old new
    → IsFinished tables new number m → IsFinished tables old number m
same-finished tables old new number m same f =
    finished-as tables old number m f.prepared f.statement f.spelled f.means (named old number) refl
    (ap (option_map seen) (sym f.there) ∙ same number)

-- and so it is where a statement is refused whatever is bound
refusing-as : (tables : Database) (old : Statements) (number : ℕ) (why : Refusal) (p : Prepared) (s : Statement)
    → SpellsStatement p.line s → Refuses tables s why → (o : Option Prepared) → named old number ≡ o
    → Some (seen p) ≡ option_map seen o → IsRefusing tables old number why
refusing-as tables old number why p s spelled refuses None there same = cc
refusing-as tables old number why p s spelled refuses (Some q) there same =
    let alike : seen p ≡ seen q = cc in
    record {
      prepared = q;
      there = there;
      statement = s;
      spelled = subst (λ (k : KeptStatement). SpellsStatement k.line s) alike spelled;
      refuses = refuses;
    }

pub none-seen-before : (old new : Option Prepared) → option_map seen new ≡ option_map seen old → new ≡ None → old ≡ None
none-seen-before None new same none = refl
none-seen-before (Some p) None same none = cc
none-seen-before (Some p) (Some q) same none = cc

pub same-unresolved : (tables : Database) (old new : Statements) (number : ℕ) (e : ExecuteFault) → SameSeen old new
    → IsUnresolved tables new number e → IsUnresolved tables old number e
same-unresolved tables old new number fault.NoSuchStatement same none = none-seen-before (named old number) (named new number) (same number) none
same-unresolved tables old new number fault.TooLong same never = never
same-unresolved tables old new number fault.Shared same never = never
same-unresolved tables old new number fault.Interrupted same never = never
same-unresolved tables old new number (fault.Refused why) same says = λ other.
    let r = says other in
    refusing-as tables old number why r.prepared r.statement r.spelled r.refuses (named old number) refl (ap (option_map seen) (sym r.there) ∙ same number)

pub same-unfinished : (tables : Database) (old new : Statements) (number : ℕ) (why : Refusal) → SameSeen old new
    → IsUnfinished tables new number (fault.Refused why) → IsUnfinished tables old number (fault.Refused why)
same-unfinished tables old new number why same says other = same-finished tables old new number (Err why) same (says other)

-- ---- its effect

pub effect-of : (held : Held) (statements : Statements) (number : ℕ) (m : Result Resolved Refusal)
    → IsFinished held.session.database statements number m
    → IsEffectOf (state_of held statements) number (effect_of_resolved held.session.limits held.session.database m)
effect-of held statements number m f = record {
  kept = seen f.prepared;
  there = statement-seen held statements number ∙ ap (option_map seen) f.there;
  statement = f.statement;
  spelled = f.spelled;
  is = ap (effect_of_resolved held.session.limits held.session.database) (sym f.means);
}

-- a statement that could not be finished is declined so
pub unfinished-declined : (held : Held) (statements : Statements) (number : ℕ) (e : ExecuteFault)
    → IsUnfinished held.session.database statements number e → IsDeclined (state_of held statements) number e
unfinished-declined held statements number fault.TooLong never = tt
unfinished-declined held statements number fault.Shared never = absurd never
unfinished-declined held statements number fault.Interrupted never = absurd never
unfinished-declined held statements number fault.NoSuchStatement none = statement-seen held statements number ∙ ap (option_map seen) none
unfinished-declined held statements number (fault.Refused why) says = λ other. effect-of held statements number (Err why) (says other)

-- a statement that was finished as a change is one
pub change-of : (held : Held) (statements : Statements) (number : ℕ) (c : Resolved) → IsFinished held.session.database statements number (Ok c)
    → IsChange c → IsChangeOf (state_of held statements) number
change-of held statements number c f change = record {
  kept = seen f.prepared;
  there = statement-seen held statements number ∙ ap (option_map seen) f.there;
  statement = f.statement;
  spelled = f.spelled;
  command = c;
  means = f.means;
  change = change;
}

-- and one whose change was declined
pub change-declined : (old : Held) (new : State) (statements : Statements) (number : ℕ) (c : Resolved) (why : Refusal)
    → IsFinished old.session.database statements number (Ok c) → HasDeclined old.session new (done old.session.limits old.session.database c) why
    → IsDeclined (state_of old statements) number (fault.Refused why)
change-declined old new statements number c why f declined other =
    ⊎_elim (λ none. absurd (other none))
    (λ is. subst (IsEffectOf (state_of old statements) number) is (effect-of old statements number (Ok c) f)) declined.1

-- so it is of a change that was not done
pub change-undone : (old : Held) (new : State) (statements : Statements) (number : ℕ) (c : Resolved) (f : ChangeFault)
    → IsFinished old.session.database statements number (Ok c) → IsChange c → IsUndone old.session new (done old.session.limits old.session.database c) f
    → IsDeclined (state_of old statements) number (execute_fault_of_change f)
change-undone old new statements number c (changing.Refused why) finished change undone = change-declined old new statements number c why finished undone
change-undone old new statements number c changing.Shared finished change undone = change-of old statements number c finished change

-- ---- what stays

pub unchanged : (before after : Held) (old new : Statements) → after ≡ before → SameSeen old new
    → IsUnchanged (state_of before old) (state_of after new)
unchanged before after old new same seen = record {
  session = ap (λ (h : Held). h.session) same;
  shared = ap (λ (h : Held). h.shared) same;
  statements = same-seen before after old new seen;
}

pub changed-noted : (old new : State) (noted : NotedTables) (statements : Statements) (c : Resolved) (count : ℕ) → IsChange c
    → HasChanged new (done old.limits old.database c) count → AreNoted old.database noted statements → AreNoted new.database noted statements
changed-noted old new noted statements c count change changed is =
    let same : new.database ≡ (done old.limits old.database c).database = sym (ap (λ (e : Effect). e.database) changed) in
    noted-stays old.database new.database noted statements
    (sym (ap (map emptied) same ∙ change-schemas old.limits old.database c change)) is

-- a statement that was finished is there
pub there-named : (tables : Database) (statements : Statements) (number : ℕ) (m : Result Resolved Refusal) → IsFinished tables statements number m
    → ¬ (named statements number ≡ None)
there-named tables statements number m f none = let e : None ≡ Some f.prepared = sym none ∙ f.there in cc

-- ---- results

-- what holds anyway holds of a value
pub on-ok : {X E P : Type 0} (r : Result X E) → P → OnOk r P
on-ok (Ok x) h = h
on-ok (Err e) h = tt

-- and of an error
pub on-err : {X E P : Type 0} (r : Result X E) → P → OnErr r P
on-err (Ok x) h = tt
on-err (Err e) h = h

-- ---- what the cells of a select don't take

-- the statement is a select
pub select-of : (held : Held) (statements : Statements) (number : ℕ) (query : Query) → IsFinished held.session.database statements number (Ok (resolved.Select query))
    → IsSelectOf (state_of held statements) number
select-of held statements number query finished =
    (done held.session.limits held.session.database (resolved.Select query), effect-of held statements number (Ok (resolved.Select query)) finished, tt)

pub select-declined : (held : Held) (statements : Statements) (number : ℕ) (query : Query) → IsFinished held.session.database statements number (Ok (resolved.Select query))
    → (f : SelectFault) → IsDeclined (state_of held statements) number (execute_fault_of_select f)
select-declined held statements number query finished (selecting.NoMemory refused) = λ other. absurd (other refl)
select-declined held statements number query finished selecting.TooLong = tt
select-declined held statements number query finished selecting.Interrupted = select-of held statements number query finished

refused-apart : (why : Refusal) → fault.Refused why ≢ fault.TooLong
refused-apart why is = cc

-- a value is too long where it was for the cells
pub full-cells : (f : SelectFault) (P : Type 0) → (f ≡ selecting.TooLong → P) → execute_fault_of_select f ≡ fault.TooLong → P
full-cells (selecting.NoMemory refused) P full is = absurd (refused-apart refusal.NoMemory is)
full-cells selecting.TooLong P full is = full refl
full-cells selecting.Interrupted P full is = cc

-- and never where a statement is not resolved
pub unresolved-apart : (tables : Database) (statements : Statements) (number : ℕ) (e : ExecuteFault) → IsUnresolved tables statements number e → e ≢ fault.TooLong
unresolved-apart tables statements number fault.NoSuchStatement none is = cc
unresolved-apart tables statements number (fault.Refused why) says is = cc
unresolved-apart tables statements number fault.TooLong never is = never
unresolved-apart tables statements number fault.Shared never is = never
unresolved-apart tables statements number fault.Interrupted never is = never
