-- Seen: what a database is seen as shows of the statements that are kept.
use Rattle.std.proofs.Common.{◌≡◌, ℕ, ◌≤◌, length, sym, ap, subst, ◌∙◌, refl, Option, Some, None}
use Rattle.std.specs.Prelude.{slice_set}
use Rattle.std.specs.Option.{option_map}
use Rattle.plain_tables.specs.declared.value.Value.{Value}
use Rattle.mm_prepared.specs.Kept.{KeptStatement}
use Rattle.mm_statements.specs.Databases.{DatabaseState, NowNames, SameStatements, statement_at}
use Rattle.mm_shared.specs.Held.{Held}
use Rattle.mm_prepared.specs.Kept.{NamesNow, SameNamed, SameSeen, all_seen, named, seen, unresolved}
use Rattle.mm_prepared.proofs.KeptStatements.{all_seen-at}
use Rattle.mm_prepared.specs.declared.kept.Prepared.{Prepared}
use Rattle.mm_prepared.specs.declared.kept.Statements.{Statements}

-- what a database of these parts is seen as
abbrev pub state_of : Held → Statements → DatabaseState
state_of held statements = record { session = held.session; shared = held.shared; statements = all_seen statements }

pub statement-seen : (held : Held) (statements : Statements) (number : ℕ)
    → statement_at (state_of held statements) number ≡ option_map seen (named statements number)
statement-seen held statements number = all_seen-at statements number

pub same-seen : (before after : Held) (old new : Statements) → SameSeen old new → SameStatements (state_of before old) (state_of after new)
same-seen before after old new same number =
    statement-seen after new number ∙ same number ∙ sym (statement-seen before old number)

pub named-seen : (old new : Statements) → SameNamed old new → SameSeen old new
named-seen old new same number = ap (option_map seen) (same number)

pub names-seen : (before after : Held) (old new : Statements) (number : ℕ) (what : Option Prepared) → NamesNow old new number what
    → NowNames (state_of before old) (state_of after new) number (option_map seen what)
names-seen before after old new number what names = record {
  own = statement-seen after new number ∙ ap (option_map seen) names.own;
  others = λ other apart. statement-seen after new other ∙ ap (option_map seen) (names.others other apart) ∙ sym (statement-seen before old other);
}

-- what is named after nothing else is seen is named before it
pub names-before : (held : Held) (old mid new : Statements) (number : ℕ) (what : Option KeptStatement) → SameSeen old mid
    → NowNames (state_of held mid) (state_of held new) number what → NowNames (state_of held old) (state_of held new) number what
names-before held old mid new number what same names = record {
  own = names.own;
  others = λ other apart. names.others other apart ∙ same-seen held held old mid same other;
}

seen-unresolved : (p : Option Prepared) → option_map seen (option_map unresolved p) ≡ option_map seen p
seen-unresolved None = refl
seen-unresolved (Some p) = refl

-- what is forgotten of statements is not seen
pub forgotten-seen : (old new : Statements) → ((number : ℕ) → named new number ≡ option_map unresolved (named old number)) → SameSeen old new
forgotten-seen old new forgotten number = ap (option_map seen) (forgotten number) ∙ seen-unresolved (named old number)

-- a number that is seen to name nothing names nothing
pub none-seen : (p : Option Prepared) → option_map seen p ≡ None → p ≡ None
none-seen None e = refl
none-seen (Some p) e = cc

pub some-seen : (o : Option Prepared) (p : KeptStatement) → option_map seen o ≡ Some p → (q : Prepared) × (o ≡ Some q) × (seen q ≡ p)
some-seen None p e = cc
some-seen (Some q) p e = (q, refl, cc)

-- a number that is seen to name a statement names one that is seen so
pub statement-named : (held : Held) (statements : Statements) (number : ℕ) (p : KeptStatement)
    → statement_at (state_of held statements) number ≡ Some p → (q : Prepared) × (named statements number ≡ Some q) × (seen q ≡ p)
statement-named held statements number p is = some-seen (named statements number) p (sym (statement-seen held statements number) ∙ is)

-- where no statement is seen, none is
pub statement-none : (held : Held) (statements : Statements) (number : ℕ) → statement_at (state_of held statements) number ≡ None
    → named statements number ≡ None
statement-none held statements number is = none-seen (named statements number) (sym (statement-seen held statements number) ∙ is)

-- what is bound is seen
pub bound-seen : (held : Held) (old new : Statements) (number place : ℕ) (v : Value)
    → ((q : Prepared) → named old number ≡ Some q → NamesNow old new number (Some (record q { bound = slice_set q.bound place v })))
    → (p : KeptStatement) → statement_at (state_of held old) number ≡ Some p
    → NowNames (state_of held old) (state_of held new) number (Some (record p { values = slice_set p.values place v }))
bound-seen held old new number place v bound p is =
    let (q, there, same) = statement-named held old number p is in
    subst (λ (k : KeptStatement). NowNames (state_of held old) (state_of held new) number (Some (record k { values = slice_set k.values place v }))) same
    (names-seen held held old new number (Some (record q { bound = slice_set q.bound place v })) (bound q there))

pub past-seen : (held : Held) (statements : Statements) (number place : ℕ)
    → ((q : Prepared) → named statements number ≡ Some q → length q.bound ≤ place)
    → (p : KeptStatement) → statement_at (state_of held statements) number ≡ Some p → length p.values ≤ place
past-seen held statements number place past p is =
    let (q, there, same) = statement-named held statements number p is in
    subst (λ (k : KeptStatement). length k.values ≤ place) same (past q there)
