-- Preparing: what is kept of a line that spells a statement, and why nothing is.
use Rattle.std.proofs.Common.{◌≡◌, ◌≢◌, ℕ, List, length, replicate, refl, sym, ap, ◌∙◌, Some}
use Rattle.std.proofs.lemmas.List.{length-replicate}
use Rattle.std.proofs.lemmas.List.FromFn.{length-range_with_len}
use Rattle.plain_tables.specs.Databases.{Database}
use Rattle.plain_tables.specs.declared.refusal.Refusal.{Refusal}
use Rattle.plain_tables.specs.declared.refusal.Refusal.TheVariants as refusal
use Rattle.plain_tables.specs.declared.value.Value.TheVariants as value
use Rattle.plain_streams.specs.Requests.{IsReadable}
use Rattle.plain_statements.specs.declared.resolution.Resolution.{Resolution}
use Rattle.plain_statements.specs.declared.statement.Statement.{Statement}
use Rattle.plain_statements.specs.StatementSpelling.{SpellsStatement, holes_of, marks}
use Rattle.mm_lang.specs.Refusals.{refusal_of}
use Rattle.mm_lang.specs.declared.refusal.ParseRefusal.{ParseRefusal}
use Rattle.mm_lang.specs.declared.refusal.ParseRefusal.TheVariants as parsing
use Rattle.mm_statements.specs.Faults.{fault_of}
use Rattle.mm_statements.specs.declared.faults.PrepareFault.TheVariants as fault
use Rattle.mm_statements.specs.Preparing.{IsPrepared, IsUnprepared, IsUnpreparedFor, SpellsNone}
use Rattle.mm_statements.specs.Preparing as preparing
use Rattle.mm_statements.specs.Querying.{IsUnread}
use Rattle.mm_statements.specs.Querying as querying
use Rattle.mm_statements.specs.Resolving.{IsUnmeant, LineMeans}
use Rattle.mm_statements.specs.Resolving as resolving
use Rattle.mm_statements.specs.Right.{IsRight}
use Rattle.mm_statements.proofs.Marks.{silent-none, spelled-unbroken}

-- a statement has a hole for each question mark of its line
pub marks-holes : (line : List ℕ) (s : Statement) → SpellsStatement line s → marks line ≡ length (holes_of s)
marks-holes line s spelled = sym (ap length spelled.0 ∙ length-range_with_len 0 (marks line))

pub prepared-right : (tables : Database) (line : List ℕ) (places : ℕ) (r : Resolution) → places ≡ marks line → LineMeans tables line r
    → IsRight tables (record { line = line; bound = replicate places value.Null; resolution = Some r })
prepared-right tables line places r counted (s, spelled, resolves) = record {
  statement = s;
  spelled = spelled;
  counted = length-replicate places value.Null ∙ (counted ∙ marks-holes line s spelled);
  resolved = resolves;
}

pub is-prepared : (tables : Database) (line : List ℕ) (places : ℕ) (r : Resolution) → IsReadable line → places ≡ marks line → LineMeans tables line r
    → IsPrepared tables line places
is-prepared tables line places r readable counted (s, spelled, resolves) = record {
  readable = readable;
  statement = s;
  spelled = spelled;
  counted = counted ∙ marks-holes line s spelled;
  resolution = r;
  resolved = resolves;
}

-- a line that isn't read is not kept
pub unread-unprepared : (tables : Database) (line : List ℕ) (why : Refusal) → IsUnread line why → IsUnprepared tables line why
unread-unprepared tables line why (querying.too_long long) = preparing.too_long long
unread-unprepared tables line why (querying.not_utf8 short bad) = preparing.not_utf8 short bad
unread-unprepared tables line why (querying.broken readable feed) = preparing.no_statement readable (λ s spells. feed (spelled-unbroken line s spells))
unread-unprepared tables line why (querying.silent readable is) = preparing.no_statement readable (silent-none line is)

-- a line that spells no statement has no meaning
pub unparsed-unmeant : (tables : Database) (line : List ℕ) (why : ParseRefusal) → (why ≡ parsing.Syntax → SpellsNone line)
    → refusal_of why ≢ refusal.NoMemory → IsUnmeant tables line (refusal_of why)
unparsed-unmeant tables line parsing.Syntax none other = resolving.no_statement (none refl)
unparsed-unmeant tables line parsing.NoMemory none other = absurd (other refl)

-- a line that can be read and has no meaning is not kept
pub unmeant-unprepared : (tables : Database) (line : List ℕ) (why : Refusal) → IsReadable line → IsUnmeant tables line why
    → IsUnprepared tables line why
unmeant-unprepared tables line why readable (resolving.no_statement none) = preparing.no_statement readable none
unmeant-unprepared tables line why readable (resolving.refuses s e spelled refused) = preparing.refuses s e readable spelled refused

-- ---- faults

pub other-fault : (why : Refusal) → why ≢ refusal.NoMemory → fault.Refused why ≡ fault_of why
other-fault refusal.NoMemory other = absurd (other refl)
other-fault why other = refl

pub unprepared-for : (tables : Database) (line : List ℕ) (why : Refusal) → (why ≢ refusal.NoMemory → IsUnprepared tables line why)
    → IsUnpreparedFor tables line (fault_of why)
unprepared-for tables line refusal.NoMemory says = tt
unprepared-for tables line why says = says (λ e. cc)
