-- Right: what keeps statements right by the tables.
use Rattle.std.proofs.Common.{◌≡◌, ◌≢◌, ℕ, map, sym, ap, ◌∙◌, subst, refl, inl, inr, ◌⊎◌, Option, Some, None}
use Rattle.std.specs.Prelude.{IfSome, OnErr, OnOk, Result, Ok, Err, slice_set}
use Rattle.std.specs.Option.{option_map}
use Rattle.std.proofs.lemmas.Bool.{cases_eq}
use Rattle.std.proofs.Math.ListN.{length-set}
use Rattle.plain_tables.specs.Databases.{Database}
use Rattle.plain_tables.specs.ResolvedLaws.{emptied}
use Rattle.plain_tables.specs.declared.value.Value.{Value}
use Rattle.plain_statements.specs.declared.statement.Statement.{Statement}
use Rattle.plain_statements.specs.declared.resolution.Resolution.{Resolution}
use Rattle.plain_statements.specs.Laws.{Resolves}
use Rattle.plain_statements.proofs.Schemas.{resolution-stays}
use Rattle.mm_prepared.specs.Kept.{NamesNow, SameNamed, named, unresolved}
use Rattle.mm_statements.specs.Resolving.{LineMeans}
use Rattle.mm_statements.specs.Right.{AreRight, IsRight}
use Rattle.mm_prepared.specs.declared.kept.Prepared.{Prepared}
use Rattle.mm_prepared.specs.declared.kept.Statements.{Statements}
use Rattle.mm_statements.proofs.Preparing.{marks-holes}

-- ---- other statements

pub none-right : (tables : Database) (statements : Statements) → ((number : ℕ) → named statements number ≡ None) → AreRight tables statements
none-right tables statements none number p is = let e : None ≡ Some p = sym (none number) ∙ is in cc

pub same-right : (tables : Database) (old new : Statements) → SameNamed old new → AreRight tables old → AreRight tables new
same-right tables old new same right number p is = right number p (sym (same number) ∙ is)

pub names-right : (tables : Database) (old new : Statements) (number : ℕ) (what : Option Prepared) → NamesNow old new number what
    → IfSome what (IsRight tables) → AreRight tables old → AreRight tables new
names-right tables old new number what names here right other p is = by-number (cases_eq other number)
  where
    by-number : (other ≡ number) ⊎ (other ≢ number) → IsRight tables p
    by-number (inl same) =
        let whole : what ≡ Some p = sym names.own ∙ (ap (named new) (sym same) ∙ is) in
        subst (λ w. IfSome w (IsRight tables)) whole here
    by-number (inr apart) = right other p (sym (names.others other apart) ∙ is)

-- a statement stays right whatever value is bound
bound-right : (tables : Database) (p : Prepared) (place : ℕ) (v : Value) → IsRight tables p → IsRight tables (record p { bound = slice_set p.bound place v })
bound-right tables p place v right = record {
  statement = right.statement;
  spelled = right.spelled;
  counted = length-set p.bound place v ∙ right.counted;
  resolved = right.resolved;
}

-- So all stay where one is bound, and where none is.
pub bind-right : {X E : Type 0} (tables : Database) (old new : Statements) (number place : ℕ) (v : Value) (missing : E) (r : Result X E)
    → OnOk r ((p : Prepared) → named old number ≡ Some p → NamesNow old new number (Some (record p { bound = slice_set p.bound place v })))
    → OnErr r (SameNamed old new) → (named old number ≡ None → r ≡ Err missing) → AreRight tables old → AreRight tables new
bind-right tables old new number place v missing (Ok x) bound same none right = by-there (named old number) refl
  where
    by-there : (o : Option Prepared) → named old number ≡ o → AreRight tables new
    by-there None is = let bad : Ok x ≡ Err missing = none is in cc
    by-there (Some p) is = names-right tables old new number (Some (record p { bound = slice_set p.bound place v })) (bound p is) (bound-right tables p place v (right number p is)) right
bind-right tables old new number place v missing (Err e) bound same none right = same-right tables old new same right

-- a statement stays right where a resolution of its line is kept
resolved-right : (tables : Database) (p : Prepared) (r : Resolution) → LineMeans tables p.line r → IsRight tables p
    → IsRight tables (record p { resolution = Some r })
resolved-right tables p r (s, spelled, resolves) right = record {
  statement = s;
  spelled = spelled;
  counted = right.counted ∙ (sym (marks-holes p.line right.statement right.spelled) ∙ marks-holes p.line s spelled);
  resolved = resolves;
}

pub resolve-right : {X E : Type 0} (tables : Database) (old new : Statements) (number : ℕ) (p : Prepared) (r : Resolution) (result : Result X E)
    → OnOk result ((q : Prepared) → named old number ≡ Some q → NamesNow old new number (Some (record q { resolution = Some r })))
    → OnErr result (SameNamed old new) → named old number ≡ Some p → LineMeans tables p.line r → AreRight tables old → AreRight tables new
resolve-right tables old new number p r (Ok x) set same there means right =
    names-right tables old new number (Some (record p { resolution = Some r })) (set p there) (resolved-right tables p r means (right number p there)) right
resolve-right tables old new number p r (Err e) set same there means right = same-right tables old new same right

forgotten : (tables others : Database) (p : Option Prepared) (q : Prepared) → ((r : Prepared) → p ≡ Some r → IsRight tables r)
    → option_map unresolved p ≡ Some q → IsRight others q
forgotten tables others None q right is = cc
forgotten tables others (Some p) q right is =
    let was = right p refl in
    let same : unresolved p ≡ q = cc in
    subst (IsRight others) same (record { statement = was.statement; spelled = was.spelled; counted = was.counted; resolved = tt })

-- Statements of which nothing is known that they mean are right by any tables.
pub forgotten-right : (tables others : Database) (old new : Statements)
    → ((number : ℕ) → named new number ≡ option_map unresolved (named old number)) → AreRight tables old → AreRight others new
forgotten-right tables others old new forgot right number p is =
    forgotten tables others (named old number) p (right number) (sym (forgot number) ∙ is)

-- ---- other tables

stays : (tables others : Database) (s : Statement) (r : Option Resolution) → map emptied tables ≡ map emptied others
    → IfSome r (Resolves tables s) → IfSome r (Resolves others s)
stays tables others s None same resolved = tt
stays tables others s (Some r) same resolved = resolution-stays tables others s r same resolved

-- Statements stay right while the tables have the same names and columns.
pub stays-right : (tables others : Database) (statements : Statements) → map emptied tables ≡ map emptied others → AreRight tables statements → AreRight others statements
stays-right tables others statements same right number p is =
    let was = right number p is in record {
      statement = was.statement;
      spelled = was.spelled;
      counted = was.counted;
      resolved = stays tables others was.statement p.resolution same was.resolved;
    }
