-- What is found of a statement, and how it is answered by that: as a statement, or as the command that it is where it has no holes.
use Rattle.std.proofs.Common.{◌≡◌, ◌≢◌, Bool, true, false, List, [], ◌∷◌, map, refl, sym, ap, subst, ◌∙◌}
use Rattle.std.specs.Prelude.{Result, Ok, Err, MatchResult, Option, Some, None, if◌then◌else◌}
use Rattle.std.specs.List.{list_any, flat_map}
use Rattle.std.specs.Result.{IfOk, IfErr}
use Rattle.std.proofs.lemmas.Option.{same_Some}
use Rattle.plain_tables.specs.Databases.{Database}
use Rattle.plain_tables.specs.Effects.{Check}
use Rattle.plain_tables.specs.Resolving.{resolved_of}
use Rattle.plain_tables.specs.declared.command.Command.{Command}
use Rattle.plain_tables.specs.declared.refusal.Refusal.{Refusal}
use Rattle.plain_tables.specs.declared.refusal.Refusal.TheVariants.{NoMemory, TextTooLong, WrongType}
use Rattle.plain_tables.specs.declared.resolved.Joined.{Joined}
use Rattle.plain_tables.specs.declared.resolved.Query.{Query}
use Rattle.plain_tables.specs.declared.resolved.Resolved.{Resolved}
use Rattle.plain_tables.specs.declared.resolved.Shown.{Shown}
use Rattle.plain_tables.specs.declared.resolved.Source.{Source}
use Rattle.plain_tables.specs.declared.resolved.Test.{Test}
use Rattle.plain_tables.specs.declared.value.Value.{Value}
use Rattle.plain_statements.specs.declared.resolution.Template.{Template}
use Rattle.plain_statements.specs.declared.statement.Slot.{Slot}
use Rattle.plain_statements.specs.declared.statement.Slot.TheVariants.{Given}
use Rattle.plain_statements.specs.declared.statement.Statement.{Statement}
use Rattle.plain_statements.specs.Filling.{filled}
use Rattle.plain_statements.specs.Finishing.{comes, filled_join, filled_query, filled_source, filled_template, filled_test, finished, is_past, is_wrong, unless}
use Rattle.plain_statements.specs.Laws.{Refuses, Resolves}
use Rattle.plain_statements.specs.Slots.{Needed, first_refusal, is_given, opened, resolution_with, wants_of}
use Rattle.plain_statements.specs.StatementSpelling.{holes_of, numbers_of}
use Rattle.plain_statements.proofs.Resolutions.{Meant, resolution_of, settled, settles}
use Rattle.mm_resolver.specs.declared.wanted.Wanted.{Wanted}
use Rattle.mm_resolver.specs.Checks.{verdict}
use Rattle.mm_resolver.specs.Slots.{given_joined, given_source, given_test, slot_query}
use Rattle.mm_resolver.specs.Wanted.{IsFound, IsWantedOf, given_checks}
use Rattle.mm_resolver.proofs.Meanings.{unless_refused}

-- what a statement means
pub means-so : (tables : Database) (s : Statement) (m : Meant) → resolution_of tables s ≡ m → MatchResult m (Resolves tables s) (Refuses tables s)
means-so tables s m is = subst (λ n. MatchResult n (Resolves tables s) (Refuses tables s)) is (by-match (resolution_of tables s) (settles tables s))
  where
    by-match : (n : Meant) → ((values : List Value) → resolved_of [] tables (filled values s) ≡ settled values n) → MatchResult n (Resolves tables s) (Refuses tables s)
    by-match (Ok r) settles = settles
    by-match (Err e) settles = settles

-- ---- a statement

answered-by : (tables : Database) (s : Statement) (m : Meant) → MatchResult m (Resolves tables s) (Refuses tables s)
    → IfOk m (Resolves tables s) × IfErr m (λ e. e ≢ NoMemory → Refuses tables s e)
answered-by tables s (Ok r) means = (means, tt)
answered-by tables s (Err e) means = (tt, λ other. means)

-- a statement is answered by what is found of it
pub statement-answered : (tables : Database) (s : Statement) (wanted : Wanted) (last : Option Refusal) (t : Template) → IsFound tables s wanted last t
    → (m : Meant) → ((needs : List Needed) (late : List Check) → IsWantedOf needs wanted → last ≡ first_refusal late → m ≡ opened needs late t)
    → IfOk m (Resolves tables s) × IfErr m (λ e. e ≢ NoMemory → Refuses tables s e)
statement-answered tables s wanted last t found m is =
    answered-by tables s m (subst (λ n. MatchResult n (Resolves tables s) (Refuses tables s)) (sym (is found.needs found.late found.asked found.behind)) found.means)

-- ---- the checks that come last

pub late-refused : (late : List Check) (e : Refusal) → Some e ≡ first_refusal late → verdict late ≡ Err e
late-refused [] e is = cc
late-refused (check ∷ checks) e is =
    elim (check.refuses) as (λ b. Some e ≡ (if b then Some check.refusal else first_refusal checks) → (if b then Err check.refusal else verdict checks) ≡ Err e) [
      | true ↦ λ h. ap (λ why. Err why) (sym (same_Some e check.refusal h))
      | false ↦ λ h. late-refused checks e h
    ] is

pub late-passed : (late : List Check) → None ≡ first_refusal late → verdict late ≡ Ok tt
late-passed [] is = refl
late-passed (check ∷ checks) is =
    elim (check.refuses) as (λ b. None ≡ (if b then Some check.refusal else first_refusal checks) → (if b then Err check.refusal else verdict checks) ≡ Ok tt) [
      | true ↦ λ h. cc
      | false ↦ λ h. late-passed checks h
    ] is

-- ---- a command

unless-is : (checks : List Check) (r : Resolved) → unless (first_refusal checks) r ≡ unless_refused (verdict checks) (Ok r)
unless-is [] r = refl
unless-is (check ∷ checks) r =
    elim (check.refuses) as (λ b. unless (if b then Some check.refusal else first_refusal checks) r ≡ unless_refused (if b then Err check.refusal else verdict checks) (Ok r)) [
      | true ↦ refl
      | false ↦ unless-is checks r
    ]

-- a resolution that wants no values is finished without any
finished-without : (needs : List Needed) (late : List Check) (t : Template) → wants_of needs ≡ []
    → finished [] (resolution_with needs late t)
    ≡ unless_refused (verdict (record { refuses = list_any (is_given is_past) needs; refusal = TextTooLong } ∷ late)) (Ok (filled_template [] t))
finished-without needs late t none =
    let checks : List Check = record { refuses = list_any (is_given is_past) needs; refusal = TextTooLong } ∷ late in
    ap (λ ws. if list_any (comes is_wrong []) ws then Err WrongType else if list_any (comes is_past []) ws then Err TextTooLong else unless (first_refusal checks) (filled_template [] t)) none
    ∙ unless-is checks (filled_template [] t)

pub command-means : (tables : Database) (s : Statement) (wanted : Wanted) (last : Option Refusal) (t : Template) → IsFound tables s wanted last t
    → holes_of s ≡ [] → (c : Command) → filled [] s ≡ c → (r : Resolved) → filled_template [] t ≡ r → (v : Result (Unit {0}) Refusal)
    → ((needs : List Needed) (late : List Check) → IsWantedOf needs wanted → last ≡ first_refusal late → v ≡ verdict (given_checks needs late))
    → resolved_of [] tables c ≡ unless_refused v (Ok r)
command-means tables s wanted last t found none c same r done v told =
    let needs = found.needs in
    let late = found.late in
    let wrong : Bool = list_any (is_given is_wrong) needs in
    let checks : List Check = record { refuses = list_any (is_given is_past) needs; refusal = TextTooLong } ∷ late in
    let by : (b : Bool) → MatchResult (if b then Err WrongType else Ok (resolution_with needs late t)) (Resolves tables s) (Refuses tables s)
    → resolved_of [] tables (filled [] s) ≡ unless_refused (if b then Err WrongType else verdict checks) (Ok (filled_template [] t)) =
    elim [
      | true ↦ λ refuses. refuses []
      | false ↦ λ resolves. resolves [] ∙ finished-without needs late t (found.holes none)
    ] in
    ap (resolved_of [] tables) (sym same) ∙ by wrong found.means
    ∙ ap (λ w. unless_refused w (Ok (filled_template [] t))) (sym (told needs late found.asked found.behind))
    ∙ ap (λ x. unless_refused v (Ok x)) done

-- ---- what is given, filled

pub map-back : {X Y : Type 0} (f : Y → X) (g : X → Y) → ((x : X) → f (g x) ≡ x) → (xs : List X) → map f (map g xs) ≡ xs
map-back f g back [] = refl
map-back f g back (x ∷ xs) = ap (λ y. y ∷ map f (map g xs)) (back x) ∙ ap (λ ys. x ∷ ys) (map-back f g back xs)

pub none-of-given : {X Y : Type 0} (slot : Y → Slot) (g : X → Y) → ((x : X) → numbers_of (slot (g x)) ≡ []) → (xs : List X)
    → flat_map numbers_of (map slot (map g xs)) ≡ []
none-of-given slot g each [] = refl
none-of-given slot g each (x ∷ xs) = rw (each x, none-of-given slot g each xs) refl

pub none-of-values : (row : List Value) → flat_map numbers_of (map Given row) ≡ []
none-of-values [] = refl
none-of-values (v ∷ row) = none-of-values row

abbrev pub query_of : Bool → Shown → Source → List Joined → Query
query_of distinct shown source joins = record { distinct = distinct; shown = shown; source = source; joins = joins }

source-back : (s : Source) → filled_source [] (given_source s) ≡ s
source-back s = ap (λ (tests : List Test). record { table = s.table; tests = tests }) (map-back (filled_test []) given_test (λ _. refl) s.tests)

join-back : (j : Joined) → filled_join [] (given_joined j) ≡ j
join-back j = ap (λ (s : Source). record { source = s; outer = j.outer; inner = j.inner }) (source-back j.source)

pub query-back : (distinct : Bool) (shown : Shown) (source : Source) (joins : List Joined)
    → filled_query [] (slot_query distinct shown (given_source source) (map given_joined joins)) ≡ query_of distinct shown source joins
query-back distinct shown source joins = λ i. query_of distinct shown (source-back source i) (map-back (filled_join []) given_joined join-back joins i)
