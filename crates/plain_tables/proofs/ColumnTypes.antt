-- The types of a sound table's columns: each has one, that of the keys of its table where it refers to one.
use Rattle.std.proofs.Common.{◌≡◌, ℕ, zero, suc, List, [], ◌∷◌, ◌++◌, map, get_or, true, false, Bool, Option, Some, None, inl, inr, refl, sym, ap, ◌∙◌, subst, append_assoc}
use Rattle.std.specs.Prelude.{IfSome}
use Rattle.std.specs.List.{All, AllPairs, find, slice_get}
use Rattle.std.specs.Option.{is_some, option_and_then, option_map, option_map_or}
use Rattle.std.proofs.lemmas.Bool.{cases_Bool, false_from_ne_true}
use Rattle.std.proofs.lemmas.List.Elements.{All-head, All-tail}
use Rattle.std.proofs.lemmas.Option.{none-some, same_Some}
use Rattle.std.proofs.lemmas.Slice.Eq.{bytes_eq-Decides}
use Rattle.common_lemmas.proofs.Pairs.{AllPairs-behind}
use Rattle.common_lemmas.proofs.Tests.{find_satisfies}
use Rattle.common_lemmas.proofs.Options.{is_some-Some}
use Rattle.plain_tables.specs.Tables.{Table}
use Rattle.plain_tables.specs.Databases.{Database, is_named, table_named}
use Rattle.plain_tables.specs.References.{IsSound, IsSoundTable, RefersInto, ReferBack, key_type, referred, takes_null, type_of}
use Rattle.plain_tables.specs.CsvReading.{BlockColumn, all_of}
use Rattle.plain_tables.specs.Resolving.{block_column}
use Rattle.plain_tables.specs.declared.schema.BaseKind.{BaseKind}
use Rattle.plain_tables.specs.declared.schema.ColKind.{ColKind}
use Rattle.plain_tables.specs.declared.schema.ColKind.TheVariants as kind
use Rattle.plain_tables.specs.declared.schema.Column.{Column}
use Rattle.plain_tables.specs.declared.command.Limits.{Limits}

found-in_front : {X : Type 0} (p : X → Bool) (xs ys : List X) (x : X) → find p xs ≡ Some x → find p (xs ++ ys) ≡ Some x
found-in_front p [] ys x found = absurd (none-some x found)
found-in_front p (z ∷ xs) ys x found = elim (cases_Bool (p z)) [
  | inl passes ↦ rw passes (rw passes at found)
  | inr fails ↦ rw fails (found-in_front p xs ys x (rw fails at found))
]

-- ---- the tables that a table refers to

-- the tables before one, to which it refers
refers-before : (before after : Database) (n : ℕ) (t : Table) → ReferBack before after → slice_get after n ≡ Some t
    → (front : Database) × (back : Database) × (before ++ after ≡ front ++ t ∷ back) × All (RefersInto front) t.columns
refers-before before [] n t back there = absurd (none-some t there)
refers-before before (u ∷ after) zero t back there =
    let same : u ≡ t = same_Some u t there in
    (before, after, ap (λ v. before ++ v ∷ after) same, subst (λ (v : Table). All (RefersInto before) v.columns) same back.0)
refers-before before (u ∷ after) (suc n) t back there =
    let (front, rest, whole, refer) = refers-before (before ++ u ∷ []) after n t back.1 there in
    (front, rest, sym (append_assoc before (u ∷ []) after) ∙ whole, refer)

-- It is there, and isn't this one.
abbrev pub IsElsewhere : Database → Table → List ℕ → Type 0
IsElsewhere tables t name = (u : Table) × (table_named name tables ≡ Some u) × (is_named name t ≡ false)

elsewhere : (tables front back : Database) (t : Table) → tables ≡ front ++ t ∷ back → AllPairs (λ u v. u.name ≡ v.name → ⊥) tables
    → (o : Option (List ℕ)) → option_map_or (λ name. is_some (table_named name front)) o true ≡ true → IfSome o (IsElsewhere tables t)
elsewhere tables front back t whole apart None refers = tt
elsewhere tables front back t whole apart (Some name) refers =
    let (u, found) = is_some-Some (table_named name front) refers in
    let differ = AllPairs-behind (λ v w. v.name ≡ w.name → ⊥) front t back (subst (AllPairs (λ v w. v.name ≡ w.name → ⊥)) whole apart) in
    let (other, named) = find_satisfies (λ v. v.name ≡ t.name → ⊥) (is_named name) front u differ found in (
      u,
      ap (table_named name) whole ∙ found-in_front (is_named name) front (t ∷ back) u found,
      false_from_ne_true (is_named name t) (λ same. other ((bytes_eq-Decides u.name name).0 named ∙ sym ((bytes_eq-Decides t.name name).0 same))),
    )

pub refers_elsewhere : (limits : Limits) (tables : Database) (n : ℕ) (t : Table) → IsSound limits tables → slice_get tables n ≡ Some t
    → All (λ c. IfSome (referred c.kind) (IsElsewhere tables t)) t.columns
refers_elsewhere limits tables n t sound there =
    let (front, back, whole, refer) = refers-before [] tables n t sound.refer_back there in
    λ k c within. elsewhere tables front back t whole sound.apart (referred (get_or t.columns k c).kind) (refer k c within)

-- ---- the columns of a block

all_more : {X : Type 0} (o : Option X) (x : X) (os : List (Option X)) (xs : List X) → o ≡ Some x → all_of os ≡ Some xs → all_of (o ∷ os) ≡ Some (x ∷ xs)
all_more o x os xs first rest = rw (first, rest) refl

type_there : (limits : Limits) (tables : Database) (t : Table) → IsSound limits tables → (c : Column) → IfSome (referred c.kind) (IsElsewhere tables t)
    → is_some (type_of tables c.kind) ≡ true
type_there limits tables t sound c elsewhere = by c.kind elsewhere
  where
    keyed : (name : List ℕ) → IsElsewhere tables t name → is_some (option_and_then key_type (table_named name tables)) ≡ true
    keyed name (u, found, other) = rw found ((find_satisfies (IsSoundTable limits) (is_named name) tables u sound.each found).0.keyed)

    by : (k : ColKind) → IfSome (referred k) (IsElsewhere tables t) → is_some (type_of tables k) ≡ true
    by kind.Int there = refl
    by kind.Text there = refl
    by (kind.Ref name) there = keyed name there
    by (kind.RefOrNull name) there = keyed name there

pub columns-typed : (tables : Database) (columns : List Column) → All (λ c. is_some (type_of tables c.kind) ≡ true) columns
    → (blocks : List BlockColumn) × (all_of (map (block_column tables) columns) ≡ Some blocks)
columns-typed tables [] typed = ([], refl)
columns-typed tables (c ∷ columns) typed =
    let (k, type) = is_some-Some (type_of tables c.kind) (All-head (λ d. is_some (type_of tables d.kind) ≡ true) c columns typed) in
    let (blocks, rest) = columns-typed tables columns (All-tail (λ d. is_some (type_of tables d.kind) ≡ true) c columns typed) in
    let of : BaseKind → BlockColumn = λ b. record { name = c.name; kind = b; null = takes_null c.kind } in
    (of k ∷ blocks, all_more (block_column tables c) (of k) (map (block_column tables) columns) blocks (ap (option_map of) type) rest)

-- a sound table has the columns of a block
pub table-typed : (limits : Limits) (tables : Database) (n : ℕ) (t : Table) → IsSound limits tables → slice_get tables n ≡ Some t
    → (blocks : List BlockColumn) × (all_of (map (block_column tables) t.columns) ≡ Some blocks)
table-typed limits tables n t sound there =
    let elsewhere = refers_elsewhere limits tables n t sound there in
    columns-typed tables t.columns (λ k c within. type_there limits tables t sound (get_or t.columns k c) (elsewhere k c within))
