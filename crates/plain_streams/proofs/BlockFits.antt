-- Blocks of a sound table: its columns have types, and its rows fit them.
use Rattle.std.proofs.Common.{◌≡◌, ℕ, ◌≤◌, List, [], ◌∷◌, length, map, Bool, true, false, Option, Some, None, inl, inr, refl, sym, subst}
use Rattle.std.specs.Prelude.{FitsSigned, IsTrue, nat_lt}
use Rattle.std.specs.Int.{w64}
use Rattle.std.specs.List.{All, AllZip, list_any, slice_get}
use Rattle.std.specs.FinSet.{slice_cmp-IsAntisymmetric}
use Rattle.std.specs.Option.{option_and_then, option_map_or}
use Rattle.std.specs.Ordering.{is_eq}
use Rattle.std.specs.declared.cmp.Ordering.{Ordering}
use Rattle.std.specs.declared.cmp.Ordering.TheVariants.{Less, Equal, Greater}
use Rattle.std.proofs.lemmas.Bool.{cases_Bool, false≢true, le-ltb}
use Rattle.std.proofs.lemmas.List.Elements.{All-nil, All-cons, All-head, All-tail}
use Rattle.std.proofs.lemmas.Option.{none-some, same_Some}
use Rattle.plain_tables.proofs.Blocks.{all_parts}
use Rattle.plain_tables.specs.Names.{IsName}
use Rattle.plain_tables.specs.Tables.{Table, Row, key_cmp, has_key_of}
use Rattle.plain_tables.specs.Databases.{Database, is_named, table_named}
use Rattle.plain_tables.specs.References.{IsSound, CanHold, IsRowOf, is_held, key_type, own_type, takes_null, type_of}
use Rattle.plain_tables.specs.CsvReading.{BlockColumn, Fits, FitsRow, all_of}
use Rattle.plain_tables.specs.Resolving.{block_column}
use Rattle.plain_tables.specs.declared.value.Value.{Value}
use Rattle.plain_tables.specs.declared.value.Value.TheVariants as value
use Rattle.plain_tables.specs.declared.schema.BaseKind.{BaseKind}
use Rattle.plain_tables.specs.declared.schema.BaseKind.TheVariants as base
use Rattle.plain_tables.specs.declared.schema.ColKind.{ColKind}
use Rattle.plain_tables.specs.declared.schema.ColKind.TheVariants as kind
use Rattle.plain_tables.specs.declared.schema.Column.{Column}
use Rattle.plain_tables.specs.declared.command.Limits.{Limits}
use Rattle.plain_tables.proofs.Held.{RowsFit}
use Rattle.common_lemmas.proofs.Tests.{find_satisfies}
use Rattle.common_lemmas.proofs.Options.{option_map_some}
use Rattle.plain_tables.proofs.Values.{value_cmp-exact}
use Rattle.plain_streams.specs.Dumps.{IsReadBack}

-- ---- lists

-- one of the elements passes, and holds what all hold
any_satisfies : {X : Type 0} (P : X → Type 0) (p : X → Bool) (xs : List X) → All P xs → list_any p xs ≡ true → (x : X) × P x × (p x ≡ true)
any_satisfies P p [] all some = absurd (false≢true some)
any_satisfies P p (x ∷ xs) all some = elim (cases_Bool (p x)) [
  | inl passes ↦ (x, All-head P x xs all, passes)
  | inr fails ↦ any_satisfies P p xs (All-tail P x xs all) (rw fails at some)
]

pub block-names : (tables : Database) (columns : List Column) (blocks : List BlockColumn) → all_of (map (block_column tables) columns) ≡ Some blocks
    → map (λ b. b.name) blocks ≡ map (λ c. c.name) columns
block-names tables [] blocks of = let none : [] ≡ blocks = same_Some [] blocks of in rw (← none) refl
block-names tables (c ∷ columns) blocks of =
    let (b, bs, first, rest, whole) = all_parts (block_column tables c) (map (block_column tables) columns) blocks of in
    let (k, type, same) = option_map_some (λ k. record { name = c.name; kind = k; null = takes_null c.kind }) (type_of tables c.kind) b first in
    rw (← whole, block-names tables columns bs rest, ← same) refl

pub blocks-named : (tables : Database) (columns : List Column) (blocks : List BlockColumn) → all_of (map (block_column tables) columns) ≡ Some blocks
    → All (λ c. IsName c.name) columns → All (λ b. IsName b.name) blocks
blocks-named tables [] blocks of named =
    let none : [] ≡ blocks = same_Some [] blocks of in rw (← none) (All-nil (λ (b : BlockColumn). IsName b.name))
blocks-named tables (c ∷ columns) blocks of named =
    let (b, bs, first, rest, whole) = all_parts (block_column tables c) (map (block_column tables) columns) blocks of in
    let (k, type, same) = option_map_some (λ k. record { name = c.name; kind = k; null = takes_null c.kind }) (type_of tables c.kind) b first in
    let head : IsName b.name = subst (λ (d : BlockColumn). IsName d.name) same (All-head (λ d. IsName d.name) c columns named) in
    rw (← whole) (All-cons (λ d. IsName d.name) b bs head (blocks-named tables columns bs rest (All-tail (λ d. IsName d.name) c columns named)))

-- ---- keys

-- a key of this type; a null is none
abbrev IsKey : BaseKind → Value → Type 0
IsKey k value.Null = Unit {0}
IsKey k (value.Int z) = (k ≡ base.Int) × FitsSigned w64 z
IsKey k (value.Text text) = (k ≡ base.Text) × (length text ≤ 1024)

key-of_own : (tables : Database) (c : ColKind) (k : BaseKind) (v : Value) → own_type c ≡ Some k → CanHold tables c v → IsKey k v
key-of_own tables c k value.Null type holds = tt
key-of_own tables kind.Int k (value.Int z) type holds = (sym (same_Some base.Int k type), holds)
key-of_own tables kind.Int k (value.Text text) type holds = absurd holds
key-of_own tables kind.Text k (value.Int z) type holds = absurd holds
key-of_own tables kind.Text k (value.Text text) type holds = (sym (same_Some base.Text k type), holds)
key-of_own tables refers k v type holds = absurd (none-some k type)

pub key-value : (w v : Value) → is_eq (key_cmp (w ∷ []) (v ∷ [])) ≡ true → w ≡ v
key-value w v same = by (key_cmp (w ∷ []) (v ∷ [])) refl same
  where
    by : (o : Ordering) → key_cmp (w ∷ []) (v ∷ []) ≡ o → is_eq o ≡ true → w ≡ v
    by Less is eq = absurd (false≢true eq)
    by Greater is eq = absurd (false≢true eq)
    by Equal is eq =
        let whole : w ∷ [] ≡ v ∷ [] = slice_cmp-IsAntisymmetric (λ x y. (value_cmp-exact x y).0) (w ∷ []) (v ∷ []) is in cc

key-of_row : (tables : Database) (columns : List Column) (row : Row) (k : BaseKind) (v : Value)
    → option_and_then (λ c. own_type c.kind) (slice_get columns 0) ≡ Some k → IsRowOf tables columns row
    → is_eq (key_cmp row (v ∷ [])) ≡ true → IsKey k v
key-of_row tables [] row k v type fits same = absurd (none-some k type)
key-of_row tables (c ∷ columns) [] k v type fits same = absurd fits
key-of_row tables (c ∷ columns) (w ∷ row) k v type fits same =
    subst (IsKey k) (key-value w v same) (key-of_own tables c.kind k w type fits.0)

-- a value that names a row has the type of its table's keys
key-held : (limits : Limits) (tables : Database) (name : List ℕ) (k : BaseKind) (v : Value) → IsSound limits tables
    → option_and_then key_type (table_named name tables) ≡ Some k → is_held tables (name, v) ≡ true → IsKey k v
key-held limits tables name k v sound type held = by (table_named name tables) refl type held
  where
    by : (o : Option Table) → table_named name tables ≡ o → option_and_then key_type o ≡ Some k
        → option_map_or (λ t. has_key_of (v ∷ []) t.rows) o false ≡ true → IsKey k v
    by None found typed has = absurd (none-some k typed)
    by (Some u) found typed has =
        let fit = (find_satisfies (RowsFit tables) (is_named name) tables u sound.rows_fit found).0 in
        let (row, fits, same) = any_satisfies (IsRowOf tables u.columns) (λ r. is_eq (key_cmp r (v ∷ []))) u.rows fit has in
        key-of_row tables u.columns row k v typed fits same

-- ---- rows

short-text : (text : List ℕ) → length text ≤ 1024 → nat_lt 1024 (length text) ≡ false
short-text text few = le-ltb 1024 (length text) few

-- a key that is read back fits a column of its type
key-fits : (c : Column) (k : BaseKind) (v : Value) → (v ≡ value.Null → IsTrue (takes_null c.kind)) → IsKey k v → IsReadBack c v
    → Fits (record { name = c.name; kind = k; null = takes_null c.kind }) v
key-fits c k value.Null null key read = null refl
key-fits c k (value.Int z) null key read = key
key-fits c k (value.Text text) null key read = (key.0, read.0, short-text text key.1, read.1)

-- what a column of this type holds is a key of it
holds-key : (limits : Limits) (tables : Database) (c : ColKind) (k : BaseKind) (v : Value) → IsSound limits tables → type_of tables c ≡ Some k
    → CanHold tables c v → IsKey k v
holds-key limits tables c k value.Null sound type holds = tt
holds-key limits tables (kind.Ref name) k v sound type holds = key-held limits tables name k v sound type holds
holds-key limits tables (kind.RefOrNull name) k v sound type holds = key-held limits tables name k v sound type holds
holds-key limits tables own k v sound type holds = key-of_own tables own k v type holds

value-fits : (limits : Limits) (tables : Database) (c : Column) (b : BlockColumn) (v : Value) → IsSound limits tables → block_column tables c ≡ Some b
    → CanHold tables c.kind v → IsReadBack c v → Fits b v
value-fits limits tables c b v sound of holds read =
    let (k, type, same) = option_map_some (λ k. record { name = c.name; kind = k; null = takes_null c.kind }) (type_of tables c.kind) b of in
    subst (λ d. Fits d v) same
    (key-fits c k v (λ null. subst (CanHold tables c.kind) null holds) (holds-key limits tables c.kind k v sound type holds) read)

pub row-fits : (limits : Limits) (tables : Database) (columns : List Column) (blocks : List BlockColumn) (row : Row) → IsSound limits tables
    → all_of (map (block_column tables) columns) ≡ Some blocks → IsRowOf tables columns row → AllZip IsReadBack columns row → FitsRow blocks row
row-fits limits tables [] blocks [] sound of fits read = let none : [] ≡ blocks = same_Some [] blocks of in rw (← none) tt
row-fits limits tables [] blocks (v ∷ row) sound of fits read = absurd fits
row-fits limits tables (c ∷ columns) blocks [] sound of fits read = absurd fits
row-fits limits tables (c ∷ columns) blocks (v ∷ row) sound of fits read =
    let (b, bs, first, rest, whole) = all_parts (block_column tables c) (map (block_column tables) columns) blocks of in
    rw (← whole) (value-fits limits tables c b v sound first fits.0 read.0, row-fits limits tables columns bs row sound rest fits.1 read.1)
