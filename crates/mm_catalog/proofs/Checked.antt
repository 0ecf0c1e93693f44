-- What the checks of an insert tell, by the relation that the row is to come into.
use Rattle.std.proofs.Common.{◌≡◌, ℕ, zero, suc, ◌+◌, ◌<◌, ◌≤◌, not, Bool, true, false, List, [], ◌∷◌, Some, None, IsSome, refl, sym, ap, ◌∙◌, subst, arith, length, take, set}
use Rattle.std.specs.List.{list_all, slice_get, All, Contains, zip}
use Rattle.std.specs.Prelude.{nat_le, if◌then◌else◌}
use Rattle.std.specs.Option.{option_and_then, option_map}
use Rattle.std.specs.FinMap as finite
use Rattle.std.proofs.lemmas.Bool.{false≢true, le-leb, lt-leb}
use Rattle.std.proofs.lemmas.List.{length-map}
use Rattle.std.proofs.lemmas.Option.{none-some, slice_get_within}
use Rattle.std.proofs.lemmas.List.Elements.{All-nil}
use Rattle.common_lemmas.proofs.Places.{slice_get-inside}
use Rattle.common_lemmas.proofs.Elements.{All-at, one_more}
use Rattle.plain_tables.specs.Tables.{Table, Row, has_key_of}
use Rattle.plain_tables.specs.Databases.{Database}
use Rattle.plain_tables.specs.Doing.{done}
use Rattle.plain_tables.specs.Effects.{Effect, Changed, Refused, grown_by}
use Rattle.plain_tables.specs.References.{IsSoundTable, referred, own_type, references, reference_of, Reference, is_held}
use Rattle.plain_tables.specs.declared.numbers.TableNumber.{TableNumber}
use Rattle.plain_tables.specs.declared.refusal.Refusal.{Refusal}
use Rattle.plain_tables.specs.declared.refusal.Refusal.TheVariants.{KeyExists, NoReferencedRow, TableFull}
use Rattle.plain_tables.specs.declared.resolved.Resolved.TheVariants as resolved
use Rattle.plain_tables.specs.declared.schema.ColKind.{ColKind}
use Rattle.plain_tables.specs.declared.schema.ColKind.TheVariants as kind
use Rattle.plain_tables.specs.declared.schema.Column.{Column}
use Rattle.plain_tables.specs.declared.value.Value.{Value}
use Rattle.plain_tables.specs.declared.value.Value.TheVariants.{Null, Int, Text}
use Rattle.mm_relation.specs.declared.row.Cell.{Cell}
use Rattle.mm_relation.specs.State.{RelationState, HasKey, linked_keys}
use Rattle.mm_catalog.specs.State.{CatalogState}
use Rattle.mm_catalog.specs.Seen.{database_of, table_of, rows_of}
use Rattle.mm_catalog.specs.Linked.{target_of, target_at}
use Rattle.mm_catalog.specs.Consistent.{IsConsistent}
use Rattle.mm_catalog.specs.Cells.{IsCellOf, NamesNone, AreCellsOf, SomeNamesNone}
use Rattle.mm_catalog.proofs.Tables.{database-get}
use Rattle.mm_catalog.proofs.Among.{among_at, some_columns, target_column}
use Rattle.mm_catalog.proofs.Referenced.{key_shown, no_key_shown, reference_held, reference_missing}
use Rattle.mm_catalog.proofs.Anywhere.{all_pass, not_all_pass}
use Rattle.mm_catalog.proofs.Lists.{get-zip}
use Rattle.mm_catalog.proofs.LinksHeld.{Contains-at, Contains-filter_map}

-- ---- the references of a row

each_reference : (P : Reference → Type 0) (columns : List Column) (row : Row) → ((k : ℕ) (column : Column) (v : Value) (ref : Reference) → slice_get columns k ≡ Some column → slice_get row k ≡ Some v → reference_of column v ≡ Some ref → P ref) → All P (references columns row)
each_reference P [] row each = All-nil P
each_reference P (column ∷ columns) [] each = All-nil P
each_reference P (column ∷ columns) (v ∷ row) each =
    one_more P (reference_of column v) (references columns row) (λ ref. each 0 column v ref refl refl) (each_reference P columns row (λ k. each (suc k)))

pub refers_none : (k : ColKind) → IsSome (own_type k) → referred k ≡ None
refers_none kind.Int some = refl
refers_none kind.Text some = refl
refers_none (kind.Ref name) some = absurd (false≢true some)
refers_none (kind.RefOrNull name) some = absurd (false≢true some)

pub no_reference : (column : Column) (v : Value) → referred column.kind ≡ None → reference_of column v ≡ None
no_reference column Null e = refl
no_reference column (Int z) e = ap (option_map (λ name. (name, Int z))) e
no_reference column (Text t) e = ap (option_map (λ name. (name, Text t))) e

module _ (c : CatalogState) (ok : IsConsistent c) (n : TableNumber) (s : RelationState) (there : slice_get c.relations n.0 ≡ Some s) (name : List ℕ) (named : slice_get c.names n.0 ≡ Some name) where
  abbrev db : Database
  db = database_of c

  abbrev table : Table
  table = table_of c.relations name s

  table_here : slice_get db n.0 ≡ Some table
  table_here = database-get c ok.named n.0 name s named there

  key_column : (column : Column) → slice_get s.schema.columns 0 ≡ Some column → referred column.kind ≡ None
  unfolding table_of
  key_column column at =
      let sound : IsSoundTable c.limits table = All-at (IsSoundTable c.limits) db n.0 table ok.sound.each table_here in
      refers_none column.kind (subst (λ o. IsSome (option_and_then (λ (d : Column). own_type d.kind) o)) at sound.keyed)

  module _ (key : Value) (rest : List Value) where
    abbrev values : List Value
    values = key ∷ rest

    references_held : (cells : List Cell) → AreCellsOf (take n.0 c.relations) s.targets rest cells → list_all (is_held db) (references s.schema.columns values) ≡ true
    references_held cells are = all_pass (is_held db) (references s.schema.columns values) (each_reference (λ ref. is_held db ref ≡ true) s.schema.columns values each)
      where
        each : (k : ℕ) (column : Column) (v : Value) (ref : Reference) → slice_get s.schema.columns k ≡ Some column → slice_get values k ≡ Some v → reference_of column v ≡ Some ref → is_held db ref ≡ true
        each zero column v ref at e f = absurd (none-some ref (sym (no_reference column v (key_column column at)) ∙ f))
        each (suc k) column v ref at e f =
            let cell = slice_get-inside cells k (omega (arith, are.count, slice_get_within rest k v e)) in
            let is : IsCellOf (take n.0 c.relations) (target_at s.targets (k + 1)) v cell.0 = are.each k v cell.0 e cell.1 in
            let next : k + 1 ≡ suc k = omega arith in
            let target : target_at s.targets (k + 1) ≡ target_of c.names column = ap (target_at s.targets) next ∙ target_column c ok n.0 s (suc k) column there at in
            reference_held c ok n.0 s there (suc k) column at v cell.0 (subst (λ o. IsCellOf (take n.0 c.relations) o v cell.0) target is) ref f

    references_missing : length values ≡ length s.schema.columns → SomeNamesNone (take n.0 c.relations) s.targets rest → list_all (is_held db) (references s.schema.columns values) ≡ false
    references_missing wide (k, v, at, none) =
        let column = slice_get-inside s.schema.columns (suc k) (omega (arith, wide, slice_get_within rest k v at)) in
        let next : k + 1 ≡ suc k = omega arith in
        let target : target_at s.targets (k + 1) ≡ target_of c.names column.0 = ap (target_at s.targets) next ∙ target_column c ok n.0 s (suc k) column.0 there column.1 in
        let missing = reference_missing c ok n.0 s there (suc k) column.0 column.1 v (subst (λ o. NamesNone (take n.0 c.relations) o v) target none) in
        let there : Contains (zip s.schema.columns values) (column.0, v) = Contains-at (zip s.schema.columns values) (suc k) (column.0, v) (get-zip s.schema.columns values (suc k) column.0 v column.1 at) in
        not_all_pass (is_held db) (references s.schema.columns values) missing.0
        (Contains-filter_map (λ (cell : Column × Value). reference_of cell.0 cell.1) (zip s.schema.columns values) (column.0, v) missing.0 there missing.1) missing.2

    -- ---- the effect

    abbrev effect : Effect
    effect = done c.limits db (resolved.Insert n values)

    abbrev refused : Refusal → Effect
    refused refusal = record { database = db; outcome = Refused refusal }

    abbrev grown : Effect
    grown = record { database = set db n.0 (grown_by values table); outcome = Changed 1 }

    -- what the checks come to
    abbrev by_checks : Bool → Bool → Bool → Effect
    by_checks has_key holds_all is_full =
        if has_key then refused (KeyExists None) else (if not holds_all then refused (NoReferencedRow None) else (if is_full then refused (TableFull None) else grown))

    checked_effect : effect ≡ by_checks (has_key_of values table.rows) (list_all (is_held db) (references table.columns values)) (nat_le c.limits.rows (length table.rows))
    checked_effect = rw table_here refl

    key_yes : HasKey s.rows key → has_key_of values table.rows ≡ true
    unfolding table_of
    key_yes h = key_shown s (among_at c ok n.0 s there).kept (linked_keys s.targets c.relations) (some_columns c ok n.0 s there) key rest h

    key_no : (HasKey s.rows key → ⊥) → has_key_of values table.rows ≡ false
    unfolding table_of
    key_no h = no_key_shown s (among_at c ok n.0 s there).kept (linked_keys s.targets c.relations) (some_columns c ok n.0 s there) key rest h

    columns_here : table.columns ≡ s.schema.columns
    unfolding table_of
    columns_here = refl

    rows_here : length table.rows ≡ finite.len s.rows
    unfolding table_of rows_of
    rows_here = length-map _ _ ∙ (among_at c ok n.0 s there).kept.keyed.lists.count

    abbrev holds : List Column → Bool
    holds columns = list_all (is_held db) (references columns values)

    pub key_refuses : HasKey s.rows key → effect.outcome ≡ Refused (KeyExists None)
    key_refuses h = ap (λ (e : Effect). e.outcome) (checked_effect ∙ ap (λ b. by_checks b (holds table.columns) (nat_le c.limits.rows (length table.rows))) (key_yes h))

    pub reference_refuses : (HasKey s.rows key → ⊥) → length values ≡ length s.schema.columns → SomeNamesNone (take n.0 c.relations) s.targets rest → effect.outcome ≡ Refused (NoReferencedRow None)
    reference_refuses fresh wide none =
        let held : holds table.columns ≡ false = ap holds columns_here ∙ references_missing wide none in
        ap (λ (e : Effect). e.outcome) (checked_effect ∙ (λ i. by_checks (key_no fresh i) (held i) (nat_le c.limits.rows (length table.rows))))

    pub full_refuses : (HasKey s.rows key → ⊥) → (cells : List Cell) → AreCellsOf (take n.0 c.relations) s.targets rest cells → c.limits.rows ≤ finite.len s.rows → effect.outcome ≡ Refused (TableFull None)
    full_refuses fresh cells are full =
        let held : holds table.columns ≡ true = ap holds columns_here ∙ references_held cells are in
        let over : nat_le c.limits.rows (length table.rows) ≡ true = ap (nat_le c.limits.rows) rows_here ∙ le-leb c.limits.rows (finite.len s.rows) full in
        ap (λ (e : Effect). e.outcome) (checked_effect ∙ (λ i. by_checks (key_no fresh i) (held i) (over i)))

    pub nothing_refuses : (HasKey s.rows key → ⊥) → (cells : List Cell) → AreCellsOf (take n.0 c.relations) s.targets rest cells → finite.len s.rows < c.limits.rows → effect ≡ grown
    nothing_refuses fresh cells are room =
        let held : holds table.columns ≡ true = ap holds columns_here ∙ references_held cells are in
        let under : nat_le c.limits.rows (length table.rows) ≡ false = ap (nat_le c.limits.rows) rows_here ∙ lt-leb c.limits.rows (finite.len s.rows) room in
        checked_effect ∙ (λ i. by_checks (key_no fresh i) (held i) (under i))
