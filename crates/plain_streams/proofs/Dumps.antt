-- Dumps: the block of a table is read as its rows, and loads them.
use Rattle.std.proofs.Common.{◌≡◌, ℕ, suc, ◌+◌, ◌<◌, List, [], ◌∷◌, length, map, set, get_or, Bool, true, false, Option, Some, None, inl, inr, refl, sym, ap, ◌∙◌, subst, arith}
use Rattle.std.specs.Prelude.{IfSome, Ok, nat_lt}
use Rattle.std.specs.List.{All, position_or_len, slice_get}
use Rattle.std.specs.Option.{is_some, option_and_then, option_map, option_map_or}
use Rattle.std.specs.Str.{bytes_eq}
use Rattle.std.proofs.lemmas.Bool.{cases_Bool, false≢true}
use Rattle.std.proofs.lemmas.List.{length-map, set-set}
use Rattle.std.proofs.lemmas.List.Elements.{All-head, All-tail}
use Rattle.std.proofs.lemmas.List.Folds.{find_at}
use Rattle.std.proofs.lemmas.Option.{none-some, same_Some, slice_get_within}
use Rattle.plain_tables.specs.ResolvedLaws.{rowless}
use Rattle.plain_tables.proofs.Meant.{has_name}
use Rattle.plain_tables.specs.Tables.{Table, Row}
use Rattle.plain_tables.specs.Databases.{Database, is_named, table_named}
use Rattle.plain_tables.specs.References.{IsSound, IsSoundTable, key_type, own_type, referred, takes_null, type_of}
use Rattle.plain_tables.specs.CsvReading.{FitsRow, Rows, all_of}
use Rattle.plain_tables.specs.Effects.{Changed, Dumped, checked}
use Rattle.plain_tables.specs.Resolving.{block_column, block_columns, number_of, table_reading}
use Rattle.plain_tables.specs.Doing.{dump_block, load_effect, loaded}
use Rattle.plain_tables.specs.Commands.{effect_of}
use Rattle.plain_tables.specs.declared.schema.Column.{Column}
use Rattle.plain_tables.specs.declared.schema.BaseKind.{BaseKind}
use Rattle.plain_tables.specs.declared.refusal.Refusal.TheVariants.{DumpTooLong}
use Rattle.plain_tables.specs.declared.command.Limits.{Limits}
use Rattle.plain_tables.specs.declared.command.Command.TheVariants.{Dump}
use Rattle.plain_tables.specs.declared.numbers.TableNumber.{TableNumber}
use Rattle.plain_tables.proofs.Held.{RowsFit}
use Rattle.common_lemmas.proofs.Elements.{All-at}
use Rattle.common_lemmas.proofs.Places.{set_itself}
use Rattle.mm_csv.specs.BlockReading.{block_records}
use Rattle.mm_csv.proofs.BlockLaws.{blocks-back}
use Rattle.plain_streams.specs.Dumps.{AreReadBack, IsEmptyCopy, DumpsLoadAgain, DumpsRestore}
use Rattle.plain_tables.proofs.ColumnTypes.{IsElsewhere, refers_elsewhere, table-typed}
use Rattle.plain_streams.proofs.BlockFits.{block-names, blocks-named, row-fits}
use Rattle.plain_streams.proofs.LoadRows.{SameReferred, loaded-all, named-other}

-- ---- the dump

-- a table by its name, at its number
at-number : (name : List ℕ) (tables : Database) (table : Table) → table_named name tables ≡ Some table
    → slice_get tables (number_of name tables).0 ≡ Some table
at-number name tables table found = sym (find_at (is_named name) tables) ∙ found

dumped_parts : (table : Table) (tables : Database) (shown block : List ℕ) (refuses : Bool)
    → (checked tables (record { refuses = refuses; refusal = DumpTooLong } ∷ []) (record { database = tables; outcome = Dumped table.name (dump_block table) })).outcome ≡ Dumped shown block
    → (table.name ≡ shown) × (dump_block table ≡ block) × (refuses ≡ false)
dumped_parts table tables shown block true answered = cc
dumped_parts table tables shown block false answered = (cc, cc, refl)

-- a dump answers the table's name and its block, which is within the limit
pub dumped : (limits : Limits) (tables : Database) (table : Table) (name shown block : List ℕ) → table_named name tables ≡ Some table
    → (effect_of [] limits tables (Dump name)).outcome ≡ Dumped shown block
    → (table.name ≡ shown) × (dump_block table ≡ block) × (nat_lt limits.block (length (dump_block table)) ≡ false)
dumped limits tables table name shown block found answered =
    let resolved = rw found at answered in
    dumped_parts table tables shown block (nat_lt limits.block (length (dump_block table))) (rw (at-number name tables table found) at resolved)

-- ---- the block, read again

types-alike : (tables others : Database) (o : Option (List ℕ)) (own : Option BaseKind) → IfSome o (λ name. table_named name others ≡ table_named name tables)
    → option_map_or (λ name. option_and_then key_type (table_named name others)) o own ≡ option_map_or (λ name. option_and_then key_type (table_named name tables)) o own
types-alike tables others None own same = refl
types-alike tables others (Some name) own same = ap (option_and_then key_type) same

columns-alike : (tables others : Database) (columns : List Column) → SameReferred tables others columns
    → map (block_column others) columns ≡ map (block_column tables) columns
columns-alike tables others [] same = refl
columns-alike tables others (c ∷ columns) same =
    let P : Column → Type 0 = λ d. IfSome (referred d.kind) (λ name. table_named name others ≡ table_named name tables) in
    let type : type_of others c.kind ≡ type_of tables c.kind = types-alike tables others (referred c.kind) (own_type c.kind) (All-head P c columns same) in
    let first : block_column others c ≡ block_column tables c = ap (option_map (λ k. record { name = c.name; kind = k; null = takes_null c.kind })) type in
    let rest = columns-alike tables others columns (All-tail P c columns same) in
    cc (first, rest)

some-columns : (columns : List Column) → is_some (option_and_then (λ c. own_type c.kind) (slice_get columns 0)) ≡ true → 0 < length columns
some-columns [] keyed = absurd (false≢true keyed)
some-columns (c ∷ columns) keyed = omega arith

block-read : (limits : Limits) (tables : Database) (n : ℕ) (table : Table) (others : Database) (copy : Table) → IsSound limits tables
    → slice_get tables n ≡ Some table → AreReadBack table → copy.columns ≡ table.columns → SameReferred tables others table.columns
    → table_reading others copy (block_records (dump_block table)) ≡ Rows table.rows
block-read limits tables n table others copy sound there read shaped same =
    let (blocks, of) = table-typed limits tables n table sound there in
    let of' : block_columns others copy ≡ Some blocks =
    ap (λ cs. all_of (map (block_column others) cs)) shaped ∙ ap all_of (columns-alike tables others table.columns same) ∙ of in
    let table_sound = All-at (IsSoundTable limits) tables n table sound.each there in
    let fits : RowsFit tables table = All-at (RowsFit tables) tables n table sound.rows_fit there in
    let names = block-names tables table.columns blocks of in
    let many : length blocks ≡ length table.columns = sym (length-map blocks (λ b. b.name)) ∙ ap length names ∙ length-map table.columns (λ c. c.name) in
    let some : 0 < length blocks = rw many (some-columns table.columns table_sound.keyed) in
    let each : All (FitsRow blocks) table.rows =
    λ k row within. row-fits limits tables table.columns blocks (get_or table.rows k row) sound of (fits k row within) (read k row within) in
    let back = blocks-back blocks table.rows some (blocks-named tables table.columns blocks of table_sound.columns_named) each in
    rw of' (rw names at back)

-- ---- the load

still-same : (tables others : Database) (table copy new : Table) (n : ℕ) → slice_get others n ≡ Some copy → copy.name ≡ table.name → new.name ≡ table.name
    → (o : Option (List ℕ)) → IfSome o (IsElsewhere tables table) → IfSome o (λ name. table_named name others ≡ table_named name tables)
    → IfSome o (λ name. table_named name (set others n new) ≡ table_named name tables)
still-same tables others table copy new n there named named' None elsewhere same = tt
still-same tables others table copy new n there named named' (Some name) elsewhere same =
    named-other name others n copy new there (rw named elsewhere.2) (rw named' elsewhere.2) ∙ same

pub dumps_load_again : DumpsLoadAgain
dumps_load_again limits tables table others copy name shown block sound found read ready answered =
    let (shown_is, block_is, short) = dumped limits tables table name shown block found answered in
    let number : ℕ = (number_of name tables).0 in
    let there = at-number name tables table found in
    let named : table_named shown others ≡ Some copy = rw (← shown_is) ready.named in
    let n : TableNumber = number_of shown others in
    let at : slice_get others n.0 ≡ Some copy = at-number shown others copy named in
    let called : copy.name ≡ table.name = has_name shown others copy named ∙ sym shown_is in
    let elsewhere = refers_elsewhere limits tables number table sound there in
    let same : (rows : List Row) → SameReferred tables (set others n.0 (record copy { rows = rows })) table.columns =
    λ rows k c within. still-same tables others table copy (record copy { rows = rows }) n.0 at called called
    (referred (get_or table.columns k c).kind) (elsewhere k c within) (ready.referred k c within) in
    let reading : table_reading others copy (block_records block) ≡ Rows table.rows =
    rw (← block_is) (block-read limits tables number table others copy sound there read ready.columns ready.referred) in
    let table_sound = All-at (IsSoundTable limits) tables number table sound.each there in
    let fits : RowsFit tables table = All-at (RowsFit tables) tables number table sound.rows_fit there in
    let start : set others n.0 (record copy { rows = [] }) ≡ others =
    ap (λ rs. set others n.0 (record copy { rows = rs })) (sym ready.empty) ∙ set_itself others n.0 copy at in
    let all = loaded-all limits tables others n table.columns copy (slice_get_within others n.0 copy at) ready.columns same [] table.rows 1
    table_sound.rows_rise table_sound.few_rows fits in
    let done : loaded limits others n 1 table.rows ≡ Ok (set others n.0 (record copy { rows = table.rows })) =
    subst (λ d. loaded limits d n 1 table.rows ≡ Ok (set others n.0 (record copy { rows = table.rows }))) start all in
    rw (named, reading) (ap (load_effect others table.rows) done)

-- ---- the table without its rows

-- a table of the same name in the place of the one of a name
named-changed : (name : List ℕ) (tables : Database) (old new : Table) → table_named name tables ≡ Some old → new.name ≡ old.name
    → (table_named name (set tables (position_or_len (is_named name) tables) new) ≡ Some new)
    × (position_or_len (is_named name) (set tables (position_or_len (is_named name) tables) new) ≡ position_or_len (is_named name) tables)
named-changed name [] old new found same = absurd (none-some old found)
named-changed name (t ∷ tables) old new found same = elim (cases_Bool (is_named name t)) [
  | inl e ↦
      let here : t ≡ old = same_Some t old (rw e at found) in
      let named : is_named name new ≡ true = subst (λ (n : List ℕ). bytes_eq n name ≡ true) (sym (same ∙ ap (λ u. u.name) (sym here))) e in
      rw (e, named) (refl, refl)
  | inr f ↦
      let n : ℕ = position_or_len (is_named name) tables in
      let more : 1 + n ≡ suc n = omega arith in
      let (rest, place) = named-changed name tables old new (rw f at found) same in
      rw (f, more, f) (rest, rw place more)
]

pub dumps_restore : DumpsRestore
dumps_restore limits tables table name shown block sound found read answered =
    let (shown_is, block_is, short) = dumped limits tables table name shown block found answered in
    let called : table.name ≡ name = has_name name tables table found in
    let n : TableNumber = number_of name tables in
    let there = at-number name tables table found in
    let others : Database = set tables n.0 (rowless table) in
    let (named, place) = named-changed name tables table (rowless table) found refl in
    let elsewhere = refers_elsewhere limits tables n.0 table sound there in
    let ready : IsEmptyCopy tables table others (rowless table) = record {
      named = subst (λ (s : List ℕ). table_named s others ≡ Some (rowless table)) (sym called) named;
      columns = refl;
      empty = refl;
      referred =
          λ k c within. still-same tables tables table table (rowless table) n.0 there refl refl
          (referred (get_or table.columns k c).kind) (elsewhere k c within) (always (referred (get_or table.columns k c).kind));
    } in
    let loads = dumps_load_again limits tables table others (rowless table) name shown block sound found read ready answered in
    let number : (number_of shown others).0 ≡ n.0 = ap (λ s. (number_of s others).0) (sym shown_is ∙ called) ∙ place in
    let whole : set others (number_of shown others).0 table ≡ tables =
    ap (λ m. set others m table) number ∙ set-set tables n.0 (rowless table) table ∙ set_itself tables n.0 table there in
    loads ∙ ap (λ d. record { database = d; outcome = Changed (length table.rows) }) whole
  where
    always : (o : Option (List ℕ)) → IfSome o (λ s. table_named s tables ≡ table_named s tables)
    always None = tt
    always (Some s) = refl
