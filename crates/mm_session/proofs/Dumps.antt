-- The rows of a relation, as the records of its table's block.
use Rattle.std.proofs.Common.{◌≡◌, false, ◌⊎◌, inl, inr, Result, Ok, Err, ℕ, ◌+◌, ◌-◌, ◌<◌, ◌≤◌, List, [], ◌∷◌, ◌++◌, Option, None, Some, IsSome, ap, ◌∙◌, sym, subst, arith, append_assoc, length, take, drop, map}
use Rattle.std.specs.Prelude.{slice_get, IfErr, IsErrAnd, nat_lt}
use Rattle.std.specs.Option.{option_map, option_map_or}
use Rattle.std.specs.FinMap as finite
use Rattle.std.specs.Io.KnownBytes.{Appends, Keeps}
use Rattle.std.specs.List.{flat_map}
use Rattle.std.proofs.lemmas.Bool.Decides.{nat_tests}
use Rattle.std.proofs.lemmas.Option.{same_Some}
use Rattle.std.proofs.KnownBytes.{Appends-kept, Appends-nil, Appends-trans}
use Rattle.std.proofs.lemmas.List.{flat_map_more, length-append, map_push}
use Rattle.std.proofs.Math.Seq.{take-append_seam, drop-append_seam}
use Rattle.std.proofs.lemmas.Grind.{flat_map-append}
use Rattle.std.proofs.lemmas.List.FromFn.{length-map-range_with_len}
use Rattle.part_raw.proofs.Tuples.{held_tuple}
use Rattle.part_raw.specs.declared.tuple_ref.TupleRef.{TupleRef}
use Rattle.plain_tables.specs.Csv.{record_text, row_record}
use Rattle.plain_tables.specs.AnswerText.{answer_text, text_line}
use Rattle.plain_tables.specs.Databases.{Database}
use Rattle.plain_tables.specs.Doing.{dump, dump_block}
use Rattle.plain_tables.specs.Spelling.{canonical_spelling}
use Rattle.plain_tables.specs.Tables.{Table, Row}
use Rattle.plain_tables.specs.declared.command.Command.TheVariants as command
use Rattle.plain_tables.specs.declared.command.Limits.{Limits}
use Rattle.plain_tables.specs.declared.numbers.TableNumber.{TableNumber}
use Rattle.mm_relation.specs.State.{RelationState, linked_keys}
use Rattle.mm_relation.specs.Reading.{row_value}
use Rattle.mm_catalog.specs.State.{CatalogState}
use Rattle.mm_catalog.specs.Seen.{database_of, table_of, values_of, row_values, or_null}
use Rattle.mm_catalog.specs.Consistent.{IsConsistent}
use Rattle.mm_catalog.specs.Picked.{seen_values}
use Rattle.mm_catalog.proofs.Among.{there_at, named_at, table_at}
use Rattle.plain_tables.specs.declared.refusal.Refusal.{Refusal}
use Rattle.plain_tables.specs.declared.refusal.Refusal.TheVariants as refusal
use Rattle.mm_session.specs.Dumps.{IsWithin, IsPast, GoesOnWithin, GoesPast, IsGivenUp}

-- a row that is held has a value in each column
pub seen_long : (c : CatalogState) (s : RelationState) (r : TupleRef) → IsSome (finite.get s.rows r) → length (seen_values c s r) ≡ length s.schema.columns
unfolding values_of row_values
seen_long c s r held =
    let found = held_tuple s.rows r held in
    ap (λ o. length (option_map_or (row_values (linked_keys s.targets c.relations) (length s.schema.columns)) o [])) found.1
    ∙ length-map-range_with_len (λ column. or_null (row_value (linked_keys s.targets c.relations) column found.0)) 0 (length s.schema.columns)

-- a table has the columns of its relation
pub columns_same : (c : CatalogState) → IsConsistent c → (n : ℕ) (table : Table) → slice_get (database_of c) n ≡ Some table
    → (s : RelationState) → slice_get c.relations n ≡ Some s → table.columns ≡ s.schema.columns
unfolding table_of
columns_same c ok n table at s there =
    let name = named_at c ok n (there_at c ok n table at) in
    ap (λ (t : Table). t.columns) (table_at c ok n name.0 s table name.1 there at)

-- one record more
pub records_more : (f : TupleRef → Row) (first old new : Option (List ℕ)) (rs : List TupleRef) (r : TupleRef) (row : Row)
    → Appends first old (flat_map row_record (map f rs)) → Appends old new (row_record row) → row ≡ f r
    → Appends first new (flat_map row_record (map f (rs ++ r ∷ [])))
records_more f first old new rs r row before more is =
    subst (Appends first new)
    (ap (λ v. flat_map row_record (map f rs) ++ row_record v) is ∙ flat_map_more row_record [] (map f rs) (f r) ∙ ap (flat_map row_record) (sym (map_push f rs r)))
    (Appends-trans first old new (flat_map row_record (map f rs)) (row_record row) before more)

-- the names at the front of a block that is behind a page
pub names_begin : (page : List ℕ) (start first : Option (List ℕ)) (names : List (List ℕ)) → Keeps (Some page) start → Appends start first (record_text names)
    → Appends (Some page) first (record_text names)
names_begin page start first names fresh begun =
    Appends-trans (Some page) start first [] (record_text names) (Appends-kept (Some page) (Some page) start [] (Appends-nil (Some page)) fresh) begun

-- a block that was written behind a page: the names, and then the records
pub block_whole : (page : List ℕ) (start first last : Option (List ℕ)) (names : List (List ℕ)) (records whole : List ℕ) → Keeps (Some page) start
    → Appends start first (record_text names) → Appends first last records → Keeps last (Some whole) → whole ≡ page ++ (record_text names ++ records)
block_whole page start first last names records whole fresh begun more kept =
    Appends-kept (Some page) last (Some whole) (record_text names ++ records)
    (Appends-trans (Some page) first last (record_text names) records (names_begin page start first names fresh begun) more) kept

-- where all is within the limit of a page and a block, the block is within its own
pub within_kept : (limit : ℕ) (page block : List ℕ) (bytes : Option (List ℕ)) (whole : List ℕ) → IsWithin (length page + limit) bytes → Keeps bytes (Some whole)
    → whole ≡ page ++ block → length block ≤ limit
within_kept limit page block None whole within kept made = absurd within
within_kept limit page block (Some front) whole within kept made = omega (arith, ap length kept, within, ap length made, length-append page block)

-- where a front is past the limit, so is the whole block
pub past_front : (limit : ℕ) (page : List ℕ) (bytes : Option (List ℕ)) (front rest : List ℕ) → Appends (Some page) bytes front → IsPast (length page + limit) bytes
    → limit < length (front ++ rest)
past_front limit page None front rest made past = absurd made
past_front limit page (Some bytes) front rest made past = omega (arith, length-append front rest, length-append page front, ap length made, past)

-- a block that was given up is past the limit as a whole
pub past_whole : (limit : ℕ) (page : List ℕ) (first last : Option (List ℕ)) (names : List ℕ) (rows : List Row) → Appends (Some page) first names
    → IsGivenUp (length page + limit) first last rows → limit < length (names ++ flat_map row_record rows)
past_whole limit page first last names rows begun given =
    let front = flat_map row_record given.front in
    let passing = row_record given.last in
    let made = Appends-trans (Some page) first last names (front ++ passing) begun (Appends-trans first given.kept last front passing given.within.0 given.past.0) in
    let long = past_front limit page last (names ++ (front ++ passing)) (flat_map row_record given.rest) made given.past.1 in
    let same : (names ++ (front ++ passing)) ++ flat_map row_record given.rest ≡ names ++ flat_map row_record rows =
    append_assoc names (front ++ passing) (flat_map row_record given.rest)
    ∙ ap (λ bytes. names ++ bytes)
    (append_assoc front passing (flat_map row_record given.rest) ∙ sym (flat_map-append row_record given.front (given.last ∷ given.rest)) ∙ ap (flat_map row_record) (sym given.split)) in
    subst (λ bytes. limit < length bytes) same long

-- A line that says how long the block is was put in front of it.
pub line_before : (line_of : ℕ → List ℕ) (start : ℕ) (line whole new : List ℕ) → line ≡ line_of (length whole - start)
    → new ≡ take start whole ++ (line ++ drop start whole) → (page block : List ℕ) → whole ≡ page ++ block → length page ≡ start
    → new ≡ page ++ (line_of (length block) ++ block)
line_before line_of start line whole new says made page block is at =
    let size : length whole - start ≡ length block = omega (arith, ap length is, length-append page block, at) in
    let front : take start whole ≡ page = ap (λ n. take n whole) (sym at) ∙ ap (take (length page)) is ∙ take-append_seam page block in
    let back : drop start whole ≡ block = ap (λ n. drop n whole) (sym at) ∙ ap (drop (length page)) is ∙ drop-append_seam page block in
    made ∙ ap (λ p. p ++ (line ++ drop start whole)) front ∙ ap (λ b. page ++ (line ++ b)) back ∙ ap (λ l. page ++ (l ++ block)) (says ∙ ap line_of size)

-- the answer to a dump of a table whose block is within the limit
pub dump_answered : (limits : Limits) (tables : Database) (n : TableNumber) (t : Table) (name page new : List ℕ) → slice_get tables n.0 ≡ Some t
    → option_map (λ (t : Table). t.name) (slice_get tables n.0) ≡ Some name → length (dump_block t) ≤ limits.block
    → new ≡ page ++ (text_line (canonical_spelling (command.Load name (length (dump_block t)))) ++ dump_block t)
    → new ≡ page ++ answer_text (dump limits tables n).outcome
dump_answered limits tables n t name page new there named within made =
    let same : t.name ≡ name = same_Some t.name name (rw there at named) in
    let passes : nat_lt limits.block (length (dump_block t)) ≡ false = grind (arith, nat_tests) in
    rw (there, passes) (made ∙ ap (λ m. page ++ (text_line (canonical_spelling (command.Load m (length (dump_block t)))) ++ dump_block t)) (sym same))

-- a refusal at the row behind a front that was written
pub refused_at : (limit : ℕ) (old kept new : Option (List ℕ)) (rows front rest : List Row) (last : Row) (e : Refusal) → rows ≡ front ++ last ∷ rest
    → GoesOnWithin limit old kept (flat_map row_record front) → (e ≡ refusal.NoMemory) ⊎ ((e ≡ refusal.DumpTooLong) × GoesPast limit kept new (row_record last))
    → (e ≡ refusal.NoMemory) ⊎ ((e ≡ refusal.DumpTooLong) × IsGivenUp limit old new rows)
refused_at limit old kept new rows front rest last e split within why =
    elim why [
      | inl none ↦ inl none
      | inr past ↦ inr (past.0, record { front = front; last = last; rest = rest; split = split; kept = kept; within = within; past = past.1 })
    ]

-- an error that is handed on
pub handed_on : {A : Type 0} (P : Refusal → Type 0) (result : Result A Refusal) (e : Refusal) → IsErrAnd result (λ r. r ≡ e) → P e → IfErr result P
handed_on P (Ok x) e is holds = tt
handed_on P (Err r) e is holds = subst P (sym is) holds
