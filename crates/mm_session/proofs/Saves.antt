-- What the pieces of a dump are made of.
use Rattle.std.proofs.Common.{◌≡◌, ◌∙◌, ℕ, zero, suc, ◌+◌, ◌<◌, ◌≤◌, Bool, true, false, ◌&&◌, List, [], ◌∷◌, ◌++◌, Option, None, Some, refl, sym, ap, subst, arith, length, map, take, get_or, filter, append_assoc, append-nil}
use Rattle.std.specs.Prelude.{IfErr, IsErrAnd, IsSomeAnd, Result, Ok, Err, if◌then◌else◌, slice_get}
use Rattle.std.specs.Io.KnownBytes.{Appends, Keeps}
use Rattle.std.specs.List.{All, flat_map, sum_by, zip}
use Rattle.std.proofs.KnownBytes.{Appends-trans}
use Rattle.std.proofs.Math.Seq.{take-append_seam}
use Rattle.std.proofs.lemmas.Grind.{flat_map-append}
use Rattle.std.proofs.lemmas.List.{length-map, length-take, map-append, take-map, take_all, take_more}
use Rattle.std.proofs.lemmas.List.Concat.{flat_map-cons, length-flat_map}
use Rattle.std.proofs.lemmas.List.Elements.{All-append, All-cons, All-head, All-nil, All-tail, filter_agree}
use Rattle.std.proofs.lemmas.List.Sums.{sum_by-append, sum_by-cons, sum_by-take-le}
use Rattle.std.proofs.lemmas.Option.{get_or_from_slice_get, none-some, same_Some, slice_get-get_or, slice_get_within}
use Rattle.part_raw.specs.declared.tuple_ref.TupleRef.{TupleRef}
use Rattle.plain_tables.specs.AnswerText.{text_line}
use Rattle.plain_tables.specs.Csv.{record_text, row_record}
use Rattle.plain_tables.specs.Effects.{column_names}
use Rattle.plain_tables.specs.Queries.{stands, value_at}
use Rattle.plain_tables.specs.Spelling.{canonical_spelling}
use Rattle.plain_tables.specs.Tables.{Table, Row}
use Rattle.plain_tables.specs.declared.command.Command.{Command}
use Rattle.plain_tables.specs.declared.command.Command.TheVariants as command
use Rattle.plain_tables.specs.declared.condition.Op.TheVariants as op
use Rattle.plain_tables.specs.declared.schema.Column.{Column}
use Rattle.plain_tables.specs.declared.schema.Schema.{Schema}
use Rattle.plain_tables.specs.declared.value.Value.{Value}
use Rattle.mm_relation.specs.State.{RelationState, tree_list}
use Rattle.mm_catalog.specs.Picked.{seen_values}
use Rattle.mm_catalog.specs.Seen.{table_of}
use Rattle.mm_catalog.specs.State.{CatalogState}
use Rattle.mm_catalog.proofs.Lists.{get-zip, length-zip}
use Rattle.temp_list.specs.Reading.{passing, row_passes, value_in}
use Rattle.mm_session.specs.Listing.{command_lines, index_commands}
use Rattle.mm_session.specs.SavedRows.{HaveRoom, IsFilled, IsStopped, tests_behind}
use Rattle.mm_session.specs.Saving.{HasLineFeed, IsUnspellable, declaration, emptying, emptying_at, emptyings, index_declarations, is_empty_text, key_name, rows_behind, takes_null}
use Rattle.mm_session.specs.declared.saving.SaveFault.{SaveFault}
use Rattle.mm_session.specs.declared.saving.SaveFault.TheVariants as fault
use Rattle.mm_session.proofs.Listings.{commands_seen}

abbrev line_of : Command → List ℕ
line_of c = text_line (canonical_spelling c)

-- the lines of commands, and of more
pub lines_more : (front rest : List Command) → command_lines (front ++ rest) ≡ command_lines front ++ command_lines rest
lines_more front rest = flat_map-append line_of front rest

-- an element more of a list
pub one_more : {X : Type 0} (xs : List X) (n : ℕ) (x : X) → slice_get xs n ≡ Some x → take (n + 1) xs ≡ take n xs ++ x ∷ []
one_more xs n x there = take_more xs n x (slice_get_within xs n x there) ∙ ap (λ y. take n xs ++ y ∷ []) (get_or_from_slice_get xs n x x there)

-- ---- tables

-- one table more is declared
pub declared_more : (tables : List Table) (n : ℕ) (t : Table) → slice_get tables n ≡ Some t
    → command_lines (map declaration (take (n + 1) tables)) ≡ command_lines (map declaration (take n tables)) ++ command_lines (declaration t ∷ [])
declared_more tables n t there =
    ap (λ ts. command_lines (map declaration ts)) (one_more tables n t there)
    ∙ ap command_lines (map-append declaration (take n tables) (t ∷ []))
    ∙ lines_more (map declaration (take n tables)) (declaration t ∷ [])

-- and its rows are counted
pub counted_more : (tables : List Table) (n : ℕ) (t : Table) → slice_get tables n ≡ Some t
    → sum_by (λ (t : Table). length t.rows) (take (n + 1) tables) ≡ sum_by (λ (t : Table). length t.rows) (take n tables) + length t.rows
counted_more tables n t there =
    let count : Table → ℕ = λ t. length t.rows in
    let one = sum_by-cons count t [] in
    ap (sum_by count) (one_more tables n t there) ∙ sum_by-append count (take n tables) (t ∷ []) ∙ ap (λ m. sum_by count (take n tables) + m) (one ∙ zero_behind (count t))
  where
    zero_behind : (n : ℕ) → n + 0 ≡ n
    zero_behind n = omega arith

-- the indexes of a relation are those of its table
pub indexes_declared : (relations : List RelationState) (name : List ℕ) (s : RelationState)
    → command_lines (index_commands name s.schema.columns s.declared) ≡ command_lines (index_declarations (table_of relations name s))
unfolding table_of
indexes_declared relations name s = ap (flat_map line_of) (sym (commands_seen name s.schema.columns s.declared))

-- a table is spelled, and a line feed behind it
pub table_declared : (relations : List RelationState) (name called : List ℕ) (s : RelationState) (schema : Schema) (start printed pushed : List ℕ) → schema ≡ s.schema → called ≡ name
    → printed ≡ start ++ canonical_spelling (command.Table called schema) → pushed ≡ printed ++ 10 ∷ [] → (t : Table) → t ≡ table_of relations name s
    → pushed ≡ start ++ command_lines (declaration t ∷ [])
unfolding table_of
table_declared relations name called s schema start printed pushed same is spelled ended t at =
    ended ∙ ap (λ x. x ++ 10 ∷ []) spelled ∙ append_assoc start (canonical_spelling (command.Table called schema)) (10 ∷ [])
    ∙ ap (λ (h : Schema). start ++ line_of (command.Table called h)) same ∙ ap (λ m. start ++ line_of (command.Table m s.schema)) is
    ∙ ap (λ x. start ++ x) (sym (append-nil (line_of (command.Table name s.schema)))) ∙ ap (λ (u : Table). start ++ command_lines (declaration u ∷ [])) (sym at)

-- the parts of the last line, one behind the other
pub last_made : (start x n y m z : List ℕ) → ((((start ++ x) ++ n) ++ y) ++ m) ++ (z ++ 10 ∷ []) ≡ start ++ text_line (x ++ (n ++ (y ++ (m ++ z))))
last_made start x n y m z = simp append_assoc refl

-- ---- rows behind one

all_pass : (xs : List TupleRef) → filter (λ r. true) xs ≡ xs
all_pass [] = refl
all_pass (x ∷ xs) = ap (λ ys. x ∷ ys) (all_pass xs)

and_true : (b : Bool) → (b && true) ≡ b
and_true true = refl
and_true false = refl

-- those that pass the tests are the rows behind one
pub tests_pass : (c : CatalogState) (s : RelationState) (after : Option TupleRef) → passing c.relations s (tests_behind c s after) ≡ rows_behind c s after
tests_pass c s None = all_pass (tree_list s.by_key)
tests_pass c s (Some r) =
    filter_agree (row_passes c.relations s (tests_behind c s (Some r))) (λ q. stands op.Gt (value_in c.relations s 0 q) (value_in c.relations s 0 r))
    (λ q. and_true (stands op.Gt (value_in c.relations s 0 q) (value_in c.relations s 0 r))) (tree_list s.by_key)

-- ---- empty texts

-- one value more of a row
pub emptied_more : (table name : List ℕ) (key : Value) (columns : List Column) (row : Row) (n : ℕ) (column : Column) (v : Value) → slice_get columns n ≡ Some column → slice_get row n ≡ Some v
    → flat_map (emptying_at table name key) (take (n + 1) (zip columns row)) ≡ flat_map (emptying_at table name key) (take n (zip columns row)) ++ emptying_at table name key (column, v)
emptied_more table name key columns row n column v at there =
    let all = zip columns row in
    let f = emptying_at table name key in
    ap (flat_map f) (one_more all n (column, v) (get-zip columns row n column v at there))
    ∙ flat_map-append f (take n all) ((column, v) ∷ [])
    ∙ ap (λ cs. flat_map f (take n all) ++ cs) (flat_map-cons f (column, v) [] ∙ append-nil (f (column, v)))

-- whether a value calls for an update
pub emptied_not : (table name : List ℕ) (key : Value) (column : Column) (v : Value) → (takes_null column.kind && is_empty_text v) ≡ false → emptying_at table name key (column, v) ≡ []
emptied_not table name key column v not = ap (λ b. if b then emptying table column.name name key ∷ [] else []) not

pub emptied_so : (table name : List ℕ) (key : Value) (column : Column) (v : Value) → (takes_null column.kind && is_empty_text v) ≡ true
    → emptying_at table name key (column, v) ≡ emptying table column.name name key ∷ []
emptied_so table name key column v so = ap (λ b. if b then emptying table column.name name key ∷ [] else []) so

-- ---- room

-- the next row has no room
pub room_full : (limit end n : ℕ) (old mid new : Option (List ℕ)) (rows : List Row) (row : Row) (front : List ℕ)
    → Appends old mid (flat_map row_record (take n rows)) → ((now : List ℕ) → mid ≡ Some now → end ≡ length now) → (0 < n → end ≤ limit)
    → Appends mid new (row_record row) → slice_get rows n ≡ Some row → ((now : List ℕ) → new ≡ Some now → limit < length now)
    → old ≡ Some front → IsSomeAnd new (λ whole. HaveRoom limit front whole rows n end)
room_full limit end n None mid new rows row front made ends within more there past is = absurd (none-some front is)
room_full limit end n (Some a) None new rows row front made ends within more there past is = absurd made
room_full limit end n (Some a) (Some m) None rows row front made ends within more there past is = absurd more
room_full limit end n (Some a) (Some m) (Some whole) rows row front made ends within more there past is =
    let records = flat_map row_record (take n rows) in
    let mid : m ≡ front ++ records = made ∙ ap (λ x. x ++ records) (same_Some a front is) in
    let longer : front ++ flat_map row_record (take (n + 1) rows) ≡ whole =
    ap (λ rs. front ++ flat_map row_record rs) (one_more rows n row there)
    ∙ ap (λ t. front ++ t) (flat_map-append row_record (take n rows) (row ∷ []) ∙ ap (λ t. records ++ t) (flat_map-cons row_record row [] ∙ append-nil (row_record row)))
    ∙ sym (append_assoc front records (row_record row)) ∙ ap (λ t. t ++ row_record row) (sym mid) ∙ sym more in
    let few = slice_get_within rows n row there in
    record {
      few = omega (arith, few);
      made = ap (λ k. take k whole) (ends m refl) ∙ ap (take (length m)) more ∙ take-append_seam m (row_record row) ∙ mid;
      within = within;
      next = λ l. subst (λ t. limit < length t) (sym longer) (past whole refl);
    }

take_whole : {X : Type 0} (xs : List X) → take (length xs) xs ≡ xs
take_whole [] = refl
take_whole (x ∷ xs) = ap (λ ys. x ∷ ys) (take_whole xs)

-- all rows have room
pub room_left : (limit end n : ℕ) (old new : Option (List ℕ)) (rows : List Row) (front : List ℕ) → Appends old new (flat_map row_record (take n rows)) → n ≡ length rows
    → ((now : List ℕ) → new ≡ Some now → end ≡ length now) → (0 < n → end ≤ limit) → old ≡ Some front
    → IsSomeAnd new (λ whole. HaveRoom limit front whole rows n end)
room_left limit end n None new rows front made all ends within is = absurd (none-some front is)
room_left limit end n (Some a) None rows front made all ends within is = absurd made
room_left limit end n (Some a) (Some whole) rows front made all ends within is =
    record {
      few = omega (arith, all);
      made = ap (λ k. take k whole) (ends whole refl) ∙ take_whole whole ∙ made ∙ ap (λ x. x ++ flat_map row_record (take n rows)) (same_Some a front is);
      within = within;
      next = λ l. absurd (omega (arith, l, all));
    }

-- a step of the records, where the next has room
pub records_step : (n : ℕ) (old mid new : Option (List ℕ)) (rows : List Row) (row : Row) → Appends old mid (flat_map row_record (take n rows)) → Appends mid new (row_record row)
    → slice_get rows n ≡ Some row → Appends old new (flat_map row_record (take (n + 1) rows))
records_step n old mid new rows row made more there =
    let records = flat_map row_record (take n rows) in
    let longer : records ++ row_record row ≡ flat_map row_record (take (n + 1) rows) =
    ap (λ t. records ++ t) (sym (append-nil (row_record row)) ∙ sym (flat_map-cons row_record row [])) ∙ sym (flat_map-append row_record (take n rows) (row ∷ [])) ∙ ap (flat_map row_record) (sym (one_more rows n row there)) in
    subst (Appends old new) longer (Appends-trans old mid new records (row_record row) made more)

-- ---- a block

-- a block of which the front is kept that has room
pub filled : (c : CatalogState) (s : RelationState) (refs : List TupleRef) (first last : Option (List ℕ)) (names : List (List ℕ)) (whole : List ℕ) (count end : ℕ)
    → Appends (Some []) first (record_text names) → names ≡ column_names s.schema.columns
    → ((front : List ℕ) → first ≡ Some front → IsSomeAnd last (λ all. HaveRoom c.limits.block front all (map (seen_values c s) refs) count end))
    → Keeps last (Some whole) → IsFilled c s refs (take end whole) count
filled c s refs None last names whole count end begun same room kept = absurd begun
filled c s refs (Some front) None names whole count end begun same room kept = absurd (room front refl)
filled c s refs (Some front) (Some all) names whole count end begun same room kept =
    let fits = room front refl in
    let columns = record_text (column_names s.schema.columns) in
    let rows = map (seen_values c s) refs in
    let named : front ≡ columns = begun ∙ ap record_text same in
    let long = length-map refs (seen_values c s) in
    let few = fits.few in
    record {
      few = omega (arith, few, long);
      made = ap (take end) kept ∙ fits.made ∙ ap (λ t. t ++ flat_map row_record (take count rows)) named
          ∙ ap (λ rs. columns ++ flat_map row_record rs) (take-map (seen_values c s) count refs);
      within = λ some. short end whole c.limits.block (fits.within some);
      next = λ l.
          subst (λ t. c.limits.block < length t)
          (ap (λ t. t ++ flat_map row_record (take (count + 1) rows)) named ∙ ap (λ rs. columns ++ flat_map row_record rs) (take-map (seen_values c s) (count + 1) refs))
          (fits.next (omega (arith, l, long)));
    }
  where
    short : (end : ℕ) (whole : List ℕ) (limit : ℕ) → end ≤ limit → length (take end whole) ≤ limit
    short end whole limit within = let cut = length-take end whole in omega (arith, within, cut)

-- the front of a front
pub take_front : {X : Type 0} (k m : ℕ) (xs : List X) → k ≤ m → take k (take m xs) ≡ take k xs
take_front zero m xs le = refl
take_front (suc k) zero xs le = absurd (omega (arith, le))
take_front (suc k) (suc m) [] le = refl
take_front (suc k) (suc m) (x ∷ xs) le = ap (λ ys. x ∷ ys) (take_front k m xs (omega (arith, le)))

-- ---- spelled

-- commands, and more, of which each calls for it
pub spelled_more : (front more : List Command) (P : Type 0) → (0 < length front → P) → (0 < length more → P) → 0 < length (front ++ more) → P
spelled_more [] more P first second some = second some
spelled_more (x ∷ front) more P first second some = first (omega arith)

-- the commands of an element are among those of all
pub some_among : {X : Type 0} (f : X → List Command) (xs : List X) (n : ℕ) (x : X) → slice_get xs n ≡ Some x → 0 < length (f x) → 0 < length (flat_map f xs)
some_among f xs n x there some =
    let whole = length-flat_map f xs in
    let part = sum_by-take-le (λ y. length (f y)) xs (n + 1) in
    let cut = ap (sum_by (λ y. length (f y))) (one_more xs n x there) ∙ sum_by-append (λ y. length (f y)) (take n xs) (x ∷ []) in
    let one = sum_by-cons (λ y. length (f y)) x [] in
    omega (arith, whole, part, cut, one, some)

-- why updates stop
pub stopped_so : (P Q : Type 0) (why : SaveFault) → (P → Q) → IsStopped P why → IsStopped Q why
stopped_so P Q (fault.NoMemory refused) so stopped = tt
stopped_so P Q fault.NoSuchPlace so stopped = absurd stopped
stopped_so P Q fault.RowTooLong so stopped = absurd stopped
stopped_so P Q fault.Unspellable so stopped = so stopped

-- ---- the updates of a row

-- the name and the key that its updates have
pub key_named : (columns : List Column) (d : Column) (name : List ℕ) → 0 < length columns → name ≡ (get_or columns 0 d).name → name ≡ key_name columns
key_named [] d name some is = absurd (omega (arith, some))
key_named (column ∷ columns) d name some is = is

module _ (table name : List ℕ) (key : Value) (columns : List Column) (row : Row) (named : name ≡ key_name columns) (keyed : key ≡ value_at row 0) where
  abbrev all : List (Column × Value)
  all = zip columns row

  row_named : flat_map (emptying_at table name key) all ≡ emptyings table columns row
  row_named = ap (λ m. flat_map (emptying_at table m key) all) named ∙ ap (λ (k : Value). flat_map (emptying_at table (key_name columns) k) all) keyed

  -- all of them
  pub row_done : (n : ℕ) → length columns ≡ length row → length columns ≤ n → flat_map (emptying_at table name key) (take n all) ≡ emptyings table columns row
  row_done n even past =
      let long = length-zip columns row even in
      ap (flat_map (emptying_at table name key)) (take_all n all (omega (arith, long, even, past))) ∙ row_named

  -- they can be spelled
  pub row_spelled : (n : ℕ) → length columns ≡ length row → length columns ≤ n → (0 < length (flat_map (emptying_at table name key) (take n all)) → ¬ (HasLineFeed key))
      → ¬ (IsUnspellable table columns row)
  row_spelled n even past said = λ is.
      said (subst (λ (cs : List Command). 0 < length cs) (sym (row_done n even past)) is.1) (subst HasLineFeed (sym keyed) is.0)

  -- one of them cannot
  pub row_stopped : (n : ℕ) (column : Column) (v : Value) → slice_get columns n ≡ Some column → slice_get row n ≡ Some v
      → HasLineFeed key × (0 < length (emptying_at table name key (column, v))) → IsUnspellable table columns row
  row_stopped n column v at there is = (
    subst HasLineFeed keyed is.0,
    subst (λ (cs : List Command). 0 < length cs) row_named (some_among (emptying_at table name key) all n (column, v) (get-zip columns row n column v at there) is.1),
  )

-- no update where no column takes nulls
no_emptyings : (table name : List ℕ) (key : Value) (columns : List Column) (row : Row) → All (λ (column : Column). takes_null column.kind ≡ false) columns
    → flat_map (emptying_at table name key) (zip columns row) ≡ []
no_emptyings table name key [] row none = refl
no_emptyings table name key (column ∷ columns) [] none = refl
no_emptyings table name key (column ∷ columns) (v ∷ row) none =
    let P : Column → Type 0 = λ c. takes_null c.kind ≡ false in
    flat_map-cons (emptying_at table name key) (column, v) (zip columns row)
    ∙ ap (λ cs. cs ++ flat_map (emptying_at table name key) (zip columns row)) (emptied_not table name key column v (ap (λ b. b && is_empty_text v) (All-head P column columns none)))
    ∙ no_emptyings table name key columns row (All-tail P column columns none)

pub no_updates : (table : List ℕ) (columns : List Column) (rows : List Row) → All (λ (column : Column). takes_null column.kind ≡ false) columns → flat_map (emptyings table columns) rows ≡ []
no_updates table columns [] none = refl
no_updates table columns (row ∷ rows) none =
    flat_map-cons (emptyings table columns) row rows
    ∙ ap (λ cs. cs ++ flat_map (emptyings table columns) rows) (no_emptyings table (key_name columns) (value_at row 0) columns row none)
    ∙ no_updates table columns rows none

pub none_unspellable : (table : List ℕ) (columns : List Column) (row : Row) → All (λ (column : Column). takes_null column.kind ≡ false) columns → ¬ (IsUnspellable table columns row)
none_unspellable table columns row none = λ is.
    let long = ap length (no_emptyings table (key_name columns) (value_at row 0) columns row none) in
    let some = is.1 in
    omega (arith, some, long)

-- those of a row more
pub updates_more : {X : Type 0} (f : X → Row) (g : Row → List Command) (xs : List X) (n : ℕ) (x : X) → slice_get xs n ≡ Some x
    → flat_map g (map f (take (n + 1) xs)) ≡ flat_map g (map f (take n xs)) ++ g (f x)
updates_more f g xs n x there =
    ap (λ ys. flat_map g (map f ys)) (one_more xs n x there)
    ∙ ap (flat_map g) (map-append f (take n xs) (x ∷ []))
    ∙ flat_map-append g (map f (take n xs)) (f x ∷ [])
    ∙ ap (λ cs. flat_map g (map f (take n xs)) ++ cs) (flat_map-cons g (f x) [] ∙ append-nil (g (f x)))

-- text behind text, and the lines of commands behind that
pub lines_step : (start before after : List ℕ) (front rest whole : List Command) → before ≡ start ++ command_lines front → after ≡ before ++ command_lines rest
    → whole ≡ front ++ rest → after ≡ start ++ command_lines whole
lines_step start before after front rest whole made more is =
    more ∙ ap (λ t. t ++ command_lines rest) made ∙ append_assoc start (command_lines front) (command_lines rest)
    ∙ ap (λ t. start ++ t) (sym (lines_more front rest) ∙ ap command_lines (sym is))

-- what holds of the first elements, and of the next
pub all_more : {X : Type 0} (P : X → Type 0) (xs : List X) (n : ℕ) (x : X) → slice_get xs n ≡ Some x → All P (take n xs) → P x → All P (take (n + 1) xs)
all_more P xs n x there before holds = subst (All P) (sym (one_more xs n x there)) (All-append P (take n xs) (x ∷ []) before (All-cons P x [] holds (All-nil P)))

-- an error that is handed on
pub handed : {A E : Type 0} (P : E → Type 0) (result : Result A E) (e : E) → IsErrAnd result (λ r. r ≡ e) → P e → IfErr result P
handed P (Ok x) e is holds = tt
handed P (Err r) e is holds = subst P (sym is) holds

-- an element that was read
pub got_at : {X : Type 0} (xs given : List X) (n : ℕ) (x : X) → given ≡ xs → n < length given → x ≡ get_or given n x → slice_get xs n ≡ Some x
got_at xs given n x same within is = subst (λ ys. slice_get ys n ≡ Some x) same (slice_get-get_or given n x within ∙ ap Some (sym is))
