-- The pieces of a dump that have rows: which they are, and why there is none.
use Rattle.std.proofs.Common.{◌≡◌, ◌∙◌, ℕ, zero, suc, ◌+◌, ◌-◌, ◌<◌, ◌≤◌, List, [], ◌∷◌, ◌++◌, Option, None, Some, IsSome, refl, sym, ap, subst, arith, length, map, take}
use Rattle.std.specs.Prelude.{pos, slice_get}
use Rattle.std.specs.FinMap as finite
use Rattle.std.specs.List.{All, Contains, flat_map}
use Rattle.std.specs.Option.{option_map}
use Rattle.std.proofs.lemmas.List.{length-take}
use Rattle.std.proofs.lemmas.List.Elements.{All-cons, All-contains, All-contains_itself, All-filter, All-nil, All-take}
use Rattle.std.proofs.lemmas.Option.{same_Some, slice_get-get_or, slice_get_within}
use Rattle.common_lemmas.proofs.Elements.{Contains-from_map}
use Rattle.common_lemmas.proofs.Places.{slice_get-inside}
use Rattle.part_raw.specs.declared.tuple_ref.TupleRef.{TupleRef}
use Rattle.plain_tables.specs.AnswerText.{text_line}
use Rattle.plain_tables.specs.Queries.{stands, value_at}
use Rattle.plain_tables.specs.ResolvedLaws.{IsStorable}
use Rattle.plain_tables.specs.Spelling.{canonical_spelling}
use Rattle.plain_tables.specs.Stored.{link_number}
use Rattle.plain_tables.specs.Tables.{Table, Row}
use Rattle.plain_tables.specs.declared.command.Command.TheVariants as command
use Rattle.plain_tables.specs.declared.condition.Op.TheVariants as op
use Rattle.plain_tables.specs.declared.numbers.TableNumber.{TableNumber}
use Rattle.plain_tables.specs.declared.resolved.Test.{Test}
use Rattle.plain_tables.specs.declared.schema.Column.{Column}
use Rattle.plain_tables.specs.declared.value.Value.{Value}
use Rattle.plain_tables.specs.declared.value.Value.TheVariants as value
use Rattle.mm_relation.specs.Reading.{key_at}
use Rattle.mm_relation.specs.State.{RelationState, tree_list}
use Rattle.mm_catalog.specs.Consistent.{IsConsistent}
use Rattle.mm_catalog.specs.Picked.{seen_values}
use Rattle.mm_catalog.specs.Seen.{database_of}
use Rattle.mm_catalog.specs.State.{CatalogState}
use Rattle.mm_catalog.proofs.Among.{among_at, some_columns}
use Rattle.mm_catalog.proofs.Lists.{get-taken}
use Rattle.mm_catalog.proofs.Tables.{database-length}
use Rattle.temp_list.specs.Reading.{HasColumns, or_null, value_in}
use Rattle.mm_session.specs.Listing.{command_lines}
use Rattle.mm_session.specs.SavedRows.{IsFilled, IsHeld, IsNotFound, IsStopped, tests_behind}
use Rattle.mm_session.specs.Saving.{AreUnspellable, IsDeclined, IsPieceOfRows, IsPlace, IsTooLong, IsUnspellable, OfTableAt, block_of, emptyings, rows_behind, rows_text}
use Rattle.mm_session.specs.declared.saving.SaveFault.{SaveFault}
use Rattle.mm_session.specs.declared.saving.SaveFault.TheVariants as fault
use Rattle.mm_session.specs.declared.saving.SavePlace.{SavePlace}
use Rattle.mm_session.specs.declared.saving.SavePlace.TheVariants as place
use Rattle.mm_session.proofs.Dumps.{columns_same, seen_long}
use Rattle.mm_session.proofs.Members.{value_seen}
use Rattle.mm_session.proofs.Saves.{one_more, take_front}
use Rattle.mm_session.proofs.StorableValues.{column_storable, storable_unlinked}

-- ---- the key of a row

pub key_value : (c : CatalogState) (s : RelationState) (r : TupleRef) (v : Value) → key_at s.rows r ≡ Some v → v ≡ value_in c.relations s 0 r
key_value c s r v is = sym (ap or_null is)

-- a value that was read of a row
pub seen_at : (c : CatalogState) (s : RelationState) (r : TupleRef) → IsSome (finite.get s.rows r) → (n : ℕ) (v : Value) → n < length s.schema.columns → v ≡ value_in c.relations s n r
    → slice_get (seen_values c s r) n ≡ Some v
seen_at c s r held n v within is =
    let long = seen_long c s r held in
    slice_get-get_or (seen_values c s r) n (value.Int (pos 0)) (omega (arith, long, within)) ∙ ap Some (sym (is ∙ value_seen c s r held n within))

-- the key that was read of a row
pub key_seen : (c : CatalogState) (s : RelationState) (r : TupleRef) (v : Value) → IsSome (finite.get s.rows r) → 0 < length s.schema.columns → key_at s.rows r ≡ Some v
    → v ≡ value_at (seen_values c s r) 0
key_seen c s r v held some is = key_value c s r v is ∙ value_seen c s r held 0 some

module _ (c : CatalogState) (ok : IsConsistent c) (n : ℕ) (s : RelationState) (there : slice_get c.relations n ≡ Some s) where
  pub key_unlinked : (r : TupleRef) (v : Value) → IsSome (finite.get s.rows r) → key_at s.rows r ≡ Some v → link_number v ≡ None
  key_unlinked r v held is =
      storable_unlinked v (subst IsStorable (sym (key_value c s r v is)) (column_storable c ok n s there r held 0 (some_columns c ok n s there)))

  -- the tests of the rows behind one are on a column that is there
  pub tests_columns : (after : Option TupleRef) → HasColumns s (tests_behind c s after)
  tests_columns None = All-nil (λ (t : Test). t.column.0 < length s.schema.columns)
  tests_columns (Some r) =
      All-cons (λ (t : Test). t.column.0 < length s.schema.columns) _ [] (some_columns c ok n s there) (All-nil (λ (t : Test). t.column.0 < length s.schema.columns))

  -- the rows behind one are held
  pub behind_held : (after : Option TupleRef) → All (λ (r : TupleRef). IsSome (finite.get s.rows r)) (rows_behind c s after)
  behind_held None = (among_at c ok n s there).kept.keyed.lists.held
  behind_held (Some r) =
      All-filter (λ q. stands op.Gt (value_in c.relations s 0 q) (value_in c.relations s 0 r)) (λ (q : TupleRef). IsSome (finite.get s.rows q)) (tree_list s.by_key) (among_at c ok n s there).kept.keyed.lists.held

-- ---- places

-- where there is no table there is no place
pub no_table : (c : CatalogState) → IsConsistent c → (n : TableNumber) (after : Option TupleRef) → ¬ (n.0 < length (database_of c)) → ¬ (IsPlace c (place.Rows n after))
no_table c ok n None not = λ is. not is
no_table c ok n (Some r) not = λ is. not (let within = slice_get_within c.relations n.0 is.0 is.1 in omega (arith, within, database-length c ok.named))

-- why there is no piece: the updates of rows stop
pub stopped_declined : (c : CatalogState) (n : TableNumber) (after : Option TupleRef) (why : SaveFault) (t : Table) (s : RelationState) → slice_get (database_of c) n.0 ≡ Some t → slice_get c.relations n.0 ≡ Some s
    → IsPlace c (place.Rows n after) → OfTableAt c n (λ t s. IsStopped (AreUnspellable c t s (rows_behind c s after)) why) → IsDeclined c (place.Rows n after) why
stopped_declined c n after (fault.NoMemory refused) t s at there is stopped = tt
stopped_declined c n after fault.NoSuchPlace t s at there is stopped = absurd (stopped t s at there)
stopped_declined c n after fault.RowTooLong t s at there is stopped = absurd (stopped t s at there)
stopped_declined c n after fault.Unspellable t s at there is stopped = (is, stopped)

module _ (c : CatalogState) (n : TableNumber) (s : RelationState) (there : slice_get c.relations n.0 ≡ Some s) where
  pub place_held : (after : Option TupleRef) → n.0 < length (database_of c) → IsHeld s after → IsPlace c (place.Rows n after)
  place_held None within held = within
  place_held (Some r) within held = (s, there, held)

  held_at : (after : Option TupleRef) → IsPlace c (place.Rows n after) → IsHeld s after
  held_at None is = tt
  held_at (Some r) is = subst (λ (u : RelationState). IsSome (finite.get u.rows r)) (same_Some is.0 s (sym is.1 ∙ there)) is.2

  pub place_declined : (after : Option TupleRef) (why : SaveFault) → IsNotFound s after why → IsDeclined c (place.Rows n after) why
  place_declined after (fault.NoMemory refused) not = tt
  place_declined after fault.NoSuchPlace not = λ is. not (held_at after is)
  place_declined after fault.RowTooLong not = absurd not
  place_declined after fault.Unspellable not = absurd not

-- ---- the rows of a piece

contains_front : {X : Type 0} (k : ℕ) (xs : List X) (x : X) → Contains (take k xs) x → Contains xs x
contains_front k xs x among = All-contains (Contains xs) (take k xs) x (All-take (Contains xs) k xs (All-contains_itself xs)) among

-- none is left
pub none_behind : {X : Type 0} (m : ℕ) (all found : List X) → 0 < m → found ≡ take m all → length found ≡ 0 → all ≡ []
none_behind m [] found some is none = refl
none_behind zero (x ∷ all) found some is none = absurd (omega (arith, some))
none_behind (suc m) (x ∷ all) found some is none = let long = ap length is in absurd (omega (arith, long, none))

module _ (c : CatalogState) (n : TableNumber) (t : Table) (s : RelationState) (same : t.columns ≡ s.schema.columns) (all found : List TupleRef) (is : found ≡ take 16384 all)
    (block : List ℕ) (count : ℕ) (fills : IsFilled c s found block count) where
  abbrev seen : TupleRef → Row
  seen = seen_values c s

  front_same : (k : ℕ) → k ≤ 16384 → take k found ≡ take k all
  front_same k le = ap (take k) is ∙ take_front k 16384 all le

  most : count ≤ 16384
  most = let few = fills.few in let cut = ap length is ∙ length-take 16384 all in omega (arith, few, cut)

  one_behind : count < 16384 → count < length all → count < length found
  one_behind below more = let cut = ap length is ∙ length-take 16384 all in omega (arith, below, more, cut)

  -- the rows that have room, and where the save goes on
  pub piece_made : (last : TupleRef) (bytes : List ℕ) (next : Option SavePlace) → 0 < count → slice_get found (count - 1) ≡ Some last
      → bytes ≡ rows_text t.name t.columns (map seen (take count found)) → All (λ (r : TupleRef). ¬ (IsUnspellable t.name t.columns (seen r))) (take count found)
      → next ≡ Some (place.Rows n (Some last)) → IsPieceOfRows c n t s all bytes next
  piece_made last bytes next some ends made spelled goes = record {
    count = count;
    some = some;
    few = most;
    last = last;
    ends = (get-taken all 16384 (count - 1) last (subst (λ (rs : List TupleRef). slice_get rs (count - 1) ≡ Some last) is ends)).1;
    within = subst (λ (rs : List TupleRef). length (block_of t.columns (map seen rs)) ≤ c.limits.block) (front_same count most)
        (subst (λ (cs : List Column). length (block_of cs (map seen (take count found))) ≤ c.limits.block) (sym same)
        (subst (λ (bs : List ℕ). length bs ≤ c.limits.block) fills.made (fills.within some)));
    full = λ below more.
        subst (λ (rs : List TupleRef). c.limits.block < length (block_of t.columns (map seen rs))) (front_same (count + 1) (omega (arith, below)))
        (subst (λ (cs : List Column). c.limits.block < length (block_of cs (map seen (take (count + 1) found)))) (sym same) (fills.next (one_behind below more)));
    spelled = λ row among.
        let from = Contains-from_map seen (take count all) row among in
        subst (λ (u : Row). ¬ (IsUnspellable t.name t.columns u)) from.2
        (All-contains (λ (r : TupleRef). ¬ (IsUnspellable t.name t.columns (seen r))) (take count found) from.0 spelled (subst (λ (rs : List TupleRef). Contains rs from.0) (sym (front_same count most)) from.1));
    made = made ∙ ap (λ (rs : List TupleRef). rows_text t.name t.columns (map seen rs)) (front_same count most);
    next_place = goes;
  }

  -- where the first has no room
  pub piece_too_long : count ≡ 0 → 0 < length found → IsTooLong c t s all
  piece_too_long none some =
      let first = slice_get-inside found 0 some in (
        first.0,
        (get-taken all 16384 0 first.0 (subst (λ (rs : List TupleRef). slice_get rs 0 ≡ Some first.0) is first.1)).1,
        subst (λ (cs : List Column). c.limits.block < length (block_of cs (seen first.0 ∷ []))) (sym same)
            (subst (λ (rs : List TupleRef). c.limits.block < length (block_of s.schema.columns (map seen rs))) (ap (λ k. take (k + 1) found) none ∙ one_more found 0 first.0 first.1)
            (fills.next (omega (arith, none, some)))),
      )

  -- where the updates of one cannot be spelled
  pub piece_unspellable : AreUnspellable c t s (take count found) → AreUnspellable c t s all
  piece_unspellable (r, among, unspellable) = (
    r,
    contains_front count all r (subst (λ (rs : List TupleRef). Contains rs r) (front_same count most) among),
    unspellable,
  )

-- ---- what is put around a block

module _ (c : CatalogState) (ok : IsConsistent c) (n : TableNumber) (name : List ℕ) (named : option_map (λ (t : Table). t.name) (slice_get (database_of c) n.0) ≡ Some name)
    (given : RelationState) (got : slice_get c.relations n.0 ≡ Some given) (refs : List TupleRef) where
  called : (t : Table) → slice_get (database_of c) n.0 ≡ Some t → name ≡ t.name
  called t at = sym (same_Some t.name name (sym (ap (option_map (λ (t : Table). t.name)) at) ∙ named))

  abbrev line : List ℕ → List ℕ → List ℕ
  line m block = text_line (canonical_spelling (command.Load m (length block)))

  abbrev updates : List ℕ → List Column → RelationState → List ℕ
  updates m columns s = command_lines (flat_map (emptyings m columns) (map (seen_values c s) refs))

  pub around_made : (old mid new : List ℕ) → ((page block : List ℕ) → old ≡ page ++ block → length page ≡ 0 → mid ≡ page ++ (line name block ++ block))
      → new ≡ mid ++ updates name given.schema.columns given
      → OfTableAt c n (λ t s. old ≡ block_of t.columns (map (seen_values c s) refs) → new ≡ rows_text t.name t.columns (map (seen_values c s) refs))
  around_made old mid new inserted put t s at there is =
      let block = block_of t.columns (map (seen_values c s) refs) in
      put ∙ ap (λ m. m ++ updates name given.schema.columns given) (inserted [] block is refl)
      ∙ ap (λ (g : RelationState). (line name block ++ block) ++ updates name g.schema.columns g) (same_Some given s (sym got ∙ there))
      ∙ ap (λ m. (line m block ++ block) ++ updates m s.schema.columns s) (called t at)
      ∙ ap (λ (cs : List Column). (line t.name block ++ block) ++ updates t.name cs s) (sym (columns_same c ok n.0 t at s there))

  pub around_spelled : All (λ (r : TupleRef). ¬ (IsUnspellable name given.schema.columns (seen_values c given r))) refs
      → OfTableAt c n (λ t s. All (λ (r : TupleRef). ¬ (IsUnspellable t.name t.columns (seen_values c s r))) refs)
  around_spelled said t s at there =
      subst (λ (cs : List Column). All (λ (r : TupleRef). ¬ (IsUnspellable t.name cs (seen_values c s r))) refs) (sym (columns_same c ok n.0 t at s there))
      (subst (λ m. All (λ (r : TupleRef). ¬ (IsUnspellable m s.schema.columns (seen_values c s r))) refs) (called t at)
      (subst (λ (g : RelationState). All (λ (r : TupleRef). ¬ (IsUnspellable name g.schema.columns (seen_values c g r))) refs) (same_Some given s (sym got ∙ there)) said))

  pub around_stopped : (why : SaveFault) → IsStopped ((r : TupleRef) × Contains refs r × IsUnspellable name given.schema.columns (seen_values c given r)) why
      → OfTableAt c n (λ t s. IsStopped (AreUnspellable c t s refs) why)
  around_stopped why stopped t s at there =
      subst (λ (cs : List Column). IsStopped ((r : TupleRef) × Contains refs r × IsUnspellable t.name cs (seen_values c s r)) why) (sym (columns_same c ok n.0 t at s there))
      (subst (λ m. IsStopped ((r : TupleRef) × Contains refs r × IsUnspellable m s.schema.columns (seen_values c s r)) why) (called t at)
      (subst (λ (g : RelationState). IsStopped ((r : TupleRef) × Contains refs r × IsUnspellable name g.schema.columns (seen_values c g r)) why) (same_Some given s (sym got ∙ there)) stopped))
