-- A catalog of one table more.
use Rattle.std.proofs.Common.{◌≡◌, ℕ, suc, ◌+◌, ◌<◌, Bool, true, false, List, [], ◌∷◌, ◌++◌, Option, Some, None, is_some, refl, sym, ap, ◌∙◌, subst, arith, length, map, take, get_or, append-nil, length-append, inl, inr}
use Rattle.part_raw.proofs.Tuples.{held_tuple}
use Rattle.std.specs.List.{All, slice_get, list_any, position, flat_map, zip, count_by}
use Rattle.std.specs.Option.{option_and_then, option_map_or}
use Rattle.std.specs.Str.{bytes_eq}
use Rattle.std.specs.FinMap as finite
use Rattle.std.specs.FinMap.{get-empty}
use Rattle.std.specs.Cmp.Lexicographic.{nat_list_eq_equiv}
use Rattle.std.specs.Prelude.{String}
use Rattle.std.specs.String.{string_bytes}
use Rattle.std.proofs.lemmas.Bool.{cases_lt}
use Rattle.std.proofs.lemmas.Grind.{flat_map-append}
use Rattle.std.proofs.lemmas.List.{map-append, take-append-le}
use Rattle.std.proofs.lemmas.List.Elements.{All-push}
use Rattle.std.proofs.lemmas.List.Quantifiers.{position-Some}
use Rattle.std.proofs.lemmas.Option.{none-some, slice_get_within, slice_get-get_or}
use Rattle.common_lemmas.proofs.Tests.{list_any-map}
use Rattle.common_lemmas.proofs.Places.{zip-push, slice_get-front, slice_get-last}
use Rattle.part_raw.specs.TupleRefs.{ref_cmp}
use Rattle.part_raw.specs.declared.tuple_ref.TupleRef.{TupleRef}
use Rattle.plain_tables.specs.Tables.{Table}
use Rattle.plain_tables.specs.Databases.{is_named, table_named}
use Rattle.plain_tables.specs.Effects.{new_table}
use Rattle.plain_tables.specs.References.{referred, IsSound}
use Rattle.plain_tables.specs.declared.schema.Column.{Column}
use Rattle.plain_tables.specs.declared.schema.Schema.{Schema}
use Rattle.plain_tables.specs.declared.resolved.Resolved.TheVariants as resolved
use Rattle.mm_relation.specs.Rows.{Row}
use Rattle.mm_relation.specs.State.{RelationState, IsKept, IsCurrent, linked_keys}
use Rattle.mm_catalog.specs.State.{CatalogState}
use Rattle.mm_catalog.specs.Seen.{database_of, table_of, rows_of, plain_index}
use Rattle.mm_catalog.specs.Linked.{target_at, target_of, relation_links, links, links_to, is_link_to}
use Rattle.mm_catalog.specs.Counted.{LeadIntoCounted}
use Rattle.mm_catalog.specs.Created.{aimed_relation}
use Rattle.mm_catalog.specs.Consistent.{IsAmong, IsConsistent, AreCounted}
use Rattle.mm_catalog.specs.Changes.{IsDone}
use Rattle.plain_tables.specs.ResolvedLaws.{IsDeclarable}
use Rattle.mm_catalog.proofs.Lists.{map-zip}
use Rattle.mm_catalog.proofs.Outlines.{keys_before}
use Rattle.mm_catalog.proofs.Back.{RefersInto, names-database, refers_before, target_there, lead_back}
use Rattle.mm_catalog.proofs.Finding.{is_some-find, found-front, position-found}
use Rattle.plain_tables.proofs.Referring.{refers_as}
use Rattle.plain_tables.proofs.Sound.{done_keeps_sound}

found_within : (names : List (List ℕ)) (found : Option (List ℕ)) (t : ℕ) → option_and_then (λ name. position (λ n. bytes_eq n name) names) found ≡ Some t → t < length names
found_within names None t e = absurd (none-some t e)
found_within names (Some name) t e = (position-Some (λ n. bytes_eq n name) names t [] e).0

-- the links of a new table lead into those that have names
pub leads_before : (names : List (List ℕ)) (schema : Schema) (column table : ℕ) → target_at (aimed_relation names schema).targets column ≡ Some table → table < length names
leads_before names schema column table e =
    let col = target_there names schema.columns column table e in
    found_within names (referred col.0.kind) table col.2

module _ (c : CatalogState) (ok : IsConsistent c) where
  -- whether there is a table of a name is told by the names
  pub named-there : (name : List ℕ) → is_some (table_named name (database_of c)) ≡ list_any (λ other. bytes_eq other name) c.names
  named-there name =
      is_some-find (is_named name) (database_of c)
      ∙ sym (list_any-map (λ other. bytes_eq other name) (λ (t : Table). t.name) (database_of c))
      ∙ ap (list_any (λ other. bytes_eq other name)) (names-database c ok)

  -- a new name is none of those that are kept
  pub new_key : {Z : Type 0} (keys : List (String Z)) (k : String Z) → map string_bytes keys ≡ c.names → is_some (table_named (string_bytes k) (database_of c)) ≡ false → list_any (λ other. bytes_eq (string_bytes k) (string_bytes other)) keys ≡ false
  new_key {Z} keys k same new =
      ap (λ (test : String Z → Bool). list_any test keys) (λ i other. nat_list_eq_equiv.symm (string_bytes k) (string_bytes other) i)
      ∙ sym (list_any-map (λ other. bytes_eq other (string_bytes k)) string_bytes keys)
      ∙ ap (list_any (λ other. bytes_eq other (string_bytes k))) same
      ∙ sym (named-there (string_bytes k)) ∙ new

  target-more : (more : List (List ℕ)) (found : Option (List ℕ)) → option_map_or (λ name. is_some (table_named name (database_of c))) found true ≡ true → option_and_then (λ name. position (λ n. bytes_eq n name) (c.names ++ more)) found ≡ option_and_then (λ name. position (λ n. bytes_eq n name) c.names) found
  target-more more None h = refl
  target-more more (Some name) h = position-found (λ n. bytes_eq n name) c.names more (sym (named-there name) ∙ h)

  targets-more : (more : List (List ℕ)) (columns : List Column) → All (RefersInto (database_of c)) columns → map (target_of c.names) columns ≡ map (target_of (c.names ++ more)) columns
  targets-more more [] h = refl
  targets-more more (x ∷ xs) h =
      ap (λ t. t ∷ map (target_of c.names) xs) (sym (target-more more (referred x.kind) (h 0 x (omega arith))))
      ∙ ap (λ ts. target_of (c.names ++ more) x ∷ ts) (targets-more more xs (λ k d l. h (suc k) d (omega arith)))

  refers_there : (n : ℕ) (s : RelationState) → slice_get c.relations n ≡ Some s → All (RefersInto (database_of c)) s.schema.columns
  refers_there n s there = λ k d l. refers_as (referred (get_or s.schema.columns k d).kind) (take n (database_of c)) (database_of c) (λ name. found-front (is_named name) (database_of c) n) (refers_before c ok n s there k d l)

  module _ (name : List ℕ) (schema : Schema) where
    abbrev new : RelationState
    new = aimed_relation c.names schema

    abbrev now : List RelationState
    now = c.relations ++ new ∷ []

    abbrev pub grown : CatalogState
    grown = record c { names = c.names ++ name ∷ []; relations = now }

    keys_more : (n : ℕ) (s : RelationState) → slice_get c.relations n ≡ Some s → linked_keys s.targets now ≡ linked_keys s.targets c.relations
    keys_more n s there =
        let back = lead_back c ok n s there in
        let within = slice_get_within c.relations n s there in
        sym (keys_before s.targets now n back) ∙ ap (linked_keys s.targets) (take-append-le n c.relations (new ∷ []) (omega (arith, within)))
        ∙ keys_before s.targets c.relations n back

    -- a table before the last
    there_before : (n column table : ℕ) (s t : RelationState) → slice_get c.relations n ≡ Some s → target_at s.targets column ≡ Some table → slice_get now table ≡ Some t → slice_get c.relations table ≡ Some t
    there_before n column table s t there e at =
        let below = lead_back c ok n s there column table e in
        let within = slice_get_within c.relations n s there in
        sym (slice_get-front c.relations (new ∷ []) table (omega (arith, below, within))) ∙ at

    among_old : (n : ℕ) (s : RelationState) → slice_get c.relations n ≡ Some s → IsAmong c.names c.relations s → IsAmong (c.names ++ name ∷ []) now s
    among_old n s there a = record {
      kept = a.kept;
      targets = a.targets ∙ targets-more (name ∷ []) s.schema.columns (refers_there n s there);
      counted = λ column table t e at. a.counted column table t e (there_before n column table s t there e at);
      linked = a.linked;
      current = subst (λ keys. IsCurrent keys s) (sym (keys_more n s there)) a.current;
    }

    no_row : (r : TupleRef) (row : Row) → finite.get new.rows r ≡ Some row → ⊥
    no_row r row e = none-some row (sym (get-empty ref_cmp r) ∙ e)

    among_new : IsKept new → All (RefersInto (database_of c)) schema.columns → LeadIntoCounted c.relations new.targets → IsAmong (c.names ++ name ∷ []) now new
    among_new kept refers counted = record {
      kept = kept;
      targets = targets-more (name ∷ []) schema.columns refers;
      counted = λ column table t e at. counted column table t e (sym (slice_get-front c.relations (new ∷ []) table (omega (arith, leads_before c.names schema column table e, ok.named))) ∙ at);
      linked = λ r row e. absurd (no_row r row e);
      current = record {
        readable = λ r row e. absurd (no_row r row e);
        trees = λ k d l. absurd (omega (arith, l));
        hashes = λ k d l. absurd (omega (arith, l));
      };
    }

    links-more : links now ≡ links c.relations
    unfolding links relation_links
    links-more = flat_map-append relation_links c.relations (new ∷ []) ∙ append-nil (flat_map relation_links c.relations)

    counts-more : (table : ℕ) (r : TupleRef) → links_to now table r ≡ links_to c.relations table r
    unfolding links_to
    counts-more table r = ap (count_by (is_link_to table r)) links-more

    counted_more : AreCounted now
    counted_more table s r at held = elim (cases_lt table (length c.relations)) [
      | inl below ↦ ok.counted table s r (sym (slice_get-front c.relations (new ∷ []) table below) ∙ at) held ∙ sym (counts-more table r)
      | inr behind ↦
          let last = slice_get-last c.relations new table s behind at in
          let row = held_tuple s.rows r held in
          absurd (no_row r row.0 (ap (λ (t : RelationState). finite.get t.rows r) last ∙ row.1))
    ]

    pub database_more : database_of grown ≡ database_of c ++ new_table name schema ∷ []
    unfolding database_of table_of rows_of
    database_more =
        ap (map (λ (t : List ℕ × RelationState). table_of now t.0 t.1)) (zip-push c.names c.relations name new ok.named)
        ∙ map-append (λ (t : List ℕ × RelationState). table_of now t.0 t.1) (zip c.names c.relations) ((name, new) ∷ [])
        ∙ ap (λ ts. ts ++ new_table name schema ∷ [])
        (map-zip (λ (t : List ℕ × RelationState). table_of c.relations t.0 t.1) (λ (t : List ℕ × RelationState). table_of now t.0 t.1) c.names c.relations
        (λ i a t named found j. record { name = a; columns = t.schema.columns; indexes = map plain_index t.declared; rows = rows_of (keys_more i t found j) t }))

    module _ (kept : IsKept new) (meant : IsDeclarable c.limits (database_of c) name schema) (counts : LeadIntoCounted c.relations new.targets) where
      sound_more : IsSound c.limits (database_of grown)
      sound_more = subst (IsSound c.limits) (sym database_more) (done_keeps_sound c.limits (database_of c) (resolved.Table name schema) ok.sound meant)

      pub consistent_more : IsConsistent grown
      consistent_more = record {
        named = length-append c.names (name ∷ []) ∙ ap (λ n. n + 1) ok.named ∙ sym (length-append c.relations (new ∷ []));
        rows = ok.rows;
        sound = sound_more;
        each = All-push (IsAmong (c.names ++ name ∷ []) now) c.relations new (λ k d l. among_old k _ (slice_get-get_or c.relations k d l) (ok.each k d l)) (among_new kept meant.refers_back counts);
        counted = counted_more;
      }

      pub done_more : IsDone c grown (resolved.Table name schema)
      done_more = record { database = database_more; limits = refl }
