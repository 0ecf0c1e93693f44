-- The tables that a select names, and the columns of its joins.
use Rattle.std.proofs.Common.{◌≡◌, ℕ, ◌+◌, ◌<◌, Bool, true, false, cond, not, is_some, is_none, List, [], ◌∷◌, ◌++◌, Option, Some, None, refl, sym, ap, ◌∙◌, map, length, get_or, inl, inr, append-nil, append_assoc, subst}
use Rattle.std.specs.Prelude.{◌||◌}
use Rattle.std.specs.List.{AllZip, filter, filter_map, find, flat_map, list_any, cons_option, enumerate_from}
use Rattle.std.specs.Option.{option_map, option_to_list, option_zip}
use Rattle.std.specs.Str.{bytes_eq}
use Rattle.std.proofs.lemmas.Bool.{cases_Bool}
use Rattle.std.proofs.lemmas.List.{map-append}
use Rattle.std.proofs.lemmas.List.Elements.{filter-append, filter_map-append}
use Rattle.std.proofs.lemmas.List.Folds.{list_any-append, list_any_at}
use Rattle.std.proofs.lemmas.Map.Views.{any-filter_same}
use Rattle.std.proofs.lemmas.Slice.Eq.{bytes_eq-Decides}
use Rattle.std.proofs.lemmas.Slice.Zip.{all_zipped_more}
use Rattle.common_lemmas.proofs.Tests.{list_any-map, or_false, or_true}
use Rattle.plain_tables.specs.Databases.{Database, is_named, table_named}
use Rattle.plain_tables.specs.declared.numbers.Place.{Place}
use Rattle.plain_tables.specs.Queries.{JoinedColumn, column_number, sides_meant, source_columns as plain_columns}
use Rattle.plain_tables.specs.Resolving.{once, select_names, behind, join_columns, columns_of as named_columns}
use Rattle.plain_tables.specs.declared.command.Join.{Join}
use Rattle.plain_tables.specs.declared.schema.Column.{Column}
use Rattle.mm_resolver.specs.declared.named_table.NamedTable.{NamedTable}
use Rattle.mm_resolver.specs.declared.scope.Scope.{Scope}
use Rattle.mm_resolver.specs.Naming.{IsNamedTableOf, place_in, columns_of, columns_of_all, source_columns, placed}
use Rattle.mm_resolver.specs.Select.{placed_sides, sides_found, AreJoined}

pub zip_placed : (outer inner : Option JoinedColumn) → option_map placed_sides (option_zip outer inner) ≡ option_zip (option_map placed outer) (option_map placed inner)
zip_placed (Some x) (Some y) = refl
zip_placed outer inner = refl

-- ---- names, each once

module _ (m name : List ℕ) (kept : List (List ℕ)) where
  abbrev other : List ℕ → Bool
  other k = not (bytes_eq m k)

  abbrev there : List (List ℕ) → Bool
  there ks = list_any (λ k. bytes_eq k name) ks

  filter_last : (b : Bool) → other name ≡ b → filter other (kept ++ name ∷ []) ≡ filter other kept ++ cond b (name ∷ []) []
  filter_last b h = filter-append other kept (name ∷ []) ∙ ap (λ x. filter other kept ++ cond x (name ∷ []) []) h

  push_same : (b : Bool) → other name ≡ false → filter other (cond b kept (kept ++ name ∷ [])) ≡ filter other kept
  push_same true h = refl
  push_same false h = filter_last false h ∙ append-nil (filter other kept)

  push_other : (b : Bool) → other name ≡ true → m ∷ filter other (cond b kept (kept ++ name ∷ [])) ≡ cond b (m ∷ filter other kept) ((m ∷ filter other kept) ++ name ∷ [])
  push_other true h = refl
  push_other false h = ap (λ xs. m ∷ xs) (filter_last true h)

  there_other : bytes_eq m name ≡ false → there (filter other kept) ≡ there kept
  there_other differ =
      any-filter_same (λ k. bytes_eq k name) other true
      (λ k h. let same : k ≡ name = (bytes_eq-Decides k name).0 h in ap (λ x. not (bytes_eq m x)) same ∙ ap not differ) kept

  once_more : m ∷ filter other (cond (there kept) kept (kept ++ name ∷ []))
      ≡ cond (bytes_eq m name || there (filter other kept)) (m ∷ filter other kept) ((m ∷ filter other kept) ++ name ∷ [])
  once_more = elim (cases_Bool (bytes_eq m name)) [
    | inl same ↦
        ap (λ xs. m ∷ xs) (push_same (there kept) (ap not same))
        ∙ sym (ap (λ b. cond (b || there (filter other kept)) (m ∷ filter other kept) ((m ∷ filter other kept) ++ name ∷ [])) same)
    | inr differ ↦
        push_other (there kept) (ap not differ)
        ∙ sym (ap (λ b. cond (b || there (filter other kept)) (m ∷ filter other kept) ((m ∷ filter other kept) ++ name ∷ [])) differ
        ∙ ap (λ b. cond b (m ∷ filter other kept) ((m ∷ filter other kept) ++ name ∷ [])) (there_other differ))
  ]

once-push : (names : List (List ℕ)) (name : List ℕ)
    → once (names ++ name ∷ []) ≡ cond (list_any (λ k. bytes_eq k name) (once names)) (once names) (once names ++ name ∷ [])
once-push [] name = refl
once-push (m ∷ ms) name = ap (λ rest. m ∷ filter (λ k. not (bytes_eq m k)) rest) (once-push ms name) ∙ once_more m name (once ms)

-- ---- the tables of names

find_passes : {X : Type 0} (p : X → Bool) (xs : List X) (x : X) → find p xs ≡ Some x → p x ≡ true
find_passes p [] x h = cc
find_passes p (y ∷ ys) x h = elim (cases_Bool (p y)) [
  | inl passes ↦ let same : y ≡ x = cc (rw passes at h) in ap p (sym same) ∙ passes
  | inr fails ↦ find_passes p ys x (rw fails at h)
]

module _ (tables : Database) where
  -- a table goes by the name that it is of
  pub called_so : (name : List ℕ) (named_table : NamedTable) → IsNamedTableOf tables name named_table → named_table.name.now ≡ name
  called_so name named_table h = sym h.called ∙ (bytes_eq-Decides h.table.name name).0 (find_passes (is_named name) tables h.table h.found)

  any_named : (name : List ℕ) (own : NamedTable) (names : List (List ℕ)) (named_tables : List NamedTable) → IsNamedTableOf tables name own → AllZip (IsNamedTableOf tables) names named_tables
      → list_any (λ (s : NamedTable). bytes_eq s.name.now own.name.now) named_tables ≡ list_any (λ k. bytes_eq k name) names
  any_named name own [] [] h all = refl
  any_named name own (n ∷ ns) (s ∷ ss) h all =
      ap (λ k. bytes_eq k own.name.now || list_any (λ (t : NamedTable). bytes_eq t.name.now own.name.now) ss) (called_so n s all.0)
      ∙ ap (λ k. bytes_eq n k || list_any (λ (t : NamedTable). bytes_eq t.name.now own.name.now) ss) (called_so name own h)
      ∙ ap (λ b. bytes_eq n name || b) (any_named name own ns ss h all.1)
  any_named name own names named_tables h all = absurd all

  more_named : (b : Bool) (name : List ℕ) (own : NamedTable) (names : List (List ℕ)) (named_tables : List NamedTable) → IsNamedTableOf tables name own → AllZip (IsNamedTableOf tables) names named_tables
      → AllZip (IsNamedTableOf tables) (cond b names (names ++ name ∷ [])) (cond b named_tables (named_tables ++ own ∷ []))
  more_named true name own names named_tables h all = all
  more_named false name own names named_tables h all = all_zipped_more (IsNamedTableOf tables) names named_tables name own all h

  -- their columns are those of the tables
  table_columns : (k : ℕ) (name : List ℕ) (named_table : NamedTable) (h : IsNamedTableOf tables name named_table) → plain_columns (k, h.table) ≡ source_columns (k, named_table)
  table_columns k name named_table h =
      let of : List ℕ → List Column → List JoinedColumn =
      λ own columns. map (λ c. record { table = own; place = place_in k (column_number c.0); column = c.1 }) (enumerate_from 0 columns) in
      ap (λ own. of own h.table.columns) h.called ∙ ap (of named_table.name.now) h.columns

  columns_from : (k : ℕ) (names : List (List ℕ)) (named_tables : List NamedTable) → AllZip (IsNamedTableOf tables) names named_tables
      → flat_map plain_columns (enumerate_from k (filter_map (λ n. table_named n tables) names)) ≡ flat_map source_columns (enumerate_from k named_tables)
  columns_from k [] [] all = refl
  columns_from k (n ∷ ns) (s ∷ ss) all =
      ap (λ o. flat_map plain_columns (enumerate_from k (cons_option o (filter_map (λ m. table_named m tables) ns)))) all.0.found
      ∙ ap (λ cs. cs ++ flat_map plain_columns (enumerate_from (k + 1) (filter_map (λ m. table_named m tables) ns))) (table_columns k n s all.0)
      ∙ ap (λ cs. source_columns (k, s) ++ cs) (columns_from (k + 1) ns ss all.1)
  columns_from k names named_tables all = absurd all

  pub columns_are : (names : List (List ℕ)) (named_tables : List NamedTable) → AllZip (IsNamedTableOf tables) (once names) named_tables → named_columns tables names ≡ columns_of_all named_tables
  columns_are names named_tables all = columns_from 0 (once names) named_tables all

  own_columns_are : (name : List ℕ) (own : NamedTable) → IsNamedTableOf tables name own → named_columns tables (name ∷ []) ≡ columns_of own
  own_columns_are name own h = columns_from 0 (name ∷ []) (own ∷ []) (h, tt)

-- ---- joins, one after another

behind-append : (names : List (List ℕ)) (joins others : List Join)
    → behind names (joins ++ others) ≡ behind names joins ++ behind (names ++ map (λ j. j.table) joins) others
behind-append names [] others = ap (λ ns. behind ns others) (sym (append-nil names))
behind-append names (j ∷ js) others =
    ap (λ rest. (names, j) ∷ rest)
    (behind-append (names ++ j.table ∷ []) js others
    ∙ ap (λ ns. behind (names ++ j.table ∷ []) js ++ behind ns others) (append_assoc names (j.table ∷ []) (map (λ (x : Join). x.table) js)))

none_some : {X : Type 0} (o : Option X) → is_none o ≡ not (is_some o)
none_some None = refl
none_some (Some x) = refl

module _ (tables : Database) (name : List ℕ) where
  abbrev lacks : List ℕ → Bool
  lacks n = not (is_some (table_named n tables))

  abbrev columns : List (List ℕ) × Join → Option (JoinedColumn × JoinedColumn)
  columns join = join_columns tables join

  abbrev found : List (List ℕ) × Join → Option ((Place × Column) × (Place × Column))
  found join = option_map placed_sides (columns join)

  -- a joined table that isn't there is missed among all
  pub table_lacks : (joins : List Join) (i : ℕ) (join : Join) → i < length joins → join ≡ get_or joins i join → table_named join.table tables ≡ None
      → list_any lacks (select_names name joins) ≡ true
  table_lacks joins i join within at none =
      let here : lacks (get_or joins i join).table ≡ true = ap (λ (j : Join). lacks j.table) (sym at) ∙ ap (λ o. not (is_some o)) none in
      ap (λ b. lacks name || b) (list_any-map lacks (λ (j : Join). j.table) joins ∙ list_any_at (λ (j : Join). lacks j.table) joins i join within here)
      ∙ or_true (lacks name)

  module _ (joins : List Join) (join : Join) where
    abbrev names : List (List ℕ)
    names = select_names name joins

    abbrev more : List Join
    more = joins ++ join ∷ []

    names_more : select_names name more ≡ names ++ join.table ∷ []
    names_more = ap (λ ns. name ∷ ns) (map-append (λ (j : Join). j.table) joins (join ∷ []))

    behind_more : behind (name ∷ []) more ≡ behind (name ∷ []) joins ++ (names, join) ∷ []
    behind_more = behind-append (name ∷ []) joins (join ∷ [])

    module _ (missed : Bool) (before : Scope) (own : NamedTable) (h : AreJoined tables name joins missed before) (k : IsNamedTableOf tables join.table own) where
      abbrev meant : Option (JoinedColumn × JoinedColumn)
      meant = sides_meant (columns_of_all before.tables.items) (columns_of own) join

      -- what the next join names
      columns_next : columns (names, join) ≡ meant
      columns_next =
          ap (λ cs. sides_meant cs (named_columns tables (join.table ∷ [])) join) (columns_are tables names before.tables.items h.named)
          ∙ ap (λ cs. sides_meant (columns_of_all before.tables.items) cs join) (own_columns_are tables join.table own k)

      -- the scope with one join more
      pub joined_more : (after : Scope) (named : Bool)
          → after.tables.items ≡ cond (list_any (λ (s : NamedTable). bytes_eq s.name.now own.name.now) before.tables.items) before.tables.items (before.tables.items ++ own ∷ [])
          → named ≡ is_some meant → map sides_found after.sides.items ≡ map sides_found before.sides.items ++ option_to_list (option_map placed_sides meant)
          → AreJoined tables name more (missed || not named) after
      joined_more after named tables_are has sides =
          let b = list_any (λ m. bytes_eq m join.table) (once names) in
          let once_named : once (select_names name more) ≡ cond b (once names) (once names ++ join.table ∷ []) = ap once names_more ∙ once-push names join.table in
          let are : after.tables.items ≡ cond b before.tables.items (before.tables.items ++ own ∷ []) =
          tables_are ∙ ap (λ x. cond x before.tables.items (before.tables.items ++ own ∷ [])) (any_named tables join.table own (once names) before.tables.items k h.named) in
          record {
            there = ap (list_any lacks) names_more ∙ list_any-append lacks names (join.table ∷ [])
                ∙ ap (λ b. b || (lacks join.table || false)) h.there ∙ ap (λ o. not (is_some o) || false) k.found;
            named = subst (λ ns. AllZip (IsNamedTableOf tables) ns after.tables.items) (sym once_named)
                (subst (AllZip (IsNamedTableOf tables) (cond b (once names) (once names ++ join.table ∷ []))) (sym are) (more_named tables b join.table own (once names) before.tables.items k h.named));
            misses = sym (
                ap (λ js. list_any is_none (map columns js)) behind_more
                ∙ ap (list_any is_none) (map-append columns (behind (name ∷ []) joins) ((names, join) ∷ []))
                ∙ list_any-append is_none (map columns (behind (name ∷ []) joins)) (columns (names, join) ∷ [])
                ∙ ap (λ c. c || (is_none (columns (names, join)) || false)) (sym h.misses)
                ∙ ap (λ c. missed || c) (or_false (is_none (columns (names, join))) ∙ none_some (columns (names, join)) ∙ ap (λ o. not (is_some o)) columns_next ∙ ap not (sym has)));
            sides = sides ∙ ap (λ xs. xs ++ option_to_list (option_map placed_sides meant)) h.sides
                ∙ ap (λ o. filter_map found (behind (name ∷ []) joins) ++ option_to_list (option_map placed_sides o)) (sym columns_next)
                ∙ ap (λ xs. filter_map found (behind (name ∷ []) joins) ++ xs) (listed (found (names, join)))
                ∙ sym (ap (filter_map found) behind_more ∙ filter_map-append found (behind (name ∷ []) joins) ((names, join) ∷ []));
          }
        where
          listed : {X : Type 0} (o : Option X) → option_to_list o ≡ cons_option o []
          listed None = refl
          listed (Some x) = refl
