-- The links of a table lead into tables before it.
use Rattle.std.proofs.Common.{◌≡◌, ℕ, zero, suc, ◌<◌, Bool, true, false, cond, IsTrue, List, [], ◌∷◌, ◌++◌, Option, Some, None, is_some, refl, sym, ap, ◌∙◌, subst, arith, map, take, get_or, append-nil, append_assoc, inl, inr}
use Rattle.std.specs.List.{All, slice_get, find, position, zip}
use Rattle.std.specs.Option.{option_and_then, option_map_or}
use Rattle.std.specs.Str.{bytes_eq}
use Rattle.std.proofs.Math.ListN.{get_or-map}
use Rattle.std.proofs.lemmas.Bool.{false≢true, cases_lt}
use Rattle.std.proofs.lemmas.List.Quantifiers.{position-Some}
use Rattle.std.proofs.lemmas.Option.{none-some, same_Some, slice_get_within}
use Rattle.std.proofs.lemmas.Simd.{map-map}
use Rattle.plain_tables.specs.Tables.{Table}
use Rattle.plain_tables.specs.Databases.{Database, is_named, table_named}
use Rattle.plain_tables.specs.References.{referred, refers_into, ReferBack}
use Rattle.plain_tables.specs.declared.schema.Column.{Column}
use Rattle.mm_relation.specs.State.{RelationState}
use Rattle.mm_catalog.specs.State.{CatalogState}
use Rattle.mm_catalog.specs.Seen.{database_of, table_of}
use Rattle.mm_catalog.specs.Linked.{target_of, target_at}
use Rattle.mm_catalog.specs.Consistent.{IsAmong, IsConsistent}
use Rattle.std.proofs.lemmas.Slice.Zip.{firsts-zip}
use Rattle.common_lemmas.proofs.Places.{slice_get-inside}
use Rattle.common_lemmas.proofs.Elements.{All-at}
use Rattle.mm_catalog.proofs.Tables.{database-get}
use Rattle.mm_catalog.proofs.Outlines.{LeadBack}

-- a column refers to one of these tables, if it refers to a table at all
abbrev pub RefersInto : Database → Column → Type 0
RefersInto tables column = IsTrue (refers_into tables column)

-- an element that is found in front stands there
found_in_front : {A : Type 0} (p : A → Bool) (xs : List A) (n : ℕ) → is_some (find p (take n xs)) ≡ true → (j : ℕ) × (j < n) × ((d : A) → p (get_or xs j d) ≡ true)
found_in_front p [] zero h = absurd (false≢true h)
found_in_front p [] (suc n) h = absurd (false≢true h)
found_in_front p (x ∷ xs) zero h = absurd (false≢true h)
found_in_front p (x ∷ xs) (suc n) h =
    elim (p x) as (λ b. p x ≡ b → is_some (cond b (Some x) (find p (take n xs))) ≡ true → (j : ℕ) × (j < suc n) × ((d : _) → p (get_or (x ∷ xs) j d) ≡ true)) [
      | true ↦ λ e f. (0, omega arith, λ d. e)
      | false ↦ λ e f. let rest = found_in_front p xs n f in (suc rest.0, omega (arith, rest.1), rest.2)
    ] refl h

-- each table refers to those before it
refer_back_at : (before after : Database) (n : ℕ) (table : Table) → slice_get after n ≡ Some table → ReferBack before after → All (RefersInto (before ++ take n after)) table.columns
refer_back_at before [] n table at h = absurd (none-some table at)
refer_back_at before (t ∷ ts) zero table at h =
    subst (λ tables. All (RefersInto tables) table.columns) (sym (append-nil before))
    (subst (λ (u : Table). All (RefersInto before) u.columns) (same_Some t table at) h.0)
refer_back_at before (t ∷ ts) (suc n) table at h =
    subst (λ tables. All (RefersInto tables) table.columns) (append_assoc before (t ∷ []) (take n ts))
    (refer_back_at (before ++ t ∷ []) ts n table at h.1)

abbrev pub has_name : List ℕ → List ℕ → Bool
has_name name other = bytes_eq other name

-- a name that is found in front is first found in front
leads : (names : List (List ℕ)) (tables : Database) (d : Table) (n : ℕ) → map (λ (t : Table). t.name) tables ≡ names → (found : Option (List ℕ)) → IsTrue (option_map_or (λ name. is_some (table_named name (take n tables))) found true) → (t : ℕ) → option_and_then (λ name. position (has_name name) names) found ≡ Some t → t < n
leads names tables d n same None h t e = absurd (none-some t e)
leads names tables d n same (Some name) h t e =
    let there = found_in_front (is_named name) tables n h in
    let first = position-Some (has_name name) names t d.name e in
    let alike : get_or names there.0 d.name ≡ (get_or tables there.0 d).name =
    ap (λ ns. get_or ns there.0 d.name) (sym same) ∙ get_or-map (λ (u : Table). u.name) tables there.0 d in
    elim (cases_lt t n) [
      | inl below ↦ below
      | inr above ↦
          absurd (false≢true (sym (first.2 there.0 (omega (arith, there.1, above))) ∙ ap (has_name name) alike ∙ there.2 d))
    ]

-- where the links of a column lead, by the column that is there
pub target_there : (names : List (List ℕ)) (columns : List Column) (column : ℕ) (t : ℕ) → target_at (map (target_of names) columns) column ≡ Some t → (c : Column) × (slice_get columns column ≡ Some c) × (target_of names c ≡ Some t)
target_there names [] column t e = absurd (none-some t e)
target_there names (c ∷ cs) zero t e = (c, refl, e)
target_there names (c ∷ cs) (suc column) t e = target_there names cs column t e

module _ (c : CatalogState) (ok : IsConsistent c) where
  pub names-database : map (λ (t : Table). t.name) (database_of c) ≡ c.names
  unfolding database_of table_of
  names-database =
      map-map (λ (t : Table). t.name) (λ (t : List ℕ × RelationState). table_of c.relations t.0 t.1) (zip c.names c.relations)
      ∙ firsts-zip c.names c.relations (sym ok.named)

  -- the columns of a table refer to tables before it
  pub refers_before : (n : ℕ) (s : RelationState) → slice_get c.relations n ≡ Some s → All (RefersInto (take n (database_of c))) s.schema.columns
  unfolding table_of
  refers_before n s there =
      let name = slice_get-inside c.names n (omega (arith, ok.named, slice_get_within c.relations n s there)) in
      refer_back_at [] (database_of c) n (table_of c.relations name.0 s) (database-get c ok.named n name.0 s name.1 there) ok.sound.refer_back

  pub lead_back : (n : ℕ) (s : RelationState) → slice_get c.relations n ≡ Some s → LeadBack s.targets n
  lead_back n s there column t e =
      let among : IsAmong c.names c.relations s = All-at (IsAmong c.names c.relations) c.relations n s ok.each there in
      let name = slice_get-inside c.names n (omega (arith, ok.named, slice_get_within c.relations n s there)) in
      let col = target_there c.names s.schema.columns column t (subst (λ targets. target_at targets column ≡ Some t) among.targets e) in
      let refers : RefersInto (take n (database_of c)) col.0 = All-at (RefersInto (take n (database_of c))) s.schema.columns column col.0 (refers_before n s there) col.1 in
      leads c.names (database_of c) (table_of c.relations name.0 s) n names-database (referred col.0.kind) refers t col.2
