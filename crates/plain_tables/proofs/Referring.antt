-- References between tables: that each table still refers to tables before it where a database changes.
use Rattle.std.proofs.Common.{◌≡◌, ◌≢◌, ℕ, zero, suc, true, false, get_or, List, [], ◌∷◌, ◌++◌, append-nil, append_assoc, inl, inr, sym, ap, ◌∙◌, refl, subst, Option, Some, None}
use Rattle.std.specs.Prelude.{cond}
use Rattle.std.specs.List.{All, AllPairs, AllZip, list_any, flat_map, cons_option, slice_get, remove}
use Rattle.std.specs.Option.{is_some, option_map, option_map_or}
use Rattle.std.specs.Str.{bytes_eq}
use Rattle.std.proofs.lemmas.Bool.{cases_Bool, or_parts, both_ways, false_from_ne_true, false≢true}
use Rattle.std.proofs.lemmas.List.Elements.{All-nil, All-cons, All-head, All-tail, All-weaker, AllZip-push}
use Rattle.std.proofs.lemmas.List.Folds.{list_any_none}
use Rattle.std.proofs.lemmas.Option.{none-some, same_Some}
use Rattle.std.proofs.lemmas.Slice.Eq.{bytes_eq-Decides}
use Rattle.plain_tables.specs.Tables.{Table, Row}
use Rattle.plain_tables.specs.Databases.{Database, is_named, table_named}
use Rattle.plain_tables.specs.References.{Reference, referred, reference_of, references, table_references, RefersInto, refers_to, ReferBack}
use Rattle.plain_tables.specs.declared.value.Value.{Value}
use Rattle.plain_tables.specs.declared.value.Value.TheVariants as value
use Rattle.plain_tables.specs.declared.schema.Column.{Column}
use Rattle.plain_tables.proofs.Held.{StaysHeld}
use Rattle.common_lemmas.proofs.Pairs.{AllPairs-behind}
use Rattle.common_lemmas.proofs.Elements.{All-flat_map}
use Rattle.common_lemmas.proofs.Tests.{fails_where_none, not_found}

-- ---- tables of the same names and columns

abbrev pub HasShape : Table → Table → Type 0
HasShape t u = (t.name ≡ u.name) × (t.columns ≡ u.columns)

pub has_own_shape : (t : Table) → HasShape t t
has_own_shape t = (refl, refl)

-- What holds of two tables of one shape, and where none is found, holds of those that are found by a name.
pub named_alike : (P : Option Table → Option Table → Type 0) → P None None → ((t u : Table) → HasShape t u → P (Some t) (Some u))
    → (name : List ℕ) (tables others : Database) → AllZip HasShape tables others
    → P (table_named name tables) (table_named name others)
named_alike P none both name [] [] same = none
named_alike P none both name [] (u ∷ others) same = absurd same
named_alike P none both name (t ∷ tables) [] same = absurd same
named_alike P none both name (t ∷ tables) (u ∷ others) same =
    elim (cases_Bool (is_named name t)) [
      | inl e ↦ let e' : is_named name u ≡ true = subst (λ n. bytes_eq n name ≡ true) same.0.0 e in rw (e, e') (both t u same.0)
      | inr f ↦
          let f' : is_named name u ≡ false = subst (λ n. bytes_eq n name ≡ false) same.0.0 f in
          rw (f, f') (named_alike P none both name tables others same.1)
    ]

-- what a column refers to is there in the one database if it is in the other
pub refers_as : (found : Option (List ℕ)) (tables others : Database)
    → ((name : List ℕ) → is_some (table_named name tables) ≡ true → is_some (table_named name others) ≡ true)
    → option_map_or (λ name. is_some (table_named name tables)) found true ≡ true
    → option_map_or (λ name. is_some (table_named name others)) found true ≡ true
refers_as None tables others there h = refl
refers_as (Some name) tables others there h = there name h

refers_alike : (tables others : Database) → AllZip HasShape tables others → (c : Column) → RefersInto tables c → RefersInto others c
refers_alike tables others same c h =
    refers_as (referred c.kind) tables others
    (λ name there. sym (named_alike (λ a b. is_some a ≡ is_some b) refl (λ t u alike. refl) name tables others same) ∙ there) h

pub refer_back_alike : (before before' after after' : Database) → AllZip HasShape before before' → AllZip HasShape after after'
    → ReferBack before after → ReferBack before' after'
refer_back_alike before before' [] [] same same' back = tt
refer_back_alike before before' [] (u ∷ after') same same' back = absurd same'
refer_back_alike before before' (t ∷ after) [] same same' back = absurd same'
refer_back_alike before before' (t ∷ after) (u ∷ after') same same' back = (
  subst (λ columns. All (RefersInto before') columns) same'.0.1
      (All-weaker (RefersInto before) (RefersInto before') (refers_alike before before' same) t.columns back.0),
  refer_back_alike (before ++ t ∷ []) (before' ++ u ∷ []) after after' (AllZip-push HasShape before before' t u same same'.0) same'.1 back.1,
)

-- ---- a table more

pub refer_back_more : (before after : Database) (t : Table) → ReferBack before after → All (RefersInto (before ++ after)) t.columns
    → ReferBack before (after ++ t ∷ [])
refer_back_more before [] t back refer = (subst (λ tables. All (RefersInto tables) t.columns) (append-nil before) refer, tt)
refer_back_more before (u ∷ after) t back refer = (
  back.0,
  refer_back_more (before ++ u ∷ []) after t back.1
      (subst (λ tables. All (RefersInto tables) t.columns) (sym (append_assoc before (u ∷ []) after)) refer),
)

pub held_with_more : (r : Reference) (tables : Database) (t : Table) → StaysHeld tables (tables ++ t ∷ []) r
held_with_more r [] t held = absurd (false≢true held)
held_with_more r (u ∷ tables) t held =
    elim (cases_Bool (is_named r.0 u)) [ inl e ↦ rw e (rw e at held) | inr f ↦ rw f (held_with_more r tables t (rw f at held)) ]

-- ---- a table less

-- no column of the table refers to the table of that name
abbrev pub RefersElsewhere : List ℕ → Table → Type 0
RefersElsewhere name table = list_any (refers_to name) table.columns ≡ false

-- a column that refers to a table that is there doesn't refer to one that isn't
refers_not : (name : List ℕ) (before : Database) (found : Option (List ℕ)) → is_some (table_named name before) ≡ false
    → option_map_or (λ m. is_some (table_named m before)) found true ≡ true → option_map_or (bytes_eq name) found false ≡ false
refers_not name before None absent h = refl
refers_not name before (Some m) absent h =
    false_from_ne_true (bytes_eq name m)
    (λ e. both_ways (is_some (table_named name before)) absent
    (subst (λ n. is_some (table_named n before) ≡ true) (sym ((bytes_eq-Decides name m).0 e)) h))

-- no table refers to itself
pub refers_not_to_itself : (before after : Database) (n : ℕ) (table : Table) → slice_get after n ≡ Some table
    → ReferBack before after
    → AllPairs (λ t u. t.name ≢ u.name) (before ++ after) → RefersElsewhere table.name table
refers_not_to_itself before [] n table there back apart = absurd (none-some table there)
refers_not_to_itself before (t ∷ after) zero table there back apart =
    let others = AllPairs-behind (λ (t u : Table). t.name ≢ u.name) before t after apart in
    let absent = not_found (is_named t.name) before
    (All-weaker (λ u. u.name ≢ t.name) (λ u. is_named t.name u ≡ false)
    (λ u other. false_from_ne_true (bytes_eq u.name t.name) (λ e. other ((bytes_eq-Decides u.name t.name).0 e))) before others) in
    subst (λ u. RefersElsewhere u.name u) (same_Some t table there)
    (list_any_none (refers_to t.name) t.columns
    (All-weaker (RefersInto before) (λ c. refers_to t.name c ≡ false)
    (λ c h. refers_not t.name before (referred c.kind) absent h) t.columns back.0))
refers_not_to_itself before (t ∷ after) (suc n) table there back apart =
    refers_not_to_itself (before ++ t ∷ []) after n table there back.1
    (subst (AllPairs (λ t u. t.name ≢ u.name)) (sym (append_assoc before (t ∷ []) after)) apart)

-- a table of another name is there without this one as well
named_without : (name : List ℕ) (before after : Database) (gone : Table) → is_named name gone ≡ false
    → table_named name (before ++ gone ∷ after) ≡ table_named name (before ++ after)
named_without name [] after gone other = rw other refl
named_without name (t ∷ before) after gone other = rw (named_without name before after gone other) refl

refers_past : (found : Option (List ℕ)) (before after : Database) (gone : Table) → option_map_or (bytes_eq gone.name) found false ≡ false
    → option_map_or (λ name. is_some (table_named name (before ++ gone ∷ after))) found true ≡ true
    → option_map_or (λ name. is_some (table_named name (before ++ after))) found true ≡ true
refers_past None before after gone other h = refl
refers_past (Some name) before after gone other h = rw (named_without name before after gone other) at h

refers_without : (before after : Database) (gone : Table) (c : Column) → refers_to gone.name c ≡ false → RefersInto (before ++ gone ∷ after) c
    → RefersInto (before ++ after) c
refers_without before after gone c other h = refers_past (referred c.kind) before after gone other h

refer_back_without : (before more after : Database) (gone : Table) → All (RefersElsewhere gone.name) after
    → ReferBack (before ++ gone ∷ more) after → ReferBack (before ++ more) after
refer_back_without before more [] gone other back = tt
refer_back_without before more (t ∷ after) gone other back =
    let apart = fails_where_none (refers_to gone.name) t.columns (All-head (RefersElsewhere gone.name) t after other) in (
      λ k d l. refers_without before more gone (get_or t.columns k d) (apart k d l) (back.0 k d l),
      subst (λ tables. ReferBack tables after) (sym (append_assoc before more (t ∷ [])))
          (refer_back_without before (more ++ t ∷ []) after gone (All-tail (RefersElsewhere gone.name) t after other)
          (subst (λ tables. ReferBack tables after) (append_assoc before (gone ∷ more) (t ∷ [])) back.1)),
    )

pub refer_back_removed : (before after : Database) (n : ℕ) (gone : Table) → slice_get after n ≡ Some gone
    → All (RefersElsewhere gone.name) after → ReferBack before after → ReferBack before (remove after n)
refer_back_removed before [] n gone there other back = absurd (none-some gone there)
refer_back_removed before (t ∷ after) zero gone there other back =
    let same : t ≡ gone = same_Some t gone there in
    subst (λ tables. ReferBack tables after) (append-nil before)
    (refer_back_without before [] after gone (All-tail (RefersElsewhere gone.name) t after other)
    (subst (λ u. ReferBack (before ++ u ∷ []) after) same back.1))
refer_back_removed before (t ∷ after) (suc n) gone there other back =
    (back.0, refer_back_removed (before ++ t ∷ []) after n gone there (All-tail (RefersElsewhere gone.name) t after other) back.1)

-- the tables of other names are still there
named_removed : (name : List ℕ) (tables : Database) (n : ℕ) (gone : Table) → slice_get tables n ≡ Some gone → is_named name gone ≡ false
    → table_named name (remove tables n) ≡ table_named name tables
named_removed name [] n gone there other = absurd (none-some gone there)
named_removed name (t ∷ tables) zero gone there other =
    let apart : is_named name t ≡ false = subst (λ u. is_named name u ≡ false) (sym (same_Some t gone there)) other in rw apart refl
named_removed name (t ∷ tables) (suc n) gone there other =
    ap (λ found. cond (is_named name t) (Some t) found) (named_removed name tables n gone there other)

-- a reference to a table of another name stays held
held_removed : (r : Reference) (tables : Database) (n : ℕ) (gone : Table) → slice_get tables n ≡ Some gone → is_named r.0 gone ≡ false
    → StaysHeld tables (remove tables n) r
held_removed r tables n gone there other held = rw (named_removed r.0 tables n gone there other) held

-- a reference that a column makes, if it makes one, before others
referred_elsewhere : (name : List ℕ) (found : Option (List ℕ)) (v : Value) (others : List Reference)
    → option_map_or (bytes_eq name) found false ≡ false → All (λ r. bytes_eq name r.0 ≡ false) others
    → All (λ r. bytes_eq name r.0 ≡ false) (cons_option (option_map (λ n. (n, v)) found) others)
referred_elsewhere name None v others other h = h
referred_elsewhere name (Some n) v others other h = All-cons (λ (r : Reference). bytes_eq name r.0 ≡ false) (n, v) others other h

reference_elsewhere : (name : List ℕ) (c : Column) (v : Value) (others : List Reference) → refers_to name c ≡ false
    → All (λ r. bytes_eq name r.0 ≡ false) others → All (λ r. bytes_eq name r.0 ≡ false) (cons_option (reference_of c v) others)
reference_elsewhere name c value.Null others other h = h
reference_elsewhere name c v others other h = referred_elsewhere name (referred c.kind) v others other h

-- columns that refer elsewhere make references elsewhere
pub references_elsewhere : (name : List ℕ) (columns : List Column) (row : Row) → list_any (refers_to name) columns ≡ false
    → All (λ r. bytes_eq name r.0 ≡ false) (references columns row)
references_elsewhere name [] row other = All-nil (λ r. bytes_eq name r.0 ≡ false)
references_elsewhere name (c ∷ columns) [] other = All-nil (λ r. bytes_eq name r.0 ≡ false)
references_elsewhere name (c ∷ columns) (v ∷ row) other =
    let parts = or_parts (refers_to name c) (list_any (refers_to name) columns) other in
    reference_elsewhere name c v (references columns row) parts.0 (references_elsewhere name columns row parts.1)

pub all_held_removed : (tables : Database) (n : ℕ) (gone : Table) → slice_get tables n ≡ Some gone
    → All (RefersElsewhere gone.name) tables → All (StaysHeld tables (remove tables n)) (flat_map table_references tables)
all_held_removed tables n gone there other =
    All-flat_map (StaysHeld tables (remove tables n)) table_references tables
    (λ k d l.
    let t : Table = get_or tables k d in
    All-flat_map (StaysHeld tables (remove tables n)) (references t.columns) t.rows
    (λ i e m.
    let row : Row = get_or t.rows i e in
    All-weaker (λ r. bytes_eq gone.name r.0 ≡ false) (StaysHeld tables (remove tables n))
    (λ r apart. held_removed r tables n gone there apart) (references t.columns row)
    (references_elsewhere gone.name t.columns row (other k d l))))
