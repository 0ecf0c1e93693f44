-- What resolved commands leave: of other tables, of rows that aren't picked, of a database that they are refused of.
use Rattle.std.proofs.Common.{◌≡◌, ◌<◌, ℕ, zero, suc, true, false, not, length, map, set, get_or, arith, List, [], ◌∷◌, inl, inr, refl, sym, ap, ◌∙◌, subst, Some, ◌⊎◌}
use Rattle.std.specs.Prelude.{Ok, pos, ◌==◌}
use Rattle.std.specs.List.{list_any, slice_get}
use Rattle.std.proofs.lemmas.Bool.{or_parts, eqb-false, cond-true, cond-false}
use Rattle.std.proofs.lemmas.List.{length-set, get_or-set_same, get_or-set_other, set-set}
use Rattle.std.proofs.lemmas.List.Filters.{length-filter_both}
use Rattle.std.proofs.lemmas.Option.{none-some, same_Some, slice_get_within}
use Rattle.common_lemmas.proofs.Places.{slice_get-set_other, slice_get_set}
use Rattle.plain_tables.specs.Tables.{Table, Row}
use Rattle.plain_tables.specs.Databases.{Database}
use Rattle.plain_tables.specs.Queries.{value_at}
use Rattle.plain_tables.specs.Effects.{refused, grown_by}
use Rattle.plain_tables.specs.Doing.{passes_all, assigned, loaded, dump_checks, update_checks, delete_checks, updated, without, done}
use Rattle.plain_tables.specs.ResolvedLaws.{rows_table, rowless, ChangesRowsOf, OwnRowsChange, KeepsIfRefused, RefusedKeeps, RefusedUpdateKeeps, RefusedDeleteKeeps, UpdateKeepsUnpicked, is_to_column, assigns_twice, HasAssigned, UpdateSetsPicked, DeletesThePicked}
use Rattle.plain_tables.specs.declared.value.Value.TheVariants as value
use Rattle.plain_tables.specs.declared.refusal.Refusal.{Refusal}
use Rattle.plain_tables.specs.declared.command.Limits.{Limits}
use Rattle.plain_tables.specs.declared.numbers.TableNumber.{TableNumber}
use Rattle.plain_tables.specs.declared.resolved.Assignment.{Assignment}
use Rattle.plain_tables.specs.declared.resolved.Resolved.{Resolved}
use Rattle.plain_tables.specs.declared.resolved.Resolved.TheVariants as resolved
use Rattle.plain_tables.proofs.Effects.{of_table_satisfies, of_table_checked, insert_satisfies, loaded_satisfies, load_satisfies}
use Rattle.common_lemmas.proofs.Elements.{AllZip-map}
use Rattle.common_lemmas.proofs.Filters.{filter_others, filter_again}

-- ---- the tables that are left

-- an element in the place of one that f takes to the same
pub map_set_alike : {X Y : Type 0} (f : X → Y) (xs : List X) (n : ℕ) (old new : X) → slice_get xs n ≡ Some old → f new ≡ f old
    → map f (set xs n new) ≡ map f xs
map_set_alike f [] n old new there same = refl
map_set_alike f (x ∷ xs) zero old new there same = let here : x ≡ old = same_Some x old there in rw (same, here) refl
map_set_alike f (x ∷ xs) (suc n) old new there same = ap (λ ys. f x ∷ ys) (map_set_alike f xs n old new there same)

-- the tables are as before, or have a table that differs in rows in the place of one
abbrev HasOtherRows : TableNumber → Database → Database → Type 0
HasOtherRows n tables others =
    (others ≡ tables) ⊎ ((old : Table) × (new : Table) × (slice_get tables n.0 ≡ Some old) × (record new { rows = old.rows } ≡ old)
    × (others ≡ set tables n.0 new))

-- a table that differs in rows once more
other_rows_again : (tables others : Database) (n : TableNumber) (old new : Table) → HasOtherRows n tables others
    → slice_get others n.0 ≡ Some old
    → record new { rows = old.rows } ≡ old → HasOtherRows n tables (set others n.0 new)
other_rows_again tables others n old new (inl same) there alike =
    inr (old, new, subst (λ d. slice_get d n.0 ≡ Some old) same there, alike, ap (λ d. set d n.0 new) same)
other_rows_again tables others n old new (inr (first, last, at, before, same)) there alike =
    let here : slice_get others n.0 ≡ Some last =
    ap (λ d. slice_get d n.0) same ∙ slice_get_set tables n.0 last (slice_get_within tables n.0 first at) in
    let is : old ≡ last = same_Some old last (sym there ∙ here) in
    inr (
      first,
      new,
      at,
      ap {A = Table} {B = Table} (λ t. record t { rows = first.rows }) (alike ∙ is) ∙ before,
      ap (λ d. set d n.0 new) same ∙ set-set tables n.0 last new,
    )

-- so do the tables with rows loaded
loaded_has_other_rows : (limits : Limits) (tables : Database) (n : TableNumber) (k : ℕ) (rows : List Row) (new : Database)
    → loaded limits tables n k rows ≡ Ok new → HasOtherRows n tables new
loaded_has_other_rows limits tables n k rows new all =
    loaded_satisfies (λ left d. HasOtherRows n tables d) limits n
    (λ row left d so_far. insert_satisfies (λ e. HasOtherRows n tables e.database) limits d n row (λ why. so_far)
    (λ table there passed. other_rows_again tables d n table (grown_by row table) so_far there refl)) tables k rows new all
    (inl refl)

other_rows_satisfy : (P : Database → Type 0) (tables others : Database) (n : TableNumber) → HasOtherRows n tables others → P tables
    → ((old new : Table) → slice_get tables n.0 ≡ Some old → record new { rows = old.rows } ≡ old → P (set tables n.0 new))
    → P others
other_rows_satisfy P tables others n (inl same) here changed = subst P (sym same) here
other_rows_satisfy P tables others n (inr (old, new, there, alike, same)) here changed =
    subst P (sym same) (changed old new there alike)

-- A command on the rows of a table leaves the tables as they are, or with a table that differs in rows in the place of that one.
pub rows_satisfy : (P : Database → Type 0) (limits : Limits) (tables : Database) (r : Resolved) (n : TableNumber) → rows_table r ≡ Some n → P tables
    → ((old new : Table) → slice_get tables n.0 ≡ Some old → record new { rows = old.rows } ≡ old → P (set tables n.0 new))
    → P (done limits tables r).database
rows_satisfy P limits tables (resolved.Insert n row) m is old new =
    insert_satisfies (λ e. P e.database) limits tables n row (λ r. old)
    (λ table there passed. (rw (← same_Some n m is) at new) table (grown_by row table) there refl)
rows_satisfy P limits tables (resolved.Update n assignments tests) m is old new =
    of_table_checked (λ e. P e.database) n tables (λ table. update_checks tables table assignments) _ (λ r. old)
    (λ table there passed. (rw (← same_Some n m is) at new) table (updated assignments (passes_all tests) table) there refl)
rows_satisfy P limits tables (resolved.Delete n tests) m is old new =
    of_table_checked (λ e. P e.database) n tables (λ table. delete_checks tables table (passes_all tests)) _ (λ r. old)
    (λ table there passed. (rw (← same_Some n m is) at new) table (without (passes_all tests) table) there refl)
rows_satisfy P limits tables (resolved.Select query) m is old new = old
rows_satisfy P limits tables (resolved.Load n rows) m is old new =
    load_satisfies (λ e. P e.database) limits tables n rows (λ why. old)
    (λ others all. other_rows_satisfy P tables others n (loaded_has_other_rows limits tables n 1 rows others all) old
    (rw (← same_Some n m is) at new))
rows_satisfy P limits tables (resolved.Dump n) m is old new =
    of_table_checked (λ e. P e.database) n tables (dump_checks limits) _ (λ r. old) (λ table there passed. old)
rows_satisfy P limits tables other m is old new = absurd (none-some m is)

pub own_rows_change : OwnRowsChange
own_rows_change limits tables r n is =
    rows_satisfy (ChangesRowsOf n tables) limits tables r n is (record { all_but_rows = refl; others = λ k other. refl })
    (λ old new there same. record {
      all_but_rows = map_set_alike rowless tables n.0 old new there (ap rowless same);
      others = λ k other. slice_get-set_other tables n.0 k new other;
    })

-- ---- refusals

pub refusal_keeps : (tables : Database) (r : Refusal) → KeepsIfRefused tables (refused tables r)
refusal_keeps tables r why same = refl

pub refused_update_keeps : RefusedUpdateKeeps
refused_update_keeps tables n assignments picks =
    of_table_checked (KeepsIfRefused tables) n tables (λ table. update_checks tables table assignments) _ (refusal_keeps tables)
    (λ table there passed why same. cc)

pub refused_delete_keeps : RefusedDeleteKeeps
refused_delete_keeps tables n picks =
    of_table_checked (KeepsIfRefused tables) n tables (λ table. delete_checks tables table picks) _ (refusal_keeps tables)
    (λ table there passed why same. cc)

pub refused_keeps : RefusedKeeps
refused_keeps limits tables (resolved.Index n column k) =
    of_table_satisfies (KeepsIfRefused tables) n tables _ (refusal_keeps tables) (λ table there why same. cc)
refused_keeps limits tables (resolved.DropIndex n column k) =
    of_table_satisfies (KeepsIfRefused tables) n tables _ (refusal_keeps tables) (λ table there why same. cc)
refused_keeps limits tables (resolved.Insert n row) =
    insert_satisfies (KeepsIfRefused tables) limits tables n row (refusal_keeps tables) (λ table there passed why same. cc)
refused_keeps limits tables (resolved.Update n assignments tests) = refused_update_keeps tables n assignments (passes_all tests)
refused_keeps limits tables (resolved.Delete n tests) = refused_delete_keeps tables n (passes_all tests)
refused_keeps limits tables (resolved.Load n rows) =
    load_satisfies (KeepsIfRefused tables) limits tables n rows (refusal_keeps tables) (λ new all why same. cc)
refused_keeps limits tables (resolved.Dump n) =
    of_table_checked (KeepsIfRefused tables) n tables (dump_checks limits) _ (refusal_keeps tables) (λ table there passed why same. cc)
refused_keeps limits tables other = λ why same. cc

-- ---- update

pub update_keeps_unpicked : UpdateKeepsUnpicked
update_keeps_unpicked assignments picks table =
    AllZip-map (λ old new. picks old ≡ false → new ≡ old) _
    (λ row other. cond-false (picks row) (assigned assignments row) row other) table.rows

assigned_length : (assignments : List Assignment) (row : Row) → length (assigned assignments row) ≡ length row
assigned_length [] row = refl
assigned_length (a ∷ assignments) row =
    assigned_length assignments (set row a.column.0 a.value) ∙ length-set row a.column.0 a.value

kept_value : (assignments : List Assignment) (row : Row) (column : ℕ) → list_any (is_to_column column) assignments ≡ false
    → value_at (assigned assignments row) column ≡ value_at row column
kept_value [] row column none = refl
kept_value (a ∷ assignments) row column none =
    let parts = or_parts (a.column.0 == column) (list_any (is_to_column column) assignments) none in
    kept_value assignments (set row a.column.0 a.value) column parts.1
    ∙ get_or-set_other row a.column.0 column a.value (value.Int (pos 0)) (λ e. eqb-false a.column.0 column parts.0 (sym e))

set_value : (assignments : List Assignment) (row : Row) (k : ℕ) (a : Assignment) → assigns_twice assignments ≡ false
    → k < length assignments → get_or assignments k a ≡ a → a.column.0 < length row
    → value_at (assigned assignments row) a.column.0 ≡ a.value
set_value [] row k a apart below there within = absurd (omega arith)
set_value (b ∷ assignments) row zero a apart below there within =
    let parts = or_parts (list_any (is_to_column b.column.0) assignments) (assigns_twice assignments) apart in
    let others : list_any (is_to_column a.column.0) assignments ≡ false =
    subst (λ (c : Assignment). list_any (is_to_column c.column.0) assignments ≡ false) there parts.0 in
    subst (λ (c : Assignment). value_at (assigned assignments (set row c.column.0 c.value)) a.column.0 ≡ a.value) (sym there)
    (kept_value assignments (set row a.column.0 a.value) a.column.0 others
    ∙ get_or-set_same row a.column.0 a.value (value.Int (pos 0)) within)
set_value (b ∷ assignments) row (suc k) a apart below there within =
    let parts = or_parts (list_any (is_to_column b.column.0) assignments) (assigns_twice assignments) apart in
    set_value assignments (set row b.column.0 b.value) k a parts.1 (omega arith) there
    (let same = length-set row b.column.0 b.value in omega arith)

pub update_sets_picked : UpdateSetsPicked
update_sets_picked assignments picks table apart =
    AllZip-map (λ old new. picks old ≡ true → HasAssigned assignments old new) _
    (λ row here.
    subst (HasAssigned assignments row) (sym (cond-true (picks row) (assigned assignments row) row here))
    (record {
      set = λ a there within. set_value assignments row there.0 a apart there.1 there.2 within;
      kept = λ column none. kept_value assignments row column none;
      as_long = assigned_length assignments row;
    })) table.rows

-- ---- delete

pub deletes_the_picked : DeletesThePicked
deletes_the_picked picks table = record {
  none_picked = filter_others picks table.rows;
  others = filter_again (λ row. not (picks row)) table.rows;
  counted = let both = length-filter_both picks (λ row. not (picks row)) (λ row. refl) table.rows in omega arith;
}
