-- The order of a relation's keys is told by its rows.
use Rattle.std.proofs.Common.{◌≡◌, ◌≢◌, List, Some, IsSome, refl, subst, get_or}
use Rattle.std.specs.List.{All}
use Rattle.std.specs.Option.{option_cmp}
use Rattle.std.specs.FinMap.{get, insert, remove}
use Rattle.std.proofs.lemmas.List.Elements.{All-contains, All-contains_itself}
use Rattle.std.specs.declared.cmp.Ordering.{Ordering}
use Rattle.std.specs.declared.cmp.Ordering.TheVariants.{Equal}
use Rattle.part_raw.specs.declared.tuple_ref.TupleRef.{TupleRef}
use Rattle.part_raw.specs.Store.{Tuples}
use Rattle.mm_index.specs.Order.{insert_placed, remove_by}
use Rattle.plain_tables.specs.Values.{value_cmp}
use Rattle.mm_relation.specs.Rows.{Row}
use Rattle.mm_relation.specs.Order.{column_cmp, column_cmp_total}
use Rattle.mm_relation.specs.Reading.{value_at}
use Rattle.mm_relation.specs.State.{tree_list, RelationState, IsKept, IsKeyed, HasKey, no_keys}
use Rattle.mm_relation.proofs.KeyOrder.{has_key, keyed_with, keyed_without}
use Rattle.mm_catalog.specs.Deleted.{IsGone}
use Rattle.mm_catalog.specs.Hidden.{IsMore}
use Rattle.mm_catalog.proofs.Rising.{rising_same}

pub keyed_unique : (rows : Tuples Row) (xs ys : List TupleRef) → IsKeyed rows xs → IsKeyed rows ys → xs ≡ ys
keyed_unique rows xs ys a b =
    rising_same (column_cmp no_keys 0 rows) (column_cmp_total no_keys 0 rows) xs ys a.rising b.rising
    (λ q h. b.lists.listed q (All-contains (λ r. IsSome (get rows r)) xs q a.lists.held h))
    (λ q h. a.lists.listed q (All-contains (λ r. IsSome (get rows r)) ys q b.lists.held h))

-- how the key of a row stands to that of one that comes in
abbrev pub place_beside : Tuples Row → TupleRef → Row → TupleRef → Ordering
place_beside rows r row q = option_cmp value_cmp (value_at no_keys 0 (insert rows r row) q) (Some row.key)

module _ (old new : RelationState) (kept : IsKept old) (now : IsKept new) (r : TupleRef) where
  module _ (row : Row) (inserted : IsMore old new r row) (absent : HasKey old.rows row.key → ⊥) where
    pub none_equal : All (λ q. place_beside old.rows r row q ≢ Equal) (tree_list old.by_key)
    none_equal = λ k d l e. absent (has_key old.rows (tree_list old.by_key) r row kept.keyed inserted.free (get_or (tree_list old.by_key) k d) (All-contains_itself (tree_list old.by_key) k d l) e)

    -- a row that comes in stands between those of lesser and of greater keys
    pub keys_inserted : (tree_list new.by_key) ≡ insert_placed (place_beside old.rows r row) r (tree_list old.by_key)
    keys_inserted =
        keyed_unique (insert old.rows r row) (tree_list new.by_key) (insert_placed (place_beside old.rows r row) r (tree_list old.by_key))
        (subst (λ rows. IsKeyed rows (tree_list new.by_key)) inserted.rows now.keyed)
        (keyed_with old.rows (tree_list old.by_key) r row kept.keyed inserted.free none_equal (insert_placed (place_beside old.rows r row) r (tree_list old.by_key)) refl)

  -- one that goes out is the only one to go
  pub keys_removed : IsSome (get old.rows r) → IsGone old new r → (tree_list new.by_key) ≡ remove_by (column_cmp no_keys 0 old.rows) r (tree_list old.by_key)
  keys_removed held removed =
      keyed_unique (remove old.rows r) (tree_list new.by_key) (remove_by (column_cmp no_keys 0 old.rows) r (tree_list old.by_key))
      (subst (λ rows. IsKeyed rows (tree_list new.by_key)) removed.rows now.keyed)
      (keyed_without old.rows (tree_list old.by_key) r kept.keyed held (remove_by (column_cmp no_keys 0 old.rows) r (tree_list old.by_key)) refl)
