-- What a catalog tells of the trees of its tables.
use Rattle.std.proofs.Common.{◌≡◌, ℕ, ◌<◌, ◌≤◌, ◌+◌, length, Some, sym, ap, ◌∙◌, subst, arith, slice_get}
use Rattle.std.specs.Option.{option_map}
use Rattle.std.specs.FinMap.{len}
use Rattle.std.proofs.lemmas.List.{length-map}
use Rattle.std.proofs.lemmas.Option.{slice_get_within}
use Rattle.common_lemmas.proofs.Places.{slice_get-inside}
use Rattle.plain_tables.specs.Tables.{Table}
use Rattle.ttree.specs.Held.{height}
use Rattle.ttree.specs.Shape.{HasShape, IsWellShaped, fib}
use Rattle.ttree.specs.declared.shape.TreeShape.{TreeShape}
use Rattle.mm_relation.specs.Changes.{HasTree, tree_on}
use Rattle.mm_relation.specs.State.{RelationState, tree_list}
use Rattle.mm_catalog.specs.Consistent.{IsConsistent}
use Rattle.mm_catalog.specs.Seen.{database_of, table_of, rows_of}
use Rattle.mm_catalog.specs.State.{CatalogState}
use Rattle.mm_catalog.specs.Trees.{TellsTree}
use Rattle.mm_catalog.proofs.Among.{among_at}
use Rattle.mm_catalog.proofs.Tables.{database-get}

-- a table has as many rows as its relation
pub database-rows : (c : CatalogState) → length c.names ≡ length c.relations → (n : ℕ) (s : RelationState) → slice_get c.relations n ≡ Some s
    → option_map (λ (t : Table). length t.rows) (slice_get (database_of c) n) ≡ Some (length (tree_list s.by_key))
unfolding table_of rows_of
database-rows c named n s e =
    let within : n < length c.names = omega (arith, named, slice_get_within c.relations n s e) in
    let name = slice_get-inside c.names n within in
    ap (option_map (λ (t : Table). length t.rows)) (database-get c named n name.0 s name.1 e)
    ∙ ap (λ (rows : ℕ). Some rows) (length-map (tree_list s.by_key) _)

module _ (c : CatalogState) (ok : IsConsistent c) where
  pub tells_tree : (table column : ℕ) (s : RelationState) (shape : TreeShape) → slice_get c.relations table ≡ Some s → HasTree s column
      → HasShape (tree_on s column) shape → IsWellShaped 30 32 (tree_on s column) → shape.items ≡ len s.rows → TellsTree c table column shape
  tells_tree table column s shape there on told kept items =
      let among = among_at c ok table s there in
      record {
        relation = s;
        there = there;
        on_column = on;
        told = told;
        kept = kept;
        rows = database-rows c ok.named table s there ∙ ap (λ (rows : ℕ). Some rows) (among.kept.keyed.lists.count ∙ sym items);
        low = subst (λ (h : ℕ). fib (h + 2) ≤ 1 + shape.items) (sym told.height) (subst (λ (n : ℕ). fib (height (tree_on s column) + 2) ≤ 1 + n) (sym told.items) kept.low);
      }
