use Rattle.std.proofs.Common.{Some, ap, ◌∙◌, arith}
use Rattle.mm_relation.specs.State.{linked_keys}
use Rattle.mm_catalog.proofs.Among.{among_at}
use Rattle.mm_catalog.proofs.IndexShapes.{numbered_within, numbered, numbered_has_tree, numbered_has_hash, tells_hash}
use Rattle.mm_catalog.proofs.Tables.{database-length}
use Rattle.mm_catalog.proofs.TreeShapes.{tells_tree}
use Rattle.mm_catalog.proofs.catalog.Catalog.index_at.Goals as goal

pub at-relation-requires : goal.at-relation-requires
at-relation-requires c =
    let within = c.requires.table in
    omega (arith, within, database-length c.args.self.now c.a_catalog_is_consistent.ensures.named)

pub declaration_at-kind-requires : goal.declaration_at-kind-requires
declaration_at-kind-requires c =
    numbered_within c.args.self.now c.a_catalog_is_consistent.ensures c.args.table.0 c.at-relation.result.now c.at-relation.ensures c.args.number c.requires.number

pub tree_shape-requires : goal.tree_shape-requires
tree_shape-requires c =
    numbered_has_tree c.args.self.now c.a_catalog_is_consistent.ensures c.args.table.0 c.at-relation.result.now c.at-relation.ensures c.args.number c.declaration_at-kind.result c.declaration_at-kind.ensures c.in-Tree.is

pub hash_shape-requires : goal.hash_shape-requires
hash_shape-requires c =
    numbered_has_hash c.args.self.now c.a_catalog_is_consistent.ensures c.args.table.0 c.at-relation.result.now c.at-relation.ensures c.args.number c.declaration_at-kind.result c.declaration_at-kind.ensures c.in-Hash.is

pub returns-in-Tree : goal.returns-in-Tree
returns-in-Tree c =
    let s = c.args.self.now in
    let ok = c.a_catalog_is_consistent.ensures in
    let r = c.at-relation.result.now in
    let there = c.at-relation.ensures in
    let d = c.declaration_at-kind.result in
    let is = c.declaration_at-kind.ensures in
    let current = (among_at s ok c.args.table.0 r there).current in
    record {
      declared = numbered s ok c.args.table.0 r there c.args.number d is ∙ ap (λ kind. Some (d.column.0, kind)) c.in-Tree.is;
      stands =
          tells_tree s ok c.args.table.0 d.column.0 r c.tree_shape.result there (numbered_has_tree s ok c.args.table.0 r there c.args.number d is c.in-Tree.is)
          c.tree_shape.ensures.told c.tree_shape.ensures.kept (c.tree_shape.ensures.declared (linked_keys r.targets s.relations) current);
    }

pub returns-in-Hash : goal.returns-in-Hash
returns-in-Hash c =
    let s = c.args.self.now in
    let ok = c.a_catalog_is_consistent.ensures in
    let r = c.at-relation.result.now in
    let there = c.at-relation.ensures in
    let d = c.declaration_at-kind.result in
    let is = c.declaration_at-kind.ensures in
    let current = (among_at s ok c.args.table.0 r there).current in
    record {
      declared = numbered s ok c.args.table.0 r there c.args.number d is ∙ ap (λ kind. Some (d.column.0, kind)) c.in-Hash.is;
      stands =
          tells_hash s ok c.args.table.0 r there d.column.0 c.hash_shape.result (numbered_has_hash s ok c.args.table.0 r there c.args.number d is c.in-Hash.is)
          c.hash_shape.ensures.told c.hash_shape.ensures.buckets (c.hash_shape.ensures.rows (linked_keys r.targets s.relations) current);
    }
