use Rattle.std.proofs.Common.{◌≡◌, ◌≢◌, ◌-◌, ◌∙◌, ℕ, List, drop, length, take, sym, ap, subst, arith}
use Rattle.std.specs.List.{AllPairs}
use Rattle.part_raw.specs.declared.tuple_ref.TupleRef.{TupleRef}
use Rattle.mm_catalog.specs.Loaded.{AreFreeRows, HaveGone}
use Rattle.mm_catalog.specs.Outline.{outline_of, without_rows}
use Rattle.mm_catalog.specs.Picked.{HoldsRows}
use Rattle.mm_catalog.specs.State.{CatalogState}
use Rattle.mm_catalog.proofs.Lists.{rest_whole}
use Rattle.mm_catalog.proofs.Tables.{database-length}
use Rattle.mm_catalog.proofs.catalog.Catalog.unload.Goals as goal

pub at-requires : goal.at-requires
at-requires c = omega (arith, c.requires.there, database-length c.args.self.now c.a_catalog_is_consistent.ensures.named)

-- the part of a list from a place on
part : (all refs : List TupleRef) (start : ℕ) → all ≡ refs → drop start refs ≡ take (length all - start) (drop start all)
part all refs start same = ap (drop start) (sym same) ∙ sym (rest_whole all start)

pub take_many_back-requires-clause-held : goal.take_many_back-requires-clause-held
take_many_back-requires-clause-held c =
    subst (HoldsRows c.args.self.now c.args.table.0) (part c.deref_mut.result.now c.args.came.now.items c.args.start c.deref_mut.ensures.value) c.requires.held

pub take_many_back-requires-clause-once : goal.take_many_back-requires-clause-once
take_many_back-requires-clause-once c =
    subst (λ (refs : List TupleRef). AllPairs (λ q r. q ≢ r) refs) (part c.deref_mut.result.now c.args.came.now.items c.args.start c.deref_mut.ensures.value) c.requires.once

pub take_many_back-requires-clause-free : goal.take_many_back-requires-clause-free
take_many_back-requires-clause-free c =
    subst (AreFreeRows c.args.self.now c.args.table.0) (part c.deref_mut.result.now c.args.came.now.items c.args.start c.deref_mut.ensures.value) c.requires.free

pub returns-clause-gone : goal.returns-clause-gone
returns-clause-gone c =
    subst (HaveGone c.args.self.now c.take_many_back.new.self c.args.table.0) (sym (part c.deref_mut.result.now c.args.came.now.items c.args.start c.deref_mut.ensures.value))
    c.take_many_back.ensures.gone

pub returns-clause-outline : goal.returns-clause-outline
returns-clause-outline c =
    let old : CatalogState = c.args.self.now in
    c.take_many_back.ensures.outline
    ∙ ap (λ (refs : List TupleRef). without_rows c.args.table.0 refs (outline_of old)) (sym (part c.deref_mut.result.now c.args.came.now.items c.args.start c.deref_mut.ensures.value))
