use Rattle.std.proofs.Common.{◌∙◌, ◌++◌, sym, ap, subst, List, ◌%◌, ◌^◌}
use Rattle.std.proofs.lemmas.List.{append-nil}
use Rattle.mm_index.specs.Bag.{IsSameBag, with_hash}
use Rattle.part_raw.specs.declared.tuple_ref.TupleRef.{TupleRef}
use Rattle.plain_tables.specs.Hashes.{low_hash}
use Rattle.mm_relation.specs.Changes.{entries_of}
use Rattle.lin_hash.specs.RowRest.{row_chain_rest}
use Rattle.mm_relation.proofs.Listings.{next_listed}
use Rattle.temp_list.proofs.Searches.{hash_held, hash_range}
use Rattle.temp_list.proofs.search.rows_by_hash.Goals as goal

pub loop-r-init : goal.loop-r-init
loop-r-init g c = record {
  chain = subst (λ hash. IsSameBag (row_chain_rest c.into_iter-r-iterator.result) (with_hash hash (entries_of c.args.relation.now c.args.column.0))) (c.low_bits.ensures ∙ ap (λ h. h % 2 ^ 32) c.hash_of_sought.ensures)
      (subst (λ chain. IsSameBag (row_chain_rest chain) (with_hash c.low_bits.result (entries_of c.args.relation.now c.args.column.0))) (sym c.into_iter-r-iterator.ensures.into_iter_gives)
      c.chain_of-r-items.ensures);
  found = sym (append-nil c.args.out.now.items);
}

pub read-requires-clause-held : goal.read-requires-clause-held
read-requires-clause-held g c =
    hash_held (g.R.Relations.tables c.args.tables.now) c.args.relation.now c.args.column.0 c.a_relation_is_kept.ensures c.requires.current c.requires.within c.requires.has_hash c.args.value.now
    (c.loop-r.yielded ++ row_chain_rest c.loop-r.r-iterator) c.loop-r.invariant.chain c.in-Some.r
    (next_listed c.loop-r.yielded (row_chain_rest c.loop-r.r-iterator) (row_chain_rest c.next.new.self) c.in-Some.r c.in-Some.ensures.steps)

pub returns-clause-ok : goal.returns-clause-ok
returns-clause-ok g c = (
  _,
  c.loop-r.invariant.found,
  hash_range (g.R.Relations.tables c.args.tables.now) c.args.relation.now c.args.column.0 c.a_relation_is_kept.ensures c.requires.current c.requires.within c.requires.has_hash c.args.value.now
      c.loop-r.yielded
      (subst (λ (chain : List TupleRef). IsSameBag chain (with_hash (low_hash c.args.value.now) (entries_of c.args.relation.now c.args.column.0)))
      (ap (λ (rest : List TupleRef). c.loop-r.yielded ++ rest) c.in-None.ensures.steps.0 ∙ append-nil c.loop-r.yielded) c.loop-r.invariant.chain),
)
