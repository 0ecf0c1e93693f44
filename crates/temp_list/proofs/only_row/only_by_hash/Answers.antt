use Rattle.std.proofs.Common.{◌≡◌, ◌∙◌, ◌++◌, ◌%◌, ◌^◌, Bool, List, is_some, append-nil, ap, filter, get_or, refl, subst, sym}
use Rattle.std.proofs.lemmas.List.Elements.{at_read}
use Rattle.lin_hash.specs.RowRest.{row_chain_rest}
use Rattle.mm_index.specs.Bag.{IsSameBag, with_hash}
use Rattle.mm_relation.proofs.Listings.{next_listed}
use Rattle.mm_relation.specs.Changes.{entries_of}
use Rattle.part_raw.specs.declared.tuple_ref.TupleRef.{TupleRef}
use Rattle.plain_tables.specs.Hashes.{low_hash}
use Rattle.plain_tables.specs.declared.resolved.Test.{Test}
use Rattle.temp_list.specs.Reading.{row_passes}
use Rattle.temp_list.proofs.Searches.{hash_held}
use Rattle.temp_list.proofs.Selects.{passes_equality}
use Rattle.temp_list.proofs.OnlyRow.{asked_column, asked_hash, now_only, only_in_chain, seen_more, still_only}
use Rattle.temp_list.proofs.only_row.only_by_hash.Goals as goal

pub loop-r-init : goal.loop-r-init
loop-r-init g c =
    let s = c.args.relation.now in
    let test = c.index-tests-n.result in
    let chain : List TupleRef = row_chain_rest c.into_iter-r-iterator.result in
    record {
      chain = at_read c.args.tests.now (λ (t : Test). IsSameBag chain (with_hash (low_hash t.value) (entries_of s t.column.0))) c.args.n test c.requires.fits.0 c.index-tests-n.is
          (subst (λ hash. IsSameBag chain (with_hash hash (entries_of s test.column.0))) (c.low_bits-hash.ensures ∙ ap (λ h. h % 2 ^ 32) c.hash_of_sought.ensures ∙ ap low_hash c.sought.ensures)
          (subst (λ it. IsSameBag (row_chain_rest it) (with_hash c.low_bits-hash.result (entries_of s test.column.0))) (sym c.into_iter-r-iterator.ensures.into_iter_gives)
          c.chain_of-r-items.ensures));
      only = refl;
    }

pub passes_all-requires-clause-held : goal.passes_all-requires-clause-held
passes_all-requires-clause-held g c =
    let relations = g.R.Relations.tables c.args.tables.now in
    let s = c.args.relation.now in
    let tests = c.args.tests.now in
    let test = c.index-tests-n.result in
    let all : List TupleRef = c.loop-r.yielded ++ row_chain_rest c.loop-r.r-iterator in
    hash_held relations s test.column.0 c.a_relation_is_kept.ensures c.requires.current (asked_column s tests c.args.n c.requires.fits.0 test c.index-tests-n.is c.requires.columns)
    (asked_hash s tests c.args.n c.requires.fits.0 test c.index-tests-n.is c.requires.fits.1) test.value all
    (subst (λ (t : Test). IsSameBag all (with_hash (low_hash t.value) (entries_of s t.column.0))) (sym c.index-tests-n.is) (c.loop-r.invariant.chain test)) c.in-Some.r
    (next_listed c.loop-r.yielded (row_chain_rest c.loop-r.r-iterator) (row_chain_rest c.next.new.self) c.in-Some.r c.in-Some.ensures.steps)

pub loop-r-preserved-else-is_some : goal.loop-r-preserved-else-is_some
loop-r-preserved-else-is_some g c =
    let s = c.args.relation.now in
    let tests = c.args.tests.now in
    let p : TupleRef → Bool = row_passes (g.R.Relations.tables c.args.tables.now) s tests in
    record {
      chain = λ d.
          subst (λ (refs : List TupleRef). IsSameBag refs (with_hash (low_hash (get_or tests c.args.n d).value) (entries_of s (get_or tests c.args.n d).column.0)))
          (seen_more c.loop-r.yielded (row_chain_rest c.loop-r.r-iterator) (row_chain_rest c.next.new.self) c.in-Some.r c.in-Some.ensures.steps) (c.loop-r.invariant.chain d);
      only = now_only p c.loop-r.yielded c.loop-r.found c.loop-r.invariant.only c.in-Some.r c.replace.new.self c.replace.ensures.after
          (ap is_some (sym c.replace.ensures.value) ∙ sym c.is_some.ensures ∙ c.if-is_some.false) (sym c.passes_all.ensures ∙ c.if-passes_all.true);
    }

pub loop-r-preserved : goal.loop-r-preserved
loop-r-preserved g c =
    let s = c.args.relation.now in
    let tests = c.args.tests.now in
    let p : TupleRef → Bool = row_passes (g.R.Relations.tables c.args.tables.now) s tests in
    record {
      chain = λ d.
          subst (λ (refs : List TupleRef). IsSameBag refs (with_hash (low_hash (get_or tests c.args.n d).value) (entries_of s (get_or tests c.args.n d).column.0)))
          (seen_more c.loop-r.yielded (row_chain_rest c.loop-r.r-iterator) (row_chain_rest c.next.new.self) c.in-Some.r c.in-Some.ensures.steps) (c.loop-r.invariant.chain d);
      only = still_only p c.loop-r.yielded c.loop-r.found c.loop-r.invariant.only c.in-Some.r (sym c.passes_all.ensures ∙ c.if-passes_all.false);
    }

pub returns : goal.returns
returns g c =
    let relations = g.R.Relations.tables c.args.tables.now in
    let s = c.args.relation.now in
    let tests = c.args.tests.now in
    let test = c.index-tests-n.result in
    let all : List TupleRef = c.loop-r.yielded ++ row_chain_rest c.loop-r.r-iterator in
    let whole : all ≡ c.loop-r.yielded = ap (λ (rest : List TupleRef). c.loop-r.yielded ++ rest) c.in-None.ensures.steps.0 ∙ append-nil c.loop-r.yielded in
    only_in_chain relations s c.a_relation_is_kept.ensures tests test.column.0 c.requires.current (asked_column s tests c.args.n c.requires.fits.0 test c.index-tests-n.is c.requires.columns)
    (asked_hash s tests c.args.n c.requires.fits.0 test c.index-tests-n.is c.requires.fits.1) test.value
    (passes_equality relations s tests c.args.n test c.requires.fits.0 c.index-tests-n.is c.requires.fits.1) all
    (subst (λ (t : Test). IsSameBag all (with_hash (low_hash t.value) (entries_of s t.column.0))) (sym c.index-tests-n.is) (c.loop-r.invariant.chain test)) c.loop-r.found
    (ap (filter (row_passes relations s tests)) whole ∙ c.loop-r.invariant.only)
