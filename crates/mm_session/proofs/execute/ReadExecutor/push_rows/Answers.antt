use Rattle.std.proofs.Common.{◌≡◌, ◌∙◌, ◌++◌, ◌∷◌, [], List, IsSome, ap, sym, refl, append_assoc, map, ◌⊎◌}
use Rattle.std.proofs.lemmas.List.{map-append}
use Rattle.plain_tables.specs.declared.refusal.Refusal.TheVariants as refusal
use Rattle.mm_session.specs.Dumps.{IsGivenUp}
use Rattle.std.specs.FinMap as finite
use Rattle.part_raw.specs.declared.tuple_ref.TupleRef.{TupleRef}
use Rattle.ttree.specs.Held.{rest_of}
use Rattle.mm_catalog.specs.Picked.{seen_values}
use Rattle.temp_list.proofs.Walks.{holds_next}
use Rattle.mm_session.proofs.Dumps.{records_more, refused_at, handed_on}
use Rattle.mm_session.proofs.execute.ReadExecutor.push_rows.Goals as goal
use Rattle.mm_relation.specs.State.{tree_list}

pub push_within-requires-clause-held : goal.push_within-requires-clause-held
push_within-requires-clause-held c =
    let split = c.loop-r.invariant.split ∙ ap (λ (rs : List TupleRef). c.loop-r.yielded ++ rs) c.in-Some.ensures.steps in
    holds_next (λ r. IsSome (finite.get c.args.relation.now.rows r)) (tree_list c.args.relation.now.by_key) c.loop-r.yielded (rest_of c.next.new.self) c.in-Some.r split
    c.a_relation_is_kept.ensures.keyed.lists.held

pub loop-r-preserved : goal.loop-r-preserved
loop-r-preserved c =
    let seen = seen_values c.args.catalog.now c.args.relation.now in
    record {
      split = c.loop-r.invariant.split ∙ ap (λ (rs : List TupleRef). c.loop-r.yielded ++ rs) c.in-Some.ensures.steps
          ∙ sym (append_assoc c.loop-r.yielded (c.in-Some.r ∷ []) (rest_of c.next.new.self));
      written = (
        records_more seen c.args.records.now.bytes c.loop-r.records.bytes c.push_within.new.records.bytes c.loop-r.yielded c.in-Some.r _ c.loop-r.invariant.written.0 c.in_ok-push_within.ensures.pushed.0 refl,
        c.in_ok-push_within.ensures.pushed.1,
      );
      ended = c.in_ok-push_within.ensures.ended;
    }

pub returns-in_err-push_within-clause-refused : goal.returns-in_err-push_within-clause-refused
returns-in_err-push_within-clause-refused c =
    let seen = seen_values c.args.catalog.now c.args.relation.now in
    let rest = rest_of c.next.new.self in
    let rows = map seen (tree_list c.args.relation.now.by_key) in
    let steps = c.loop-r.invariant.split ∙ ap (λ (rs : List TupleRef). c.loop-r.yielded ++ rs) c.in-Some.ensures.steps in
    let split : rows ≡ map seen c.loop-r.yielded ++ seen c.in-Some.r ∷ map seen rest = ap (map seen) steps ∙ map-append seen c.loop-r.yielded (c.in-Some.r ∷ rest) in
    handed_on (λ e. (e ≡ refusal.NoMemory) ⊎ ((e ≡ refusal.DumpTooLong) × IsGivenUp c.args.limit c.args.records.now.bytes c.push_within.new.records.bytes rows))
    c.from_residual.result c.in_err-push_within.field-0.0 c.from_residual.ensures.1
    (refused_at c.args.limit c.args.records.now.bytes c.loop-r.records.bytes c.push_within.new.records.bytes rows (map seen c.loop-r.yielded) (map seen rest) (seen c.in-Some.r) _ split
    c.loop-r.invariant.written c.in_err-push_within.ensures.refused)
