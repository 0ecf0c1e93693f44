use Rattle.std.proofs.Common.{◌∷◌, ◌++◌, [], sym, subst, arith}
use Rattle.std.proofs.lemmas.List.{length-append}
use Rattle.mm_catalog.specs.Indexes.{TellsIndex}
use Rattle.mm_session.specs.IndexAnswers.{index_line}
use Rattle.mm_session.proofs.Indexes.{told_more, records_more}
use Rattle.mm_session.proofs.execute.indexes.push_indexes.Goals as goal

pub loop-number-preserved : goal.loop-number-preserved
loop-number-preserved c =
    let i = c.loop-number.invariant in
    let x = c.index_at.result in
    let longer = length-append i.0 (x ∷ []) in
    let many = i.1 in (
      i.0 ++ x ∷ [],
      omega (arith, longer, many),
      told_more c.args.catalog.now c.args.table.0 i.0 x i.2 (subst (λ n. TellsIndex c.args.catalog.now c.args.table.0 n x) (sym many) c.index_at.ensures),
      records_more (index_line c.columns-columns.result.now) c.loop-number.answer c.push_index.new.answer c.args.answer.now i.0 x i.3 c.in_ok-push_index.ensures,
    )
