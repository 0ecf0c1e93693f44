use Rattle.std.proofs.Common.{length-append, arith}
use Rattle.mm_session.proofs.ShortTexts.{length-words}
use Rattle.mm_session.proofs.answer.records.push_refusal.Goals as goal

pub returns-in_err-push_record_number-clause-short : goal.returns-in_err-push_record_number-clause-short
returns-in_err-push_record_number-clause-short c = grind (arith, length-append, length-words c.args.refusal)

pub returns-clause-short : goal.returns-clause-short
returns-clause-short c = grind (arith, length-append, length-words c.args.refusal)
