use Rattle.plain_streams.proofs.Texts.{no_texts, texts_stay_utf8}
use Rattle.plain_streams.proofs.laws.texts_stay_utf8.Goals as goal

pub returns-clause-none : goal.returns-clause-none
returns-clause-none c = no_texts

pub returns-clause-run : goal.returns-clause-run
returns-clause-run c = texts_stay_utf8
