use Rattle.std.proofs.Common.{rules}
use Rattle.plain_tables.specs.Reading.{lexeme, after_lexeme}
use Rattle.mm_lang.proofs.lexemes.split_lexeme.Goals as goal

pub returns-clause-lexeme : goal.returns-clause-lexeme
unfolding lexeme
returns-clause-lexeme c = search rules

pub returns-clause-after : goal.returns-clause-after
unfolding after_lexeme
returns-clause-after c = search rules
