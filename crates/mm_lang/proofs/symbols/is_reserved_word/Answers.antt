use Rattle.std.proofs.Common.{◌∙◌, sym}
use Rattle.mm_lang.proofs.Reserved.{reserved_of_length}
use Rattle.mm_lang.proofs.symbols.is_reserved_word.Goals as goal

pub returns-in-2 : goal.returns-in-2
returns-in-2 c = c.is_one_of.ensures ∙ sym (reserved_of_length c.args.word.now 2 c.in-2.is)

pub returns-in-3 : goal.returns-in-3
returns-in-3 c = c.is_one_of-in-3.ensures ∙ sym (reserved_of_length c.args.word.now 3 c.in-3.is)

pub returns-in-4 : goal.returns-in-4
returns-in-4 c = c.is_one_of-in-4.ensures ∙ sym (reserved_of_length c.args.word.now 4 c.in-4.is)

pub returns-in-5 : goal.returns-in-5
returns-in-5 c = c.is_one_of-in-5.ensures ∙ sym (reserved_of_length c.args.word.now 5 c.in-5.is)

pub returns-in-6 : goal.returns-in-6
returns-in-6 c = c.is_one_of-in-6.ensures ∙ sym (reserved_of_length c.args.word.now 6 c.in-6.is)

pub returns-in-8 : goal.returns-in-8
returns-in-8 c = c.is_one_of-in-8.ensures ∙ sym (reserved_of_length c.args.word.now 8 c.in-8.is)
