use Rattle.std.proofs.Common.{None, sym, arith}
use Rattle.std.proofs.lemmas.Str.Pattern.{split_parts}
use Rattle.mm_lang.proofs.Marks.{doubled-none}
use Rattle.mm_lang.proofs.texts.undoubled.Goals as goal

pub returns-in_ok-from_str-clause-text : goal.returns-in_ok-from_str-clause-text
returns-in_ok-from_str-clause-text c =
    rw c.in_ok-from_str.ensures.copy
    (sym (doubled-none c.args.marked.now (split_parts 39 c.args.marked.now None c.if-contains.ensures.cases (omega arith))))
