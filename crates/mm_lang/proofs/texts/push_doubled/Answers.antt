use Rattle.std.proofs.Common.{Some, arith, subst}
use Rattle.std.specs.Str.{IsUtf8}
use Rattle.std.proofs.lemmas.Str.Pattern.{split_parts}
use Rattle.mm_lang.proofs.Marks.{doubled-step, doubled-last}
use Rattle.plain_tables.proofs.Utf8Parts.{utf8-behind}
use Rattle.mm_lang.proofs.texts.push_doubled.Goals as goal

pub loop-part-preserved : goal.loop-part-preserved
loop-part-preserved g c =
    let parts = split_parts 39 c.loop-part.rest.now (Some (c.in-Some.part, c.in-Some.behind)) c.in-Some.ensures.cases (omega arith) in (
      utf8-behind c.in-Some.part.now 39 c.in-Some.behind.now (omega arith) (subst IsUtf8 parts.0 c.loop-part.invariant.0),
      doubled-step _ _ _ c.in-Some.part.now c.in-Some.behind.now c.loop-part.rest.now _ c.in_ok-push_str.ensures.bytes
          c.in_ok-push_str-2.ensures.bytes parts.0 parts.1 c.loop-part.invariant.1,
    )

pub returns : goal.returns
returns g c =
    let parts = split_parts 39 c.loop-part.rest.now c.split_once.result c.split_once.ensures.cases (omega arith) in
    doubled-last _ _ c.loop-part.rest.now _ c.in_ok-push_str-3.ensures.bytes (rw c.in_default.is at parts) c.loop-part.invariant.1
