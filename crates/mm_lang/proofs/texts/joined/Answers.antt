use Rattle.std.proofs.Common.{◌≡◌, ◌∷◌, [], None, Some, arith, subst}
use Rattle.std.specs.Str.{IsUtf8}
use Rattle.std.specs.String.{string_bytes}
use Rattle.std.proofs.lemmas.Str.Pattern.{split_parts, strip_prefix_char}
use Rattle.mm_lang.proofs.Marks.{undoubled-step, undoubled-last, undoubled-none}
use Rattle.plain_tables.proofs.Utf8Parts.{utf8-behind}
use Rattle.mm_lang.proofs.texts.joined.Goals as goal

pub returns-in_default-strip_prefix-clause-syntax : goal.returns-in_default-strip_prefix-clause-syntax
returns-in_default-strip_prefix-clause-syntax c = λ _.
    let parts = split_parts 39 c.loop-part.rest.now (Some (c.in-Some.part, c.in-Some.behind)) c.in-Some.ensures.cases (omega arith) in
    undoubled-none c.args.marked.now (string_bytes c.loop-part.text) c.in-Some.part.now c.in-Some.behind.now c.loop-part.rest.now parts.0 parts.1
    (strip_prefix_char 39 c.in-Some.behind.now None c.in_default-strip_prefix.ensures.cases (omega arith)) c.loop-part.invariant.1

pub loop-part-preserved : goal.loop-part-preserved
loop-part-preserved c =
    let parts = split_parts 39 c.loop-part.rest.now (Some (c.in-Some.part, c.in-Some.behind)) c.in-Some.ensures.cases (omega arith) in
    let mark : c.in-Some.behind.now ≡ 39 ∷ c.in-Some-strip_prefix.more.now =
    strip_prefix_char 39 c.in-Some.behind.now (Some c.in-Some-strip_prefix.more) c.in-Some-strip_prefix.ensures.cases (omega arith) in
    let behind : IsUtf8 c.in-Some.behind.now =
    utf8-behind c.in-Some.part.now 39 c.in-Some.behind.now (omega arith) (subst IsUtf8 parts.0 c.loop-part.invariant.0) in (
      utf8-behind [] 39 c.in-Some-strip_prefix.more.now (omega arith) (subst IsUtf8 mark behind),
      undoubled-step c.args.marked.now (string_bytes c.loop-part.text) _ _ c.in-Some.part.now c.in-Some.behind.now c.loop-part.rest.now c.in-Some-strip_prefix.more.now
          c.in_ok-push_str.ensures.bytes c.in_ok-push_str-2.ensures.bytes parts.0 parts.1 mark c.loop-part.invariant.1,
    )

pub returns-clause-text : goal.returns-clause-text
returns-clause-text c =
    let parts = split_parts 39 c.loop-part.rest.now c.split_once.result c.split_once.ensures.cases (omega arith) in
    rw (c.in_ok-from_str.ensures.copy, c.as_str.ensures.value)
    (undoubled-last c.args.marked.now (string_bytes c.loop-part.text) (string_bytes c.push_str-2.new.self) c.loop-part.rest.now
    c.in_ok-push_str-3.ensures.bytes (rw c.in_default.is at parts) c.loop-part.invariant.1)
