use Rattle.std.proofs.Common.{◌≡◌, ◌∙◌, Some, [], ◌∷◌, ap, arith, cond, sym, true}
use Rattle.std.specs.Option.{option_to_list}
use Rattle.plain_tables.specs.declared.resolved.Test.{Test}
use Rattle.plain_tables.specs.declared.value.Value.{Value}
use Rattle.mm_relation.specs.Reading.{key_at}
use Rattle.temp_list.specs.Reading.{row_passes}
use Rattle.temp_list.proofs.OnlyRow.{alone_passes, keyed_found, keyed_none}
use Rattle.temp_list.proofs.only_row.only_by_key.Goals as goal
use Rattle.temp_list.proofs.only_row.only_by_key.Goals.{else-tests-gt1-via-then-tests-gt1+else-not-passes_all, else-tests-gt1-via-else-tests-gt1}

pub returns-in_err-r : goal.returns-in_err-r
returns-in_err-r g c =
    let test = c.index-tests-n.result in
    let key : c.sought.result ≡ test.value = c.sought.ensures ∙ ap (λ (t : Test). t.value) (sym c.index-tests-n.is) in
    keyed_none (g.R.Relations.tables c.args.tables.now) c.args.relation.now c.a_relation_is_kept.ensures c.args.tests.now c.args.n c.requires.key test c.index-tests-n.is
    (λ r at. c.in_err-r.ensures.none r (at ∙ ap (λ (v : Value). Some v) (sym key)))
    ∙ ap option_to_list (sym c.from_residual.ensures)

pub returns-then-not-passes_all : goal.returns-then-not-passes_all
returns-then-not-passes_all g c =
    let test = c.index-tests-n.result in
    let key : c.sought.result ≡ test.value = c.sought.ensures ∙ ap (λ (t : Test). t.value) (sym c.index-tests-n.is) in
    keyed_found (g.R.Relations.tables c.args.tables.now) c.args.relation.now c.a_relation_is_kept.ensures c.args.tests.now c.args.n c.requires.key test c.index-tests-n.is
    c.in_ok-r.r (c.in_ok-r.ensures.found ∙ ap (λ (v : Value). Some v) key)
    ∙ ap (λ b. cond b (c.in_ok-r.r ∷ []) []) (sym c.passes_all.ensures ∙ c.if-not-passes_all.true)

pub returns : goal.returns
returns g c =
    let relations = g.R.Relations.tables c.args.tables.now in
    let s = c.args.relation.now in
    let tests = c.args.tests.now in
    let test = c.index-tests-n.result in
    let key : c.sought.result ≡ test.value = c.sought.ensures ∙ ap (λ (t : Test). t.value) (sym c.index-tests-n.is) in
    let at : key_at s.rows c.in_ok-r.r ≡ Some test.value = c.in_ok-r.ensures.found ∙ ap (λ (v : Value). Some v) key in
    let passes : row_passes relations s tests c.in_ok-r.r ≡ true =
    elim c.else-tests-gt1.branch [
      | else-tests-gt1-via-then-tests-gt1+else-not-passes_all w ↦ sym w.passes_all.ensures ∙ w.if-not-passes_all.false
      | else-tests-gt1-via-else-tests-gt1 w ↦
          alone_passes relations s c.a_relation_is_kept.ensures tests c.args.n c.requires.key test c.index-tests-n.is (omega (arith, w.if-tests-gt1.false)) c.in_ok-r.r at
    ] in
    keyed_found relations s c.a_relation_is_kept.ensures tests c.args.n c.requires.key test c.index-tests-n.is c.in_ok-r.r at
    ∙ ap (λ b. cond b (c.in_ok-r.r ∷ []) []) passes
