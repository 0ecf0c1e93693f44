use Rattle.std.proofs.Common.{◌≡◌, ◌≢◌, ◌∙◌, ℕ, List, [], ap, false, length, map, refl, subst, sym, Option, Some, None}
use Rattle.std.specs.Prelude.{◌==◌, IfErr, IfOk, IsSome, IsTrue}
use Rattle.std.proofs.lemmas.Bool.{eqb-true}
use Rattle.std.proofs.lemmas.List.{nil_from_length}
use Rattle.std.proofs.lemmas.Result.{err_from_is_err_and}
use Rattle.plain_tables.specs.Doing.{done}
use Rattle.plain_tables.specs.Effects.{Effect}
use Rattle.plain_tables.specs.ResolvedLaws.{IsMeant}
use Rattle.plain_tables.specs.declared.resolved.Resolved.TheVariants as resolved
use Rattle.mm_prepared.specs.Many.{all_or_none, effect_with_each, first_unfit}
use Rattle.mm_prepared.proofs.ManyRows.{fit-each}
use Rattle.plain_tables.specs.declared.value.Value.{Value}
use Rattle.mm_session.specs.Changing.{HasChanged}
use Rattle.mm_statements.specs.Databases.{statement_at}
use Rattle.mm_statements.specs.Many.{HasFailed, IsEffectOfMany}
use Rattle.mm_statements.proofs.ManyRows.{KnownAs, all-of, all-schemas, declined-many, done-many, kept-all, kept-tables, known-as, load-is-all, load-meant, load-schemas, meaning-of, none-done, noted-after, row_with, unfit-of, unresolved-many}
use Rattle.mm_statements.proofs.Seen.{same-seen, state_of}
use Rattle.mm_statements.proofs.database.Database.execute_many.Goals as goal
use Rattle.mm_statements.proofs.database.Database.execute_many.Goals.{After-load_each}

pub returns-in_err-resolve-clause-statements : goal.returns-in_err-resolve-clause-statements
returns-in_err-resolve-clause-statements c =
    let s = c.self.inside.held in
    rw (← c.self.view_is) (same-seen s s c.self.inside.statements c.resolve.new.statements c.resolve.ensures.same)

pub returns-in_err-check_each-clause-statements : goal.returns-in_err-check_each-clause-statements
returns-in_err-check_each-clause-statements c =
    let s = c.self.inside.held in
    rw (← c.self.view_is) (same-seen s s c.self.inside.statements c.resolve.new.statements c.resolve.ensures.same)

pub returns-in_err-resolve-clause-unchanged : goal.returns-in_err-resolve-clause-unchanged
returns-in_err-resolve-clause-unchanged c =
    rw (← c.self.view_is) (kept-all c.self.inside.held c.self.inside.statements c.resolve.new.statements c.from_residual.result c.resolve.ensures.same)

pub returns-in_err-check_each-clause-unchanged : goal.returns-in_err-check_each-clause-unchanged
returns-in_err-check_each-clause-unchanged c =
    rw (← c.self.view_is) (kept-all c.self.inside.held c.self.inside.statements c.resolve.new.statements c.from_residual-in_err-check_each.result c.resolve.ensures.same)

pub returns-then-is_empty-clause-done : goal.returns-then-is_empty-clause-done
returns-then-is_empty-clause-done c =
    let len : c.args.rows.len ≡ 0 = eqb-true c.args.rows.len 0 (sym c.if-is_empty.ensures) in
    let empty : c.args.rows.items ≡ [] = nil_from_length c.args.rows.items (sym c.args.rows.ok.0 ∙ len) in
    rw (← c.self.view_is, empty)
    (none-done c.self.inside.held c.self.inside.statements c.args.number _ c.self.invariant.right
    (subst (λ d. IsSome (statement_at d c.args.number)) (sym c.self.view_is) (c.if-not-has.ensures.0 refl)))

-- with rows there are some
some-rows : {X : Type 0} (xs : List X) (n : ℕ) → n ≡ length xs → false ≡ (n == 0) → xs ≢ []
some-rows xs n len is none = let zero : n ≡ 0 = len ∙ ap length none in let bad : false ≡ (0 == 0) = subst (λ k. false ≡ (k == 0)) zero is in cc

none-there : {X : Type 0} (o : Option X) → o ≡ None → IsSome o → ⊥
none-there None none some = cc
none-there (Some x) none some = cc

pub returns-in_err-resolve-clause-declined : goal.returns-in_err-resolve-clause-declined
returns-in_err-resolve-clause-declined c =
    let e = err_from_is_err_and c.from_residual.result c.from_residual.ensures.1 in
    rw (← c.self.view_is, e.1, e.2)
    (unresolved-many c.self.inside.held c.self.inside.statements c.args.number c.args.rows.items c.in_err-resolve.field-0.0
    (some-rows c.args.rows.items c.args.rows.len c.args.rows.ok.0 c.if-is_empty.ensures) c.in_err-resolve.ensures.refused)

pub returns-in_err-check_each-clause-declined : goal.returns-in_err-check_each-clause-declined
returns-in_err-check_each-clause-declined c =
    let e = err_from_is_err_and c.from_residual-in_err-check_each.result c.from_residual-in_err-check_each.ensures.1 in
    let s = c.self.inside.held in
    let old = c.self.inside.statements in
    let r = c.resolution_of-resolution.result.now in
    let known : KnownAs s old c.args.number r =
    known-as s old c.resolve.new.statements c.args.number r c.resolve.ensures.same c.in_ok-resolve.ensures.known c.in_ok-resolve.ensures.right c.resolution_of-resolution.ensures in
    rw (← c.self.view_is, e.1, e.2)
    (unfit-of s old c.args.number r known c.args.rows.items c.in_err-check_each.field-0.0 (rw c.deref.ensures.value at c.in_err-check_each.ensures.refused))

pub load_each-requires : goal.load_each-requires
load_each-requires c =
    let s = c.self.inside.held in
    let old = c.self.inside.statements in
    let r = c.resolution_of-resolution.result.now in
    let known : KnownAs s old c.args.number r =
    known-as s old c.resolve.new.statements c.args.number r c.resolve.ensures.same c.in_ok-resolve.ensures.known c.in_ok-resolve.ensures.right c.resolution_of-resolution.ensures in
    let none : first_unfit r c.args.rows.items ≡ None = rw c.deref.ensures.value at c.in_ok-check_each.ensures.changes in
    subst (λ slots. IsMeant s.session.limits s.session.database (resolved.Load c.in-Insert.table (map (row_with slots) c.args.rows.items))) (sym c.as_slice.ensures)
    (load-meant s.session.limits s.session.database r c.in-Insert.table c.in-Insert.slots c.in-Insert.is c.args.rows.items
    (some-rows c.args.rows.items c.args.rows.len c.args.rows.ok.0 c.if-is_empty.ensures) (meaning-of s old c.args.number r known) none
    (rw c.deref.ensures.value at c.in_ok-check_each.ensures.widths))

pub invariant_of-self-in-Insert : goal.invariant_of-self-in-Insert
invariant_of-self-in-Insert c =
    let s = c.self.inside.held.session in
    let rows = map (row_with c.as_slice.result.now) c.args.rows.items in
    noted-after s c.load_each.new.held.session c.resolve.new.noted c.resolve.new.statements (done s.limits s.database (resolved.Load c.in-Insert.table rows)) c.load_each.result
    (load-schemas s.limits s.database c.in-Insert.table rows) c.load_each.ensures.done c.load_each.ensures.unchanged c.resolve.ensures.noted

-- what the load does is what comes of all rows
loaded-many : (c : After-load_each) → IsEffectOfMany (state_of c.self.inside.held c.self.inside.statements) c.args.number c.args.rows.items
    (done c.self.inside.held.session.limits c.self.inside.held.session.database (resolved.Load c.in-Insert.table (map (row_with c.as_slice.result.now) c.args.rows.items)))
loaded-many c =
    let s = c.self.inside.held in
    let old = c.self.inside.statements in
    let r = c.resolution_of-resolution.result.now in
    let known : KnownAs s old c.args.number r =
    known-as s old c.resolve.new.statements c.args.number r c.resolve.ensures.same c.in_ok-resolve.ensures.known c.in_ok-resolve.ensures.right c.resolution_of-resolution.ensures in
    let none : first_unfit r c.args.rows.items ≡ None = rw c.deref.ensures.value at c.in_ok-check_each.ensures.changes in
    let meant : IsMeant s.session.limits s.session.database (resolved.Load c.in-Insert.table (map (row_with c.in-Insert.slots) c.args.rows.items)) =
    load-meant s.session.limits s.session.database r c.in-Insert.table c.in-Insert.slots c.in-Insert.is c.args.rows.items
    (some-rows c.args.rows.items c.args.rows.len c.args.rows.ok.0 c.if-is_empty.ensures) (meaning-of s old c.args.number r known) none
    (rw c.deref.ensures.value at c.in_ok-check_each.ensures.widths) in
    subst (λ slots. IsEffectOfMany (state_of s old) c.args.number c.args.rows.items (done s.session.limits s.session.database (resolved.Load c.in-Insert.table (map (row_with slots) c.args.rows.items))))
    (sym c.as_slice.ensures)
    (subst (IsEffectOfMany (state_of s old) c.args.number c.args.rows.items)
    (load-is-all s.session.limits s.session.database r c.in-Insert.table c.in-Insert.slots c.in-Insert.is c.args.rows.items meant none)
    (all-of s old c.args.number r known c.args.rows.items none))

pub returns-in-Insert-clause-done : goal.returns-in-Insert-clause-done
returns-in-Insert-clause-done c =
    rw (← c.self.view_is)
    (done-many (state_of c.self.inside.held c.self.inside.statements) c.args.number c.args.rows.items c.load_each.new.held.session _ c.load_each.result (loaded-many c)
    c.load_each.ensures.done)

pub returns-in-Insert-clause-declined : goal.returns-in-Insert-clause-declined
returns-in-Insert-clause-declined c =
    rw (← c.self.view_is)
    (declined-many c.self.inside.held c.self.inside.statements c.args.number c.args.rows.items _ c.load_each.result (loaded-many c) c.load_each.ensures.refused)

pub returns-in-Insert-clause-unchanged : goal.returns-in-Insert-clause-unchanged
returns-in-Insert-clause-unchanged c =
    rw (← c.self.view_is)
    (kept-tables c.self.inside.held c.load_each.new.held c.self.inside.statements c.resolve.new.statements c.load_each.result c.load_each.ensures.unchanged
    c.load_each.ensures.stream (λ t. subst IsTrue c.load_each.ensures.keeps t) c.resolve.ensures.same)

pub returns-in-Insert-clause-statements : goal.returns-in-Insert-clause-statements
returns-in-Insert-clause-statements c =
    rw (← c.self.view_is) (same-seen c.self.inside.held c.load_each.new.held c.self.inside.statements c.resolve.new.statements c.resolve.ensures.same)

pub change_all-requires : goal.change_all-requires
change_all-requires c =
    let s = c.self.inside.held in
    let old = c.self.inside.statements in
    let r = c.resolution_of-resolution.result.now in
    let known : KnownAs s old c.args.number r =
    known-as s old c.resolve.new.statements c.args.number r c.resolve.ensures.same c.in_ok-resolve.ensures.known c.in_ok-resolve.ensures.right c.resolution_of-resolution.ensures in
    let none : first_unfit r c.args.rows.items ≡ None = rw c.deref.ensures.value at c.in_ok-check_each.ensures.changes in
    record { meaning = meaning-of s old c.args.number r known; changes = rw c.deref-2.ensures.value (fit-each r c.args.rows.items none) }

pub invariant_of-self-2 : goal.invariant_of-self-2
invariant_of-self-2 c =
    let s = c.self.inside.held.session in
    let r = c.resolution_of-resolution.result.now in
    let none : first_unfit r c.args.rows.items ≡ None = rw c.deref.ensures.value at c.in_ok-check_each.ensures.changes in
    noted-after s c.change_all.new.held.session c.resolve.new.noted c.resolve.new.statements (all_or_none s.database (effect_with_each s.limits r c.args.rows.items s.database))
    c.change_all.result (all-schemas s.limits r s.database c.args.rows.items none) (subst (λ rows. IfOk c.change_all.result (HasChanged c.change_all.new.held.session (all_or_none s.database (effect_with_each s.limits r rows s.database))))
    c.deref-2.ensures.value c.change_all.ensures.done) c.change_all.ensures.unchanged
    c.resolve.ensures.noted

pub returns : goal.returns
returns c =
    let s = c.self.inside.held in
    let old = c.self.inside.statements in
    let r = c.resolution_of-resolution.result.now in
    let known : KnownAs s old c.args.number r =
    known-as s old c.resolve.new.statements c.args.number r c.resolve.ensures.same c.in_ok-resolve.ensures.known c.in_ok-resolve.ensures.right c.resolution_of-resolution.ensures in
    let none : first_unfit r c.args.rows.items ≡ None = rw c.deref.ensures.value at c.in_ok-check_each.ensures.changes in
    let all = all-of s old c.args.number r known c.args.rows.items none in
    let effect : List (List Value) → Effect = λ rows. all_or_none s.session.database (effect_with_each s.session.limits r rows s.session.database) in
    rw (← c.self.view_is)
    (record {
      done =
          done-many (state_of s old) c.args.number c.args.rows.items c.change_all.new.held.session (effect c.args.rows.items) c.change_all.result all
          (subst (λ rows. IfOk c.change_all.result (HasChanged c.change_all.new.held.session (effect rows))) c.deref-2.ensures.value c.change_all.ensures.done);
      missing = λ none. absurd (none-there (statement_at (state_of s old) c.args.number) none (subst (λ d. IsSome (statement_at d c.args.number)) (sym c.self.view_is) (c.if-not-has.ensures.0 refl)));
      declined =
          declined-many s old c.args.number c.args.rows.items (effect c.args.rows.items) c.change_all.result all
          (subst (λ rows. IfErr c.change_all.result (HasFailed s.session.database (effect rows))) c.deref-2.ensures.value c.change_all.ensures.refused);
      shared = c.change_all.ensures.shared;
      unchanged =
          kept-tables s c.change_all.new.held old c.resolve.new.statements c.change_all.result c.change_all.ensures.unchanged c.change_all.ensures.stream c.change_all.ensures.keeps
          c.resolve.ensures.same;
      stream = c.change_all.ensures.stream;
      statements = same-seen s c.change_all.new.held old c.resolve.new.statements c.resolve.ensures.same;
      keeps = c.change_all.ensures.keeps;
    })
