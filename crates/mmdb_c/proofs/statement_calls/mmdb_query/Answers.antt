use Rattle.std.proofs.Common.{rules, ◌≡◌, Option, Some, subst, sym}
use Rattle.std.specs.Prelude.{IsSomeAnd}
use Rattle.mm_database.specs.Interrupts.{IsLineSelect}
use Rattle.mm_database.specs.Sharing.{IsLineKeptOff}
use Rattle.mm_database.specs.declared.database.OpenDatabase.{OpenDatabase}
use Rattle.mmdb_c.proofs.OpenHandles.{becomes}
use Rattle.mmdb_c.proofs.statement_calls.mmdb_query.Goals as goal

pub returns-in-Err-Shared-clause-shared : goal.returns-in-Err-Shared-clause-shared
returns-in-Err-Shared-clause-shared c is =
    let taken = c.in-Some.ensures.taken in
    let lent = c.deref_mut.ensures.value in
    let back = c.deref_mut.ensures.writes_back in
    let put = c.put-2.ensures in
    let was : c.args.handle.now.database ≡ Some c.deref_mut.result.now = cc in
    let now : c.put-2.new.self.database ≡ Some c.query-queried.new.self = cc in
    let kept : IsLineKeptOff c.args.line.now c.deref_mut.result.now c.query-queried.new.self = search rules in
    becomes c.args.handle.now.database c.put-2.new.self.database c.deref_mut.result.now c.query-queried.new.self (IsLineKeptOff c.args.line.now) was now
    kept

pub returns-in-Err-Interrupted-clause-interrupted : goal.returns-in-Err-Interrupted-clause-interrupted
returns-in-Err-Interrupted-clause-interrupted c is =
    let taken = c.in-Some.ensures.taken in
    let lent = c.deref_mut.ensures.value in
    let was : c.args.handle.now.database ≡ Some c.deref_mut.result.now = cc in
    let select : IsLineSelect c.args.line.now c.deref_mut.result.now = search rules in
    subst (λ (o : Option OpenDatabase). IsSomeAnd o (IsLineSelect c.args.line.now)) (sym was) select
