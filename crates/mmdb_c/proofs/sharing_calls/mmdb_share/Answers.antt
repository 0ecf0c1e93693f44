use Rattle.std.proofs.Common.{inl, inr, ⊎_elim, subst, sym, Option}
use Rattle.std.specs.Prelude.{IsSomeAnd}
use Rattle.mm_database.specs.Transacting.{IsInTransaction}
use Rattle.mm_database.specs.declared.database.OpenDatabase.{OpenDatabase}
use Rattle.mmdb_c.proofs.sharing_calls.mmdb_share.Goals as goal

pub returns-clause-in_transaction : goal.returns-clause-in_transaction
returns-clause-in_transaction c is =
    ⊎_elim
    (λ own. inl (subst (λ (o : Option OpenDatabase). IsSomeAnd o IsInTransaction) (sym c.in-Some.ensures.taken) (subst IsInTransaction c.deref_mut.ensures.value own))) inr
    (c.join-joined.ensures.open (c.status_of.ensures.in_transaction.0 is))
