use Rattle.std.proofs.Common.{inl, inr, ⊎_elim, subst, sym, Option}
use Rattle.std.specs.Prelude.{IsSomeAnd}
use Rattle.mm_database.specs.Transacting.{IsInTransaction}
use Rattle.mm_database.specs.declared.database.OpenDatabase.{OpenDatabase}
use Rattle.mmdb_c.proofs.sharing_calls.join.Goals as goal

pub returns-clause-open : goal.returns-clause-open
returns-clause-open c is =
    ⊎_elim inl
    (λ own. inr (subst (λ (o : Option OpenDatabase). IsSomeAnd o IsInTransaction) (sym c.in-Some.ensures.taken) (subst IsInTransaction c.deref_mut.ensures.value own)))
    (c.share-shared.ensures.open is)
