use Rattle.mm_index.proofs.Listings.{IsListing-insert, IsListing-remove, IsListing-write}
use Rattle.mm_index.proofs.laws.listings_follow_their_store.Goals as goal

pub returns-clause-put : goal.returns-clause-put
returns-clause-put g c = λ tuples r tuple xs ys fresh bag lists. IsListing-insert tuples r tuple xs ys fresh bag lists

pub returns-clause-taken : goal.returns-clause-taken
returns-clause-taken g c = λ tuples r xs ys bag lists. IsListing-remove tuples r xs ys bag lists

pub returns-clause-written : goal.returns-clause-written
returns-clause-written g c = λ tuples r tuple xs held lists. IsListing-write tuples r tuple xs held lists
