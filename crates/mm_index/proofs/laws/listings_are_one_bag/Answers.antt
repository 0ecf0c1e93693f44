use Rattle.mm_index.proofs.Listings.{IsSameBag-listings, length-listing}
use Rattle.mm_index.proofs.laws.listings_are_one_bag.Goals as goal

pub returns-clause-one : goal.returns-clause-one
returns-clause-one g c = λ tuples xs ys one other. IsSameBag-listings tuples xs ys one other

pub returns-clause-count : goal.returns-clause-count
returns-clause-count g c = λ tuples xs lists. length-listing tuples xs lists
