-- What a transaction saved stays while the steps in it end no other.
use Rattle.std.proofs.Common.{◌≡◌, List, [], ◌∷◌, ◌++◌, IsTrue, length, refl, drop}
use Rattle.std.specs.Prelude.{slice_index_or}
use Rattle.plain_tables.specs.Databases.{Database}
use Rattle.plain_tables.specs.Transactions.{Transactional, Step, Changes, Begins, Commits, RollsBack, after, begun, committed, ends_its_own, rolled_back}

-- the databases that the steps' own transactions saved stand before those of the others, which stay
pub others_stay : (steps : List Step) (own others : List Database) (database : Database) → IsTrue (ends_its_own (length own) steps)
    → (after steps (record { database = database; saved = own ++ others })).saved ≡ others
others_stay [] [] others database ends = refl
others_stay [] (o ∷ own) others database ends = cc
others_stay (Changes tables ∷ steps) own others database ends = others_stay steps own others tables ends
others_stay (Begins ∷ steps) own others database ends = others_stay steps (database ∷ own) others database ends
others_stay (Commits ∷ steps) [] others database ends = cc
others_stay (Commits ∷ steps) (o ∷ own) others database ends = others_stay steps own others database ends
others_stay (RollsBack ∷ steps) [] others database ends = cc
others_stay (RollsBack ∷ steps) (o ∷ own) others database ends = others_stay steps own others o ends

saved_stay : (t : Transactional) (steps : List Step) → IsTrue (ends_its_own 0 steps) → (after steps (begun t)).saved ≡ t.database ∷ t.saved
saved_stay t steps ends = others_stay steps [] (t.database ∷ t.saved) t.database ends

pub restored : (t : Transactional) (steps : List Step) → IsTrue (ends_its_own 0 steps) → rolled_back (after steps (begun t)) ≡ t
restored t steps ends =
    let now = after steps (begun t) in
    let saved = saved_stay t steps ends in
    λ i. record { database = slice_index_or (saved i) 0 now.database; saved = drop 1 (saved i) }

pub kept : (t : Transactional) (steps : List Step) → IsTrue (ends_its_own 0 steps)
    → committed (after steps (begun t)) ≡ record { database = (after steps (begun t)).database; saved = t.saved }
kept t steps ends =
    let now = after steps (begun t) in
    let saved = saved_stay t steps ends in
    λ i. record { database = now.database; saved = drop 1 (saved i) }
