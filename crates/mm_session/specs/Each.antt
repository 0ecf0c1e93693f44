-- Runs of whose answers something holds.
use Rattle.std.specs.Prelude.{◌≡◌, ℕ, List, [], ◌∷◌, ◌++◌, Bool}
use Rattle.plain_tables.specs.Databases.{Database}
use Rattle.plain_tables.specs.declared.command.Limits.{Limits}
use Rattle.plain_streams.specs.Requests.{Request}
use Rattle.plain_streams.specs.Division.{Divides, last_request}
use Rattle.plain_streams.specs.Runs.{Answers}

-- the answers to requests in their order, each asked of the database that the one before left; and of each answer that holds
abbrev pub AnswersEach : (List ℕ → Type 0) → Limits → Database → List Request → List ℕ → Database → Type 0
AnswersEach P limits tables [] answers after = (answers ≡ []) × (after ≡ tables)
AnswersEach P limits tables (request ∷ requests) answers after =
    (first : List ℕ) × (others : List ℕ) × (next : Database) × Answers limits tables request first next × P first
    × AnswersEach P limits next requests others after × (answers ≡ first ++ others)

-- From a database, a stream that is finished or not has these answers and leaves that database; and of each answer that holds.
abbrev pub RunWhere : (List ℕ → Type 0) → Limits → Database → List ℕ → Bool → List ℕ → Database → Type 0
RunWhere P limits from stream finished answers after =
    (requests : List Request) × (rest : List ℕ) × Divides stream requests rest
    × AnswersEach P limits from (requests ++ last_request finished rest) answers after
