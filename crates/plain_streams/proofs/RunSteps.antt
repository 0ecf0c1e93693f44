-- Requests answered one after another.
use Rattle.std.proofs.Common.{ℕ, List, [], ◌∷◌, ◌++◌, sym, ap, ◌∙◌, subst, append_assoc}
use Rattle.plain_tables.specs.Databases.{Database}
use Rattle.plain_tables.specs.declared.command.Limits.{Limits}
use Rattle.plain_streams.specs.Requests.{Request}
use Rattle.plain_streams.specs.Runs.{Answers, AnswersAll}

-- what each answer keeps, all of them keep
pub AnswersAll-keeps : (P : Database → Type 0) (limits : Limits) (from : Database) (requests : List Request) (answers : List ℕ) (after : Database)
    → ((tables : Database) (request : Request) (answer : List ℕ) (next : Database) → Answers limits tables request answer next → P tables → P next)
    → AnswersAll limits from requests answers after → P from → P after
AnswersAll-keeps P limits from [] answers after keeps h here = subst P (sym h.1) here
AnswersAll-keeps P limits from (request ∷ requests) answers after keeps (first, others, next, one, rest, joined) here =
    AnswersAll-keeps P limits next requests others after keeps rest (keeps from request first next one here)

-- requests after requests
pub AnswersAll-append : (limits : Limits) (from : Database) (requests more : List Request) (a b : List ℕ) (middle after : Database)
    → AnswersAll limits from requests a middle → AnswersAll limits middle more b after → AnswersAll limits from (requests ++ more) (a ++ b) after
AnswersAll-append limits from [] more a b middle after (none, same) h =
    rw none (let P : Database → Type 0 = λ d. AnswersAll limits d more b after in subst P same h)
AnswersAll-append limits from (request ∷ requests) more a b middle after (first, others, next, here, rest, joined) h = (
  first,
  others ++ b,
  next,
  here,
  AnswersAll-append limits next requests more others b middle after rest h,
  ap (λ s. s ++ b) joined ∙ append_assoc first others b,
)
