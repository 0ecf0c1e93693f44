-- Requests of whose answers something holds.
use Rattle.std.proofs.Common.{ℕ, List, [], ◌∷◌, ◌++◌, Bool, refl, sym, ap, ◌∙◌, subst, append_assoc, append-nil}
use Rattle.plain_tables.specs.Databases.{Database}
use Rattle.plain_tables.specs.declared.command.Limits.{Limits}
use Rattle.plain_streams.specs.Requests.{Request}
use Rattle.plain_streams.specs.Runs.{Answers, AnswersAll, RunOf}
use Rattle.mm_session.specs.Each.{AnswersEach, RunWhere}

module _ (P : List ℕ → Type 0) (limits : Limits) where
  pub AnswersEach-one : (from : Database) (request : Request) (answer : List ℕ) (to : Database)
      → Answers limits from request answer to → P answer → AnswersEach P limits from (request ∷ []) answer to
  AnswersEach-one from request answer to here holds = (answer, [], to, here, holds, (refl, refl), sym (append-nil answer))

  pub AnswersEach-append : (from : Database) (requests more : List Request) (a b : List ℕ) (middle after : Database)
      → AnswersEach P limits from requests a middle → AnswersEach P limits middle more b after → AnswersEach P limits from (requests ++ more) (a ++ b) after
  AnswersEach-append from [] more a b middle after (none, same) h =
      rw none (let Q : Database → Type 0 = λ d. AnswersEach P limits d more b after in subst Q same h)
  AnswersEach-append from (request ∷ requests) more a b middle after (first, others, next, here, holds, rest, joined) h = (
    first,
    others ++ b,
    next,
    here,
    holds,
    AnswersEach-append next requests more others b middle after rest h,
    ap (λ s. s ++ b) joined ∙ append_assoc first others b,
  )

  pub AnswersEach-all : (from : Database) (requests : List Request) (answers : List ℕ) (after : Database)
      → AnswersEach P limits from requests answers after → AnswersAll limits from requests answers after
  AnswersEach-all from [] answers after h = h
  AnswersEach-all from (request ∷ requests) answers after (first, others, next, here, holds, rest, joined) =
      (first, others, next, here, AnswersEach-all next requests others after rest, joined)

  -- a run of whose answers something holds is a run
  pub RunWhere-run : (from : Database) (stream : List ℕ) (finished : Bool) (answers : List ℕ) (after : Database)
      → RunWhere P limits from stream finished answers after → RunOf limits from stream finished answers after
  RunWhere-run from stream finished answers after (requests, rest, divides, each) = (requests, rest, divides, AnswersEach-all from _ answers after each)
