-- Turns of a reader, one after another.
use Rattle.std.proofs.Common.{◌≡◌, ℕ, List, [], ◌++◌, Option, None, Some, sym, ap, ◌∙◌, subst}
use Rattle.mm_session.specs.Sessions.{Gains}
use Rattle.mm_session.specs.Turns.{AddsTurn, ArePrompt, IsPrompt, KeepsTurns, Turn, came}
use Rattle.mm_session.specs.WholeRuns.{IsAnsweredSoFar}

-- from no turns, that is all that came
abbrev pub HasCome : Option (List Turn) → Option (List Turn) → List ℕ → Type 0
HasCome None new stream = Unit {0}
HasCome (Some old) None stream = ⊥
HasCome (Some old) (Some new) stream = old ≡ [] → came new ≡ stream

pub come_none : (o : Option (List Turn)) → HasCome o o []
come_none None = tt
come_none (Some ts) = λ none. ap came none

pub come_more : (o a b : Option (List Turn)) (stream : List ℕ) (held : Option (List ℕ)) (bytes : List ℕ) → HasCome o a stream
    → AddsTurn a b (held, bytes) → HasCome o b (stream ++ bytes)
come_more None a b stream held bytes come adds = tt
come_more (Some ts) None b stream held bytes come adds = absurd come
come_more (Some ts) (Some us) None stream held bytes come adds = absurd adds
come_more (Some ts) (Some us) (Some vs) stream held bytes come adds = λ none. ap came adds ∙ ap (λ s. s ++ bytes) (come none)

pub prompt_none : (o : Option (List Turn)) (from : Option (List ℕ)) → IsPrompt o o from
prompt_none None from = tt
prompt_none (Some ts) from = λ none. subst (ArePrompt from) (sym none) tt

pub prompt_kept : (o a b : Option (List Turn)) (from : Option (List ℕ)) → IsPrompt o a from → KeepsTurns a b → IsPrompt o b from
prompt_kept None a b from prompt keeps = tt
prompt_kept (Some ts) None b from prompt keeps = absurd prompt
prompt_kept (Some ts) (Some us) None from prompt keeps = absurd keeps
prompt_kept (Some ts) (Some us) (Some vs) from prompt keeps = λ none. subst (ArePrompt from) (sym keeps) (prompt none)

pub prompt_more : (o a b : Option (List Turn)) (from held : Option (List ℕ)) (stream bytes : List ℕ) → IsPrompt o a from → HasCome o a stream
    → Gains from held (IsAnsweredSoFar stream) → AddsTurn a b (held, bytes) → IsPrompt o b from
prompt_more None a b from held stream bytes prompt come gains adds = tt
prompt_more (Some ts) None b from held stream bytes prompt come gains adds = absurd prompt
prompt_more (Some ts) (Some us) None from held stream bytes prompt come gains adds = absurd adds
prompt_more (Some ts) (Some us) (Some vs) from held stream bytes prompt come gains adds = λ none.
    subst (ArePrompt from) (sym adds) (subst (λ s. Gains from held (IsAnsweredSoFar s)) (sym (come none)) gains, prompt none)
