-- What an outlet held each time that a reader was read, and what came then.
use Rattle.std.specs.Prelude.{◌≡◌, ℕ, List, [], ◌∷◌, ◌++◌, Option, None, Some}
use Rattle.mm_session.specs.Sessions.{Gains}
use Rattle.mm_session.specs.WholeRuns.{IsAnsweredSoFar}

-- a turn: what the outlet held, where that is known, and what came
abbrev pub Turn : Type 0
Turn = Option (List ℕ) × List ℕ

-- all that came, the newest turn first
abbrev pub came : List Turn → List ℕ
came [] = []
came (turn ∷ turns) = came turns ++ turn.1

-- At each turn the outlet had gained the answers to all whole requests of what had come before.
abbrev pub ArePrompt : Option (List ℕ) → List Turn → Type 0
ArePrompt from [] = Unit {0}
ArePrompt from (turn ∷ turns) = Gains from turn.0 (IsAnsweredSoFar (came turns)) × ArePrompt from turns

-- one turn more, where the turns are known
abbrev pub AddsTurn : Option (List Turn) → Option (List Turn) → Turn → Type 0
AddsTurn None new turn = Unit {0}
AddsTurn (Some turns) None turn = ⊥
AddsTurn (Some turns) (Some more) turn = more ≡ turn ∷ turns

-- no turn more
abbrev pub KeepsTurns : Option (List Turn) → Option (List Turn) → Type 0
KeepsTurns None new = Unit {0}
KeepsTurns (Some turns) None = ⊥
KeepsTurns (Some turns) (Some same) = same ≡ turns

-- From no turns, where they are known: each was prompt.
abbrev pub IsPrompt : Option (List Turn) → Option (List Turn) → Option (List ℕ) → Type 0
IsPrompt None new from = Unit {0}
IsPrompt (Some old) None from = ⊥
IsPrompt (Some old) (Some new) from = old ≡ [] → ArePrompt from new
