-- A value that is there.
use Rattle.std.specs.Prelude.{Option, Some, None, IsSome}
use Rattle.std.proofs.lemmas.Bool.{false≢true}

-- what is there
abbrev pub the_some : {A : Type 0} (o : Option A) → IsSome o → A
the_some (Some x) is = x
the_some None is = absurd (false≢true is)
