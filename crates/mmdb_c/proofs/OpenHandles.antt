-- What a handle becomes that is open.
use Rattle.std.proofs.Common.{◌≡◌, Option, Some, subst, sym}
use Rattle.mm_database.specs.declared.database.OpenDatabase.{OpenDatabase}
use Rattle.mmdb_c.specs.Calls.{Becomes}

pub becomes : (before after : Option OpenDatabase) (old new : OpenDatabase) (says : OpenDatabase → OpenDatabase → Type 0) → before ≡ Some old → after ≡ Some new
    → says old new → Becomes before after says
becomes before after old new says was is h =
    subst (λ (o : Option OpenDatabase). Becomes o after says) (sym was) (subst (λ (o : Option OpenDatabase). Becomes (Some old) o says) (sym is) h)
