-- What the policies are called, and their numbers.
use Rattle.std.specs.Prelude.{ℕ, List, [], ◌∷◌}
use lib.Chars.{codes}
use Rattle.plan_chooser.specs.declared.policy.Policy.{Policy}
use Rattle.plan_chooser.specs.declared.policy.Policy.TheVariants.{Auto, Scan, Hash, Tree, Merge}

-- the policies, in the order of their numbers, which begin at 0
abbrev pub policies : List Policy
policies = Auto ∷ Scan ∷ Hash ∷ Tree ∷ Merge ∷ []

abbrev pub policy_name : Policy → List ℕ
policy_name Auto = codes "auto"
policy_name Scan = codes "scan"
policy_name Hash = codes "hash"
policy_name Tree = codes "tree"
policy_name Merge = codes "merge"
