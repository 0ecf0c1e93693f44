use Rattle.mm_relation.specs.Agreement.{stays_current}
use Rattle.mm_relation.proofs.laws.agreeing_keys_keep_a_relation_current.Goals as goal

pub returns : goal.returns
returns c = stays_current
