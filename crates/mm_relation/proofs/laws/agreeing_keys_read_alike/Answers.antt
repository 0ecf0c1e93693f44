use Rattle.mm_relation.specs.Agreement.{reads_alike}
use Rattle.mm_relation.proofs.laws.agreeing_keys_read_alike.Goals as goal

pub returns : goal.returns
returns c = reads_alike
