use Rattle.mm_relation.specs.Agreement.{hashed_alike}
use Rattle.mm_relation.proofs.laws.agreeing_keys_hash_alike.Goals as goal

pub returns : goal.returns
returns c = hashed_alike
