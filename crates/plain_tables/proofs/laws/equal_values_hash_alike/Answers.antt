use Rattle.std.proofs.Common.{ap}
use Rattle.plain_tables.specs.Hashes.{hash_of}
use Rattle.plain_tables.proofs.Values.{value_cmp-exact}
use Rattle.plain_tables.proofs.laws.equal_values_hash_alike.Goals as goal

pub returns : goal.returns
returns c = λ x y same. ap hash_of ((value_cmp-exact x y).0 same)
