use Rattle.mm_relation.specs.Order.{orders_alike}
use Rattle.mm_relation.proofs.laws.agreeing_keys_order_alike.Goals as goal

pub returns : goal.returns
returns c = orders_alike
