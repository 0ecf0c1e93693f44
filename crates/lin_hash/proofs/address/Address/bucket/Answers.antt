use Rattle.lin_hash.proofs.Levels.{short_power, long_power}
use Rattle.lin_hash.proofs.address.Address.bucket.Goals as goal

pub remainder-bucket-requires : goal.remainder-bucket-requires
remainder-bucket-requires c = rw c.buckets_at-short.ensures (short_power c.args.self.level)

pub remainder-requires : goal.remainder-requires
remainder-requires c = rw c.buckets_at-short.ensures (long_power c.args.self.level)
