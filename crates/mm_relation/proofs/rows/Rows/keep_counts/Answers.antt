use Rattle.std.proofs.Common.{true}
use Rattle.mm_relation.proofs.Hiding.{parted_either}
use Rattle.mm_relation.proofs.rows.Rows.keep_counts.Goals as goal

pub invariant_of-self : goal.invariant_of-self
invariant_of-self c =
    parted_either c.self.inside.store c.keep_counts.new.self (record c.self.inside.store { counted = true }) c.self.inside.hidden c.self.inside.hidden_count c.self.inside.owed c.keep_counts.result c.keep_counts.ensures.ok c.keep_counts.ensures.err c.self.invariant c.self.invariant
