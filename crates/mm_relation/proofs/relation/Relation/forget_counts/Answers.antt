use Rattle.mm_relation.proofs.relation.Relation.forget_counts.Goals as goal

pub forget_counts-requires : goal.forget_counts-requires
forget_counts-requires c = rw (← c.self.view_is) at c.requires
