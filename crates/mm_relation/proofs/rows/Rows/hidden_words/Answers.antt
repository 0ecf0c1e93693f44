use Rattle.mm_relation.proofs.Settling.{none_before_words, none_behind_words}
use Rattle.mm_relation.proofs.rows.Rows.hidden_words.Goals as goal

pub returns-clause-first : goal.returns-clause-first
returns-clause-first c = rw (← c.self.view_is) (none_before_words c.self.inside.hidden c.self.inside.store.tuples c.bounds.result.0 c.bounds.result.1 c.bounds.ensures.within)

pub returns-clause-last : goal.returns-clause-last
returns-clause-last c = rw (← c.self.view_is) (none_behind_words c.self.inside.hidden c.self.inside.store.tuples c.bounds.result.0 c.bounds.result.1 c.bounds.ensures.within)
