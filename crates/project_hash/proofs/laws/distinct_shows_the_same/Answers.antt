use Rattle.project_hash.proofs.Same.{shown_the_same}
use Rattle.project_hash.proofs.laws.distinct_shows_the_same.Goals as goal

pub returns : goal.returns
returns c = shown_the_same
