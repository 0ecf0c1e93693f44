use Rattle.plain_streams.proofs.Runs.{runs_stay_sound}
use Rattle.plain_streams.proofs.laws.runs_stay_sound.Goals as goal

pub returns : goal.returns
returns c = runs_stay_sound
