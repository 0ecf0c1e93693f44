use Rattle.mm_csv.proofs.BlockLaws.{fields-spell}
use Rattle.mm_csv.proofs.laws.fields_spell_integers.Goals as goal

pub returns : goal.returns
returns c = fields-spell
