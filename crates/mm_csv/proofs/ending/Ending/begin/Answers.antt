use Rattle.std.proofs.Common.{◌∙◌, ◌∷◌, ap, arith}
use Rattle.std.proofs.lemmas.List.{drop_all, drop-set}
use Rattle.mm_csv.proofs.ending.Ending.begin.Goals as goal

pub returns : goal.returns
returns c =
    drop-set c.self.inside.bytes 255 10 (omega arith) ∙ ap (λ bytes. 10 ∷ bytes) (drop_all 256 c.self.inside.bytes (omega arith))
