use Rattle.std.specs.List.{Contains}
use Rattle.std.proofs.lemmas.List.Elements.{All-contains}
use Rattle.plain_tables.proofs.Distinct.{rising_are_one}
use Rattle.project_hash.proofs.laws.rising_lists_are_one.Goals as goal

pub returns : goal.returns
returns c = λ xs ys rising others all back.
    rising_are_one xs ys rising others (λ values. (All-contains (Contains ys) xs values all, All-contains (Contains xs) ys values back))
