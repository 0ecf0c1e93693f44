use Rattle.std.proofs.Common.{◌≡◌, map, take}
use Rattle.mm_csv.specs.FullNames.{full_name_text}
use Rattle.mm_session.specs.Shown.{heading}
use Rattle.mm_session.specs.Members.{tables_at}
use Rattle.mm_session.proofs.execute.ReadExecutor.names_at.Given as goal

abbrev pub invariant-loop-place : goal.invariant-loop-place
invariant-loop-place l = map full_name_text l.names.items ≡ map (heading (tables_at l.catalog (map (λ t. t.0) l.sources))) (take l.place-index l.places)
