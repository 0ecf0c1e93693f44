use Rattle.std.proofs.Common.{◌<◌, ℕ}
use Rattle.std.specs.List.{All, Contains}
use Rattle.project_hash.specs.Shown.{IsShown, state_at, values_of}
use Rattle.project_hash.proofs.duplicates.shown_once.Given as goal

-- rows of the list, among them what it shows of each row so far
abbrev pub invariant-loop-place : goal.invariant-loop-place
invariant-loop-place g l = record {
  some : All (IsShown (g.R.Relations.tables l.tables) l.list) l.rows.keys;
  all : (k : ℕ) → k < l.place → Contains (values_of l.rows.keys) (state_at (g.R.Relations.tables l.tables) l.list k).values;
}
