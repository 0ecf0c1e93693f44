use Rattle.std.proofs.Common.{◌≡◌, ◌+◌, drop}
use Rattle.mm_prepared.specs.Many.{each_in_turn, effect_with, effect_with_each}
use Rattle.mm_session.specs.OneRequest.{StaysInStream}
use Rattle.mm_statements.specs.Many.{IsMeaning}
use Rattle.mm_statements.proofs.many.change_each.Given as goal

abbrev pub invariant-loop-place : goal.invariant-loop-place
invariant-loop-place l = record {
  meaning : IsMeaning l.held.session.database l.resolution;
  stream : StaysInStream l.initial.held.session l.held.session;
  shared : l.held.shared ≡ l.initial.held.shared;
  rest : effect_with_each l.initial.held.session.limits l.resolution l.rows l.initial.held.session.database
      ≡ each_in_turn (effect_with l.initial.held.session.limits l.resolution) (drop l.place l.rows) (l.place + 1) l.changed l.held.session.database;
}
