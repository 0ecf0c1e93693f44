-- What a list ends as where its items are lent to be written.
use Rattle.std.specs.Prelude.{List, length}
use Rattle.std.specs.List.{refill}
use Rattle.std.specs.Borrow.{Fml, RattleType, MutBor, Lends, Array}
use Rattle.plain_tables.specs.contracts.sequence.Sequence.{the_row}

-- the list ends with the items last written, which are as many as before
abbrev pub LendsItems : (T : RattleType) → MutBor (List T.Denot) → MutBor (List T.Denot) → Fml
LendsItems T s items = Lends (the_row T) (Array T 0) s items (refill (length s.now) s.now)
