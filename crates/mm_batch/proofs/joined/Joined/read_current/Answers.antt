use Rattle.std.proofs.Common.{◌≡◌, ◌+◌, ◌<◌, ◌∷◌, ◌∙◌, [], length, drop, take, set, map, ap, sym, arith}
use Rattle.std.specs.Io.KnownBytes.{Consumes}
use Rattle.std.proofs.lemmas.List.{drop_more, drop-set, drop-set-lt}
use Rattle.mm_batch.proofs.Joining.{ends_inside-last, take-line_feed, gives, feeds_line}
use Rattle.mm_batch.proofs.joined.Joined.read_current.Goals as goal

pub returns-then-n-gt0-clause-bytes : goal.returns-then-n-gt0-clause-bytes
returns-then-n-gt0-clause-bytes g c =
    let self = c.args.self.now in
    let items = self.readers.items in
    let reader = c.index_mut.result.now in
    let n = c.in_ok-n.n in
    let here : self.place < length items = rw (← self.readers.ok.0) c.requires.here in
    let before : drop self.place items ≡ reader ∷ drop (self.place + 1) items =
    drop_more items self.place reader here ∙ ap (λ r. r ∷ drop (self.place + 1) items) (sym c.index_mut.ensures.value) in
    let after : drop self.place (set items self.place c.read.new.self) ≡ c.read.new.self ∷ drop (self.place + 1) items =
    drop-set items self.place c.read.new.self here in
    let inside = ends_inside-last self.is_inside c.read.new.buf n c.if-n-gt0.true c.in_ok-n.ensures.bound.0 in
    rw (before, after, ← inside)
    (gives self.is_inside _ _ (map g.R.Read.remaining (drop (self.place + 1) items)) (take n c.read.new.buf) c.in_ok-n.ensures.bytes.0)

pub returns-then-self-len-clause-bytes : goal.returns-then-self-len-clause-bytes
returns-then-self-len-clause-bytes g c =
    let self = c.args.self.now in
    let items = self.readers.items in
    let reader = c.index_mut.result.now in
    let next = self.place + 1 in
    let here : self.place < length items = rw (← self.readers.ok.0) c.requires.here in
    let more : next < length items = rw (← self.readers.ok.0, ← c.len.ensures) c.if-self-len.true in
    let before : drop self.place items ≡ reader ∷ drop next items =
    drop_more items self.place reader here ∙ ap (λ r. r ∷ drop next items) (sym c.index_mut.ensures.value) in
    let others : drop next (set items self.place c.read.new.self) ≡ drop next items = drop-set-lt next items self.place c.read.new.self (omega arith) in
    let first = drop_more items next reader more in
    let none : c.in_ok-n.n ≡ 0 = omega arith in
    let room : 0 < length c.read.new.buf = omega arith in
    let gave : Consumes (g.R.Read.remaining reader) (g.R.Read.remaining c.read.new.self) [] = rw none at c.in_ok-n.ensures.bytes.0 in
    rw (before, others, first, c.if-self.true, take-line_feed c.read.new.buf room)
    (feeds_line _ _ _ (map g.R.Read.remaining (drop (next + 1) items)) gave (c.in_ok-n.ensures.bytes.1 none room))
