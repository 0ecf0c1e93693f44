-- What memory the declared indexes keep as rows come and go.
use Rattle.std.proofs.Common.{◌≡◌, ◌≤◌, ◌<◌, ◌+◌, ℕ, List, max, true, false, refl, sym, ap, ◌∙◌, arith, subst, length, get_or}
use Rattle.std.specs.List.{refill}
use Rattle.part_raw.specs.declared.tuple_ref.TupleRef.{TupleRef}
use Rattle.part_raw.specs.Store.{Tuples}
use Rattle.lin_hash.specs.HeldRows.{IsCovered}
use Rattle.plain_tables.specs.declared.numbers.ColumnNumber.{ColumnNumber}
use Rattle.mm_relation.specs.Rows.{Row}
use Rattle.mm_relation.specs.declared.row.Cell.{Cell}
use Rattle.mm_relation.specs.declared.index.Index.{Index}
use Rattle.mm_relation.specs.declared.index.Index.TheVariants.{Tree, Hash}
use Rattle.mm_relation.specs.declared.index.IndexOn.{IndexOn}
use Rattle.mm_relation.specs.Reading.{Keys}
use Rattle.mm_relation.specs.Settings.{sets_column}
use Rattle.mm_relation.specs.Indexes.{Indexes, room_in, sure, CoversIn, HaveRooms, Cover, KeepRoom, Where, Gain, Gains, GainsAs, Lose, Loses, LosesAs, LoseSet, LosesSet, GainSet, GainsSet}
use Rattle.mm_relation.proofs.Loops.{each_keeps}

-- room for some is room for fewer
pub sure_fewer : (t h u i : ℕ) (index : Index) → u ≤ t → i ≤ h → sure t h index ≤ room_in index → sure u i index ≤ room_in index
sure_fewer t h u i (Tree x) trees hashes room = omega (arith, trees, room)
sure_fewer t h u i (Hash x) trees hashes room = omega (arith, hashes, room)

pub sure_most : (t h : ℕ) (index : Index) → sure t h index ≤ max t h
sure_most t h (Tree x) = omega arith
sure_most t h (Hash x) = omega arith

pub none_wanted : (index : Index) → sure 0 0 index ≤ room_in index
none_wanted (Tree x) = omega arith
none_wanted (Hash x) = omega arith

pub rooms_fewer : (t h u i : ℕ) (all : Indexes) → u ≤ t → i ≤ h → HaveRooms t h all → HaveRooms u i all
rooms_fewer t h u i all trees hashes room k d l = sure_fewer t h u i (get_or all k d).index trees hashes (room k d l)

-- what each keeps all keep
pub each_roomy : (old lent new : Indexes) → lent ≡ old → length new ≡ length lent
    → ((t h k : ℕ) (d : IndexOn) → k < length lent → sure t h (get_or lent k d).index ≤ room_in (get_or lent k d).index → sure t h (get_or new k d).index ≤ room_in (get_or new k d).index)
    → ((q : TupleRef) (k : ℕ) (d : IndexOn) → k < length lent → CoversIn q (get_or lent k d).index → CoversIn q (get_or new k d).index)
    → KeepRoom 0 0 old (refill (length old) old new)
each_roomy old lent new same long room kept = record {
  room = λ t h have. each_keeps (λ on. sure t h on.index ≤ room_in on.index) old lent new same long (room t h) (rooms_fewer (t + 0) (h + 0) t h old (omega arith) (omega arith) have);
  covered = λ q cover. each_keeps (λ on. CoversIn q on.index) old lent new same long (kept q) cover;
}

pub keep_none : (all : Indexes) → KeepRoom 0 0 all all
keep_none all = record { room = λ t h have. rooms_fewer (t + 0) (h + 0) t h all (omega arith) (omega arith) have; covered = λ q cover. cover }

pub keep_then : (a b c d : ℕ) (old mid new : Indexes) → KeepRoom a b old mid → KeepRoom c d mid new → KeepRoom (a + c) (b + d) old new
keep_then a b c d old mid new first second = record {
  room = λ t h have. second.room t h (first.room (t + c) (h + d) (rooms_fewer (t + (a + c)) (h + (b + d)) (t + c + a) (h + d + b) old (omega arith) (omega arith) have));
  covered = λ q cover. second.covered q (first.covered q cover);
}

module _ (keys : Keys) (rows : Tuples Row) (r : TupleRef) where
  gains_sure : (t h c : ℕ) (old new : Index) → GainsAs keys rows r c old new → sure (t + 1) (h + 1) old ≤ room_in old → sure t h new ≤ room_in new
  gains_sure t h c (Tree x) (Tree y) gains room = omega (arith, gains.room, room)
  gains_sure t h c (Hash x) (Hash y) gains room = omega (arith, gains.room, room)
  gains_sure t h c old new gains room = absurd gains

  gains_covers : (q : TupleRef) (c : ℕ) (old new : Index) → GainsAs keys rows r c old new → CoversIn q old → CoversIn q new
  gains_covers q c (Tree x) (Tree y) gains covers = tt
  gains_covers q c (Hash x) (Hash y) gains covers = subst (λ nodes. IsCovered nodes q) (sym gains.nodes) covers
  gains_covers q c old new gains covers = absurd gains

  loses_sure : (t h c : ℕ) (old new : Index) → LosesAs keys rows r c old new → sure t h old ≤ room_in old → sure t (h + 1) new ≤ room_in new
  loses_sure t h c (Tree x) (Tree y) loses room = omega (arith, loses.room, room)
  loses_sure t h c (Hash x) (Hash y) loses room = omega (arith, loses.room, room)
  loses_sure t h c old new loses room = absurd loses

  loses_covers : (q : TupleRef) (c : ℕ) (old new : Index) → LosesAs keys rows r c old new → CoversIn q old → CoversIn q new
  loses_covers q c (Tree x) (Tree y) loses covers = tt
  loses_covers q c (Hash x) (Hash y) loses covers = subst (λ nodes. IsCovered nodes q) (sym loses.nodes) covers
  loses_covers q c old new loses covers = absurd loses

  left_covered : (c : ℕ) (old new : Index) → LosesAs keys rows r c old new → CoversIn r new
  left_covered c (Tree x) (Tree y) loses = tt
  left_covered c (Hash x) (Hash y) loses = loses.covered
  left_covered c old new loses = absurd loses

  -- a row comes into each, or goes out of each
  pub gain_keeps : (old new : Indexes) → Gain keys rows r old new → KeepRoom 1 1 old new
  gain_keeps old new gain = record {
    room = λ t h have k d l. let inside : k < length old = omega (arith, gain.count, l) in gains_sure t h _ (get_or old k d).index (get_or new k d).index (gain.at k d inside).1 (have k d inside);
    covered = λ q cover k d l. let inside : k < length old = omega (arith, gain.count, l) in gains_covers q _ (get_or old k d).index (get_or new k d).index (gain.at k d inside).1 (cover k d inside);
  }

  pub lose_keeps : (old new : Indexes) → Lose keys rows r old new → KeepRoom 0 0 old new
  lose_keeps old new lose = record {
    room = λ t h have k d l. let inside : k < length old = omega (arith, lose.count, l) in
        sure_fewer (t + 0) (h + 0 + 1) t h (get_or new k d).index (omega arith) (omega arith) (loses_sure (t + 0) (h + 0) _ (get_or old k d).index (get_or new k d).index (lose.at k d inside).1 (have k d inside));
    covered = λ q cover k d l. let inside : k < length old = omega (arith, lose.count, l) in loses_covers q _ (get_or old k d).index (get_or new k d).index (lose.at k d inside).1 (cover k d inside);
  }

  pub lose_covers : (old new : Indexes) → Lose keys rows r old new → Cover r new
  lose_covers old new lose k d l = let inside : k < length old = omega (arith, lose.count, l) in left_covered _ (get_or old k d).index (get_or new k d).index (lose.at k d inside).1

-- as cells are set in a row, each tree needs room for it, and a hash none
module _ (keys : Keys) (rows now : Tuples Row) (r : TupleRef) (sets : List (ColumnNumber × Cell)) where
  module _ (P : IndexOn → IndexOn → Type 0) (stays : (on : IndexOn) → P on on) (moves : (old mid new : IndexOn) → Loses keys rows r old mid → Gains keys now r mid new → P old new) where
    again : (old mid new : IndexOn) → LosesSet keys rows r sets old mid → GainsSet keys now r sets mid new → P old new
    again old mid new loses gains =
        elim (sets_column sets old.column.0) as (λ b. sets_column sets old.column.0 ≡ b → Where b (Loses keys rows r old mid) (mid ≡ old) → P old new) [
          | true ↦ λ e h.
              let set : sets_column sets mid.column.0 ≡ true = ap (λ (c : ColumnNumber). sets_column sets c.0) h.0 ∙ e in
              moves old mid new h (subst (λ b. Where b (Gains keys now r mid new) (new ≡ mid)) set gains)
          | false ↦ λ e h.
              let beside : sets_column sets mid.column.0 ≡ false = ap (λ (x : IndexOn). sets_column sets x.column.0) h ∙ e in
              let same : new ≡ old = subst (λ b. Where b (Gains keys now r mid new) (new ≡ mid)) beside gains ∙ h in
              subst (P old) (sym same) (stays old)
        ] refl loses

  -- room for so many in a tree before is room for one fewer behind, and a hash has as much
  abbrev Roomy : IndexOn → IndexOn → Type 0
  Roomy old new = (t h : ℕ) → sure (t + 1) h old.index ≤ room_in old.index → sure t h new.index ≤ room_in new.index

  roomy : (old mid new : IndexOn) → Loses keys rows r old mid → Gains keys now r mid new → Roomy old new
  roomy old mid new loses gains t h room =
      gains_sure keys now r t h mid.column.0 mid.index new.index gains.1 (loses_sure keys rows r (t + 1) h old.column.0 old.index mid.index loses.1 room)

  pub set_keeps : (old mid new : Indexes) → LoseSet keys rows r sets old mid → GainSet keys now r sets mid new → KeepRoom 1 0 old new
  set_keeps old mid new loses gains = record {
    room = λ t h have k d l.
        let inside : k < length old = omega (arith, loses.count, gains.count, l) in
        again Roomy (λ on u i room. sure_fewer (u + 1) i u i on.index (omega arith) (omega arith) room) roomy (get_or old k d) (get_or mid k d) (get_or new k d)
        (loses.at k d inside) (gains.at k d (omega (arith, gains.count, l))) t h (sure_fewer (t + 1) (h + 0) (t + 1) h (get_or old k d).index (omega arith) (omega arith) (have k d inside));
    covered = λ q cover k d l.
        let inside : k < length old = omega (arith, loses.count, gains.count, l) in
        again (λ on to. CoversIn q on.index → CoversIn q to.index) (λ on covers. covers)
        (λ was is to lost gained covers. gains_covers keys now r q _ is.index to.index gained.1 (loses_covers keys rows r q _ was.index is.index lost.1 covers))
        (get_or old k d) (get_or mid k d) (get_or new k d) (loses.at k d inside) (gains.at k d (omega (arith, gains.count, l))) (cover k d inside);
  }
