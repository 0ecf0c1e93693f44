-- The partitions that their bitmaps tell of: what one of them holds, and the first of them, of which the last goes.
use Rattle.std.proofs.Common.{◌≡◌, ℕ, ◌<◌, true, false, nat_lt, List, [], ◌∷◌, ◌++◌, length, get_or, take, Option, sym, ap, ◌∙◌, arith}
use Rattle.std.proofs.lemmas.Bool.{ltb-true, lt-ltb, true≢false}
use Rattle.std.proofs.lemmas.List.{ext_get_or, get_or-take, get_or_push, length-take, length_push}
use Rattle.part_raw.specs.declared.store.Occupancy.{Occupancy}
use Rattle.part_raw.specs.Rows.{IsLaid, rows_in}
use Rattle.part_raw.specs.Layout.{IsPartition}
use Rattle.part_raw.specs.Open.{tables, AreKept}
use Rattle.part_raw.specs.Copies.{AreFirst}
use Rattle.part_raw.proofs.Rows.{rows_in-some, rows_in-none}
use Rattle.part_raw.proofs.Slots.{partition_of}
use Rattle.part_raw.proofs.Bitmaps.{bits_at, told_at, get_or-push_other}
use Rattle.part_raw.proofs.Tables.{length-tables, rows_read}

module _ {T : Type 0} (width : ℕ) (blocks : List (List (Option T))) (occupancies : List Occupancy) (part : ℕ) (block : List (Option T)) (o : Occupancy)
    (kept : AreKept width blocks occupancies) (within : part < length blocks) (read : block ≡ get_or blocks part block) (o_read : o ≡ get_or occupancies part o) where
  among : part < length (tables width blocks)
  among = omega (arith, within, length-tables width blocks)

  rows : rows_in width block ≡ get_or (tables width blocks) part (rows_in width block)
  rows = rows_read width blocks part block within read

  told : o.has_block ≡ nat_lt 0 (length (rows_in width block))
  told = told_at (tables width blocks) occupancies (rows_in width block) o part kept.mapped among rows o_read

  some_rows : o.has_block ≡ true → 0 < length (rows_in width block)
  some_rows there = ltb-true 0 (length (rows_in width block)) (sym told ∙ there)

  pub kept_laid : o.has_block ≡ true → IsLaid width block
  kept_laid there = kept.laid part block within read (rows_in-some width block (some_rows there))

  pub kept_bits : o.has_block ≡ true → IsPartition o.held.words (rows_in width block)
  kept_bits there = partition_of o.held.words (rows_in width block) (bits_at (tables width blocks) occupancies (rows_in width block) o part kept.mapped among rows o_read) (some_rows there)

  -- what has no block has no places
  pub kept_none : o.has_block ≡ false → block ≡ []
  kept_none bare = rows_in-none width block (λ some. true≢false (sym (lt-ltb 0 (length (rows_in width block)) some) ∙ sym told ∙ bare))

module _ {T : Type 0} (width : ℕ) (rest : List (List (Option T))) (block : List (Option T)) (occupancies : List Occupancy) (part : ℕ) (at : part ≡ length rest)
    (is : AreFirst width (rest ++ block ∷ []) occupancies) where
  pub last_within : part < length is.all
  last_within = let e = ap length is.first in omega (arith, at, e, length_push rest block, length-take (length (rest ++ block ∷ [])) is.all)

  -- the first of all, as far as one more than the rest
  as_in_all : (k : ℕ) (d : List (Option T)) → k < length (rest ++ block ∷ []) → get_or (rest ++ block ∷ []) k d ≡ get_or is.all k d
  as_in_all k d below = ap (λ l. get_or l k d) is.first ∙ get_or-take (length (rest ++ block ∷ [])) is.all k d below

  pub last_read : block ≡ get_or is.all part block
  last_read = sym (get_or_push rest block block part (sym at)) ∙ as_in_all part block (omega (arith, at, length_push rest block))

  pub front_first : AreFirst width rest occupancies
  front_first =
      let one = length_push rest block in
      record {
        all = is.all;
        kept = is.kept;
        first = ext_get_or [] rest (take (length rest) is.all) (omega (arith, at, last_within, length-take (length rest) is.all))
            (λ k below.
            sym (get_or-push_other rest k block [] (λ e. omega (arith, e, below))) ∙ as_in_all k [] (omega (arith, one, below))
            ∙ sym (get_or-take (length rest) is.all k [] below));
      }
