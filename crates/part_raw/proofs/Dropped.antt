-- The blocks of a store that is dropped, with their bitmaps, the last first.
use Rattle.std.proofs.Common.{◌≡◌, ℕ, ◌<◌, true, false, nat_lt, List, [], ◌∷◌, ◌++◌, length, Option, refl, sym, ◌∙◌, arith, subst}
use Rattle.std.proofs.lemmas.List.{length_push, get_or_push, map-append}
use Rattle.part_raw.specs.declared.store.Occupancy.{Occupancy}
use Rattle.part_raw.specs.Rows.{IsLaid, rows_in}
use Rattle.part_raw.specs.Layout.{IsPartition}
use Rattle.part_raw.specs.Open.{tables, AreLaid, HaveBitmaps}
use Rattle.std.proofs.lemmas.Bool.{ltb-true, lt-ltb, true≢false}
use Rattle.part_raw.proofs.Rows.{rows_in-some, rows_in-none}
use Rattle.part_raw.proofs.Slots.{partition_of}
use Rattle.part_raw.proofs.Bitmaps.{bits_of_last, told_of_last, HaveBitmaps-front, get_or-push_other}
use Rattle.part_raw.proofs.Parts.{Blocks}

module _ {T : Type 0} (width : ℕ) (blocks : List (List (Option T))) (block : List (Option T)) (occupancies : List Occupancy) (o : Occupancy)
    (laid : AreLaid width (blocks ++ block ∷ [])) (mapped : HaveBitmaps (tables width (blocks ++ block ∷ [])) (occupancies ++ o ∷ [])) where
  split : HaveBitmaps (tables width blocks ++ rows_in width block ∷ []) (occupancies ++ o ∷ [])
  split = subst (λ (rows : Blocks (List T)). HaveBitmaps rows (occupancies ++ o ∷ [])) (map-append (rows_in width) blocks (block ∷ [])) mapped

  told : o.has_block ≡ nat_lt 0 (length (rows_in width block))
  told = told_of_last (tables width blocks) occupancies (rows_in width block) o split

  some_rows : o.has_block ≡ true → 0 < length (rows_in width block)
  some_rows there = ltb-true 0 (length (rows_in width block)) (sym told ∙ there)

  pub last_laid : o.has_block ≡ true → IsLaid width block
  last_laid there =
      laid (length blocks) block (omega (arith, length_push blocks block)) (sym (get_or_push blocks block block (length blocks) refl)) (rows_in-some width block (some_rows there))

  pub last_bits : o.has_block ≡ true → IsPartition o.held.words (rows_in width block)
  last_bits there = partition_of o.held.words (rows_in width block) (bits_of_last (tables width blocks) occupancies (rows_in width block) o split) (some_rows there)

  -- what has no block has no places
  pub last_none : o.has_block ≡ false → block ≡ []
  last_none bare = rows_in-none width block (λ some. true≢false (sym (lt-ltb 0 (length (rows_in width block)) some) ∙ sym told ∙ bare))

  pub front_laid : AreLaid width blocks
  front_laid part b below read some = laid part b (omega (arith, below, length_push blocks block)) (read ∙ sym (get_or-push_other blocks part block b (λ e. omega (arith, e, below)))) some

  pub front_mapped : HaveBitmaps (tables width blocks) occupancies
  front_mapped = HaveBitmaps-front (tables width blocks) occupancies (rows_in width block) o split
