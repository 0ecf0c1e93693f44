-- A load of rows whose places were brought into another order, as one of the rows as they stand.
use Rattle.std.specs.Prelude.{Result, Ok, Err, OnOk, IfErr, is_ok, true, false}
use Rattle.std.proofs.Common.{◌≡◌, ℕ, List, [], length, map, subst}
use Rattle.std.specs.List.Sorted.{IsPermutation}
use Rattle.std.proofs.lemmas.List.Sorted.{All-permutation, length_permutation}
use Rattle.common_lemmas.proofs.Elements.{All-at}
use Rattle.plain_tables.specs.Tables.{Table, Row}
use Rattle.plain_tables.specs.Doing.{load}
use Rattle.plain_tables.specs.Effects.{Effect}
use Rattle.plain_tables.specs.References.{IsSoundTable}
use Rattle.plain_tables.specs.ResolvedLaws.{IsInsertable, IsMeant}
use Rattle.plain_tables.specs.declared.numbers.TableNumber.{TableNumber}
use Rattle.plain_tables.specs.declared.refusal.Refusal.{Refusal}
use Rattle.plain_tables.specs.declared.resolved.Resolved.TheVariants as resolved
use Rattle.plain_tables.proofs.Referring.{refers_not_to_itself}
use Rattle.mm_catalog.specs.Changes.{HasEffect, IsDeclinedFor, KeepsDatabase}
use Rattle.mm_catalog.specs.Consistent.{IsConsistent}
use Rattle.mm_catalog.specs.LoadOrder.{KeyPlace, row_at}
use Rattle.mm_catalog.specs.Seen.{database_of}
use Rattle.mm_catalog.specs.State.{CatalogState}
use Rattle.mm_catalog.proofs.DoneLoads.{load_moved}

module _ (c : CatalogState) (ok : IsConsistent c) (n : TableNumber) (rows : List Row) (places : List KeyPlace) (moved : IsPermutation rows (map (row_at rows) places)) (meant : IsMeant c.limits (database_of c) (resolved.Load n rows)) where
  abbrev others : List Row
  others = map (row_at rows) places

  -- they can come in as well
  pub meant_moved : IsMeant c.limits (database_of c) (resolved.Load n others)
  meant_moved = (meant.0, meant.1, All-permutation (λ row. IsInsertable (database_of c) row meant.0) rows others moved meant.2)

  -- and once all are in, the rows are
  effect_moved : (d : CatalogState) → HasEffect c d (load c.limits (database_of c) n others) (length others) → HasEffect c d (load c.limits (database_of c) n rows) (length rows)
  effect_moved d h =
      let tables = database_of c in
      let table : Table = meant.0 in
      let sound : IsSoundTable c.limits table = All-at (IsSoundTable c.limits) tables n.0 table ok.sound.each meant.1 in
      let same : load c.limits tables n others ≡ load c.limits tables n rows =
      load_moved c.limits n tables table rows others (length others) meant.1 (refers_not_to_itself [] tables n.0 table meant.1 ok.sound.refer_back ok.sound.apart)
      sound.rows_rise sound.few_rows moved h.outcome in
      let each : length others ≡ length rows = length_permutation rows others moved in
      subst (λ (count : ℕ). HasEffect c d (load c.limits tables n rows) count) each (subst (λ (e : Effect). HasEffect c d e (length others)) same h)

  pub loaded_moved : {X : Type 0} (d : CatalogState) (r : Result X Refusal) → OnOk r (HasEffect c d (load c.limits (database_of c) n others) (length others)) → IfErr r (IsDeclinedFor c d (load c.limits (database_of c) n others))
      → (is_ok r ≡ true → HasEffect c d (load c.limits (database_of c) n rows) (length rows)) × (is_ok r ≡ false → KeepsDatabase c d)
  loaded_moved d (Ok x) done declined = (λ _. effect_moved d done, λ no. absurd (cc))
  loaded_moved d (Err e) done declined = (λ yes. absurd (cc), λ _. declined.0)
