use Rattle.std.proofs.Common.{◌≡◌, ◌∙◌, ◌∷◌, ◌<◌, ◌≤◌, ℕ, [], List, Some, ap, sym, subst, get_or, map, length, arith, refl}
use Rattle.std.specs.Prelude.{slice_get}
use Rattle.std.specs.List.{All}
use Rattle.std.proofs.lemmas.Option.{slice_get-get_or}
use Rattle.std.proofs.lemmas.Result.{on_ok_weaker}
use Rattle.part_raw.specs.declared.tuple_ref.TupleRef.{TupleRef}
use Rattle.plain_tables.specs.Tables.{Row}
use Rattle.plain_tables.specs.declared.numbers.Place.{Place}
use Rattle.plain_tables.specs.declared.numbers.TableNumber.{TableNumber}
use Rattle.mm_catalog.specs.State.{CatalogState}
use Rattle.temp_list.specs.Lists.{ListState, IsOver, IsRowOver, HasPlace}
use Rattle.mm_session.specs.Shown.{placed_values}
use Rattle.mm_session.specs.Sinks.{PutsRows}
use Rattle.mm_session.proofs.execute.rows.push_row.Goals as goal

no_table : TableNumber
no_table = record { 0 = 0 }

no_row : TupleRef
no_row = record { number = 0 }

only : {A : Type 0} (xs : List A) (d : A) → 1 ≤ length xs → length xs < 2 → xs ≡ get_or xs 0 d ∷ []
only [] d least below = absurd (omega arith)
only (x ∷ []) d least below = refl
only (x ∷ y ∷ xs) d least below = absurd (omega arith)

-- the table and the reference of a row of a list over one table
module _ (c : CatalogState) (list : ListState) (over : IsOver c.relations list) (at : ℕ) (within : at < length list.rows)
    (tables : List TableNumber) (are : map (λ t. t.0) tables ≡ list.sources) (least : 1 ≤ length tables) (below : length tables < 2)
    (row : List TupleRef) (there : slice_get list.rows at ≡ Some row) (d : TableNumber) (e : TupleRef) where
  n : ℕ
  n = (get_or tables 0 d).0

  r : TupleRef
  r = get_or row 0 e

  one_source : list.sources ≡ n ∷ []
  unfolding n
  one_source = sym are ∙ ap (map (λ (t : TableNumber). t.0)) (only tables d least below)

  is : get_or list.rows at [] ≡ row
  is = let both : Some (get_or list.rows at []) ≡ Some row = sym (slice_get-get_or list.rows at [] within) ∙ there in cc

  row_over : IsRowOver c.relations list.sources row
  row_over = subst (IsRowOver c.relations list.sources) is (over.rows at [] within)

  one_row : row ≡ r ∷ []
  unfolding r
  one_row =
      let wide : length row ≡ 1 = row_over.width ∙ ap length one_source in
      only row e (omega (arith, wide)) (omega (arith, wide))

  source_there : n < length c.relations
  source_there = (subst (All (λ k. k < length c.relations)) one_source over.sources) 0 0 (omega arith)

  single_over : IsRowOver c.relations (n ∷ []) (r ∷ [])
  single_over = subst (λ (ns : List ℕ). IsRowOver c.relations ns (r ∷ [])) one_source (subst (IsRowOver c.relations list.sources) one_row row_over)

  single_values : (places : List Place) → placed_values c (n ∷ []) places (r ∷ []) ≡ placed_values c list.sources places (get_or list.rows at [])
  single_values places =
      ap (λ (ns : List ℕ). placed_values c ns places (r ∷ [])) (sym one_source) ∙ ap (placed_values c list.sources places) (sym one_row ∙ sym is)

pub push_single-requires : goal.push_single-requires
unfolding n r no_table no_row
push_single-requires g c κs =
    let catalog = c.args.catalog.now in
    let list = c.args.list.now in
    let over = c.requires.over in
    let least = c.in-len1.len_at_least in
    let below = c.in-len1.len_below in (
      (refl, tt),
      (
        source_there catalog list over c.args.row c.requires.row c.sources.result.now c.sources.ensures least below c.row.result.now c.row.ensures no_table no_row,
        (
          single_over catalog list over c.args.row c.requires.row c.sources.result.now c.sources.ensures least below c.row.result.now c.row.ensures no_table no_row,
          (
            subst (λ (ns : List ℕ). All (HasPlace catalog.relations ns) c.args.places.now)
                (one_source catalog list over c.args.row c.requires.row c.sources.result.now c.sources.ensures least below c.row.result.now c.row.ensures no_table no_row)
                c.requires.places,
            c.requires.some,
          ),
        ),
      ),
    )

pub returns-in-len1-clause-put : goal.returns-in-len1-clause-put
unfolding n r no_table no_row
returns-in-len1-clause-put g c =
    let same = single_values c.args.catalog.now c.args.list.now c.requires.over c.args.row c.requires.row c.sources.result.now c.sources.ensures c.in-len1.len_at_least c.in-len1.len_below c.row.result.now
    c.row.ensures no_table no_row c.args.places.now in
    on_ok_weaker c.push_single.result
    (λ puts. subst (λ (values : Row). PutsRows g.S.RowSink.received c.args.sink.now c.push_single.new.sink (values ∷ [])) same puts)
    c.push_single.ensures.put
