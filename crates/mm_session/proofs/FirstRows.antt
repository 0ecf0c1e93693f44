-- What is shown of the first rows that pass.
use Rattle.std.proofs.Common.{◌≡◌, ◌∙◌, ℕ, List, Some, IsSome, [], ap, refl, sym, subst, get_or, map, take}
use Rattle.std.specs.Prelude.{slice_get}
use Rattle.std.specs.FinMap as finite
use Rattle.std.specs.List.{All}
use Rattle.std.proofs.lemmas.List.{take-map}
use Rattle.std.proofs.lemmas.List.Elements.{All-take}
use Rattle.part_raw.specs.declared.tuple_ref.TupleRef.{TupleRef}
use Rattle.plain_tables.specs.ResolvedLaws.{IsMeant}
use Rattle.plain_tables.specs.declared.resolved.Query.{Query}
use Rattle.plain_tables.specs.declared.resolved.Resolved.TheVariants as resolved
use Rattle.mm_relation.specs.State.{RelationState}
use Rattle.mm_catalog.specs.State.{CatalogState}
use Rattle.mm_catalog.specs.Seen.{database_of}
use Rattle.mm_catalog.specs.Consistent.{IsConsistent}
use Rattle.mm_catalog.proofs.Among.{among_at}
use Rattle.mm_catalog.proofs.Lists.{map_agree_on}
use Rattle.temp_list.specs.Reading.{passing}
use Rattle.temp_list.proofs.Selects.{passing_held}
use Rattle.mm_session.specs.First.{ShowsFirstRows}
use Rattle.mm_session.specs.OnlyRow.{values_shown}
use Rattle.mm_session.specs.Walked.{rows_shown, shown_row}
use Rattle.mm_session.proofs.OnlyRow.{places, values_same}
use Rattle.mm_session.proofs.Walked.{walked_rows}

module _ (c : CatalogState) (ok : IsConsistent c) (query : Query) (one : IsMeant c.limits (database_of c) (resolved.Select query) × (query.joins ≡ [])) (s : RelationState) (there : slice_get c.relations query.source.table.0 ≡ Some s)
    (most : ℕ) (rows : List TupleRef) (shows : ShowsFirstRows c query most rows) where
  abbrev refs : List TupleRef
  refs = passing c.relations s query.source.tests

  pub first_shown : map (values_shown c s query.shown) rows ≡ take most (rows_shown c query)
  first_shown =
      map_agree_on (values_shown c s query.shown) (shown_row c s (places c ok query one s there)) rows (λ k d l. values_same c ok query one s there (get_or rows k d))
      ∙ ap (map (shown_row c s (places c ok query one s there))) (shows.pass s there)
      ∙ sym (take-map (shown_row c s (places c ok query one s there)) most refs)
      ∙ ap (take most) (walked_rows c ok query one s there (places c ok query one s there) refl shows.ordered.0)

  -- and they are held
  pub first_held : All (λ r. IsSome (finite.get s.rows r)) rows
  first_held =
      subst (All (λ r. IsSome (finite.get s.rows r))) (sym (shows.pass s there))
      (All-take (λ r. IsSome (finite.get s.rows r)) most refs (passing_held c.relations s (among_at c ok query.source.table.0 s there).kept query.source.tests))
