-- A relation of which only numbers of referrers change shows what it showed.
use Rattle.std.proofs.Common.{◌≡◌, sym, ap, subst}
use Rattle.part_raw.specs.declared.tuple_ref.TupleRef.{TupleRef}
use Rattle.mm_relation.specs.Reading.{Keys, key_at}
use Rattle.mm_relation.specs.State.{RelationState, IsCurrent}
use Rattle.mm_catalog.specs.Linked.{relation_links}
use Rattle.mm_catalog.specs.Recounted.{IsRecounted}
use Rattle.mm_catalog.specs.Seen.{rows_of}

module _ (s t : RelationState) (h : IsRecounted s t) where
  pub key_recounted : (r : TupleRef) → key_at t.rows r ≡ key_at s.rows r
  key_recounted r = ap (λ (u : RelationState). key_at u.rows r) h

  -- it is current where it was
  pub current_recounted : (keys : Keys) → IsCurrent keys s → IsCurrent keys t
  current_recounted keys current = subst (IsCurrent keys) (sym h) (record { readable = current.readable; trees = current.trees; hashes = current.hashes })

  pub rows_recounted : (keys : Keys) → rows_of keys t ≡ rows_of keys s
  unfolding rows_of
  rows_recounted keys = ap (rows_of keys) h

  pub links_recounted : relation_links t ≡ relation_links s
  unfolding relation_links
  links_recounted = ap relation_links h
