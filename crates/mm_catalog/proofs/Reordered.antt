-- References of rows, put into another order.
use Rattle.std.proofs.Common.{◌≡◌, ◌≢◌, ℕ, List, IsSome}
use Rattle.std.specs.Cmp.{IsEquivalence, eq_by_cmp_equiv}
use Rattle.std.specs.FinMap.{get}
use Rattle.std.specs.List.{All, AllPairs, Contains}
use Rattle.std.proofs.lemmas.List.Elements.{All-contains, All-contains_itself, All-weaker}
use Rattle.part_raw.specs.Store.{Tuples}
use Rattle.part_raw.specs.declared.tuple_ref.TupleRef.{TupleRef}
use Rattle.part_raw.proofs.Refs.{ref_cmp_total}
use Rattle.part_raw.proofs.Tuples.{Decides-same_ref, same_ref}
use Rattle.mm_index.specs.Bag.{IsSameBag}
use Rattle.mm_index.proofs.Bags.{IsSameBag-sym}
use Rattle.mm_index.proofs.Distinct.{AllPairs-same_bag}
use Rattle.mm_index.proofs.Refs.{Contains-same_refs}
use Rattle.mm_relation.specs.Rows.{Row}
use Rattle.mm_relation.specs.State.{RelationState}
use Rattle.mm_catalog.specs.Deleted.{AreRemoved, IsFree}
use Rattle.mm_catalog.specs.Loaded.{AreFreeRows, HaveGone}
use Rattle.mm_catalog.specs.Outline.{Outline, changed_at, without, without_rows}
use Rattle.mm_catalog.specs.Picked.{HoldsRows}
use Rattle.mm_catalog.specs.State.{CatalogState}
use Rattle.mm_catalog.proofs.Outlined.{gone_without, still_without, without_is}

laws : IsEquivalence same_ref
laws = eq_by_cmp_equiv ref_cmp_total

module _ (now rows : List TupleRef) (bag : IsSameBag now rows) where
  among_now : (r : TupleRef) → Contains rows r → Contains now r
  among_now r = Contains-same_refs rows now r (IsSameBag-sym bag)

  all_now : (P : TupleRef → Type 0) → All P rows → All P now
  all_now P all = All-weaker (Contains now) P (λ r there. All-contains P rows r all (Contains-same_refs now rows r bag there)) now (All-contains_itself now)

  pub once_now : AllPairs (λ q r. q ≢ r) rows → AllPairs (λ q r. q ≢ r) now
  once_now = AllPairs-same_bag same_ref Decides-same_ref laws rows now (IsSameBag-sym bag)

  pub held_now : (c : CatalogState) (n : ℕ) → HoldsRows c n rows → HoldsRows c n now
  held_now c n held s there = all_now (λ r. IsSome (get s.rows r)) (held s there)

  pub free_now : (c : CatalogState) (n : ℕ) → AreFreeRows c n rows → AreFreeRows c n now
  free_now c n free s there = all_now (IsFree s) (free s there)

  same_without : (all : Tuples Row) → without now all ≡ without rows all
  same_without all = without_is now all (without rows all)
      (λ q there. gone_without rows all q (Contains-same_refs now rows q bag there))
      (λ q other. still_without rows all q (λ there. other (among_now q there)))

  pub without_now : (n : ℕ) (o : Outline) → without_rows n now o ≡ without_rows n rows o
  without_now n o = λ i. record { limits = o.limits; names = o.names; relations = changed_at (λ s. record s { rows = same_without s.rows i }) n o.relations }

  removed_now : (before after : RelationState) → AreRemoved before after now → AreRemoved before after rows
  removed_now before after removed = record {
    gone = λ r there. removed.gone r (among_now r there);
    others = λ r other. removed.others r (λ there. other (Contains-same_refs now rows r bag there));
    counts = λ r other. removed.counts r (λ there. other (Contains-same_refs now rows r bag there));
    keeps = removed.keeps;
  }

  pub gone_now : (c d : CatalogState) (n : ℕ) → HaveGone c d n now → HaveGone c d n rows
  gone_now c d n gone =
      let these = gone.out.deleted in
      record {
        out = record {
          deleted = record {
            front = these.front;
            before = these.before;
            after = these.after;
            there = these.there;
            list = these.list;
            unlinked = these.unlinked;
            removed = removed_now these.before these.after these.removed;
            kept = these.kept;
            current = these.current;
          };
          aside = gone.out.aside;
        };
        same = gone.same;
      }
