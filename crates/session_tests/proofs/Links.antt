-- Two tables of which one refers to the other, as the joins ask for them.
use Rattle.std.proofs.Common.{◌≡◌, ℕ, ◌<◌, List, [], Option, Some, IsSome, refl, sym, ◌∙◌, subst, arith, inr, length}
use Rattle.std.proofs.lemmas.Option.{slice_get_within, same_Some}
use Rattle.std.specs.Prelude.{slice_get}
use Rattle.std.specs.Option.{option_and_then}
use Rattle.mm_relation.specs.State.{RelationState}
use Rattle.mm_relation.specs.Changes.{HasTree}
use Rattle.mm_catalog.specs.State.{CatalogState}
use Rattle.mm_catalog.specs.Consistent.{IsConsistent}
use Rattle.mm_catalog.proofs.Among.{among_at}
use Rattle.temp_list.specs.Reading.{AreSound, HasColumns}
use Rattle.plan_chooser.specs.declared.plans.JoinInput.{JoinInput}
use Rattle.join_ops.specs.Joins.{IsThere, HasSideTree}
use Rattle.session_tests.specs.Linked.{AreJoinable}

module _ (c : CatalogState) (ok : IsConsistent c) where
  pub sound : AreSound c.relations
  sound = record { each = λ k d l. let among = ok.each k d l in (among.kept, among.current) }

  -- a key can be joined with a column that refers to it and has a tree
  pub joinable : (key reference : JoinInput) → IsThere c.relations key → IsThere c.relations reference → key.column.0 ≡ 0 → 0 < reference.column.0 → HasSideTree reference
      → slice_get reference.relation.now.targets reference.column.0 ≡ Some (Some key.table.0) → AreJoinable c.relations key reference
  joinable key reference first second at_key behind tree target = record {
    sound = sound;
    outer = first;
    inner = second;
    outer_tree = subst (HasTree key.relation.now) (sym at_key) refl;
    inner_tree = tree;
    linked = inr (
      record {
        behind_key = behind;
        target = target;
        linked = λ r row value held cell. (among_at c ok reference.table.0 reference.relation.now second.lent).linked r row held reference.column.0 value behind
            (subst (λ o. IsSome (option_and_then (λ (k : Option ℕ). k) o)) (sym target) refl) cell;
      },
      at_key,
    );
  }
