use Rattle.std.proofs.Common.{IsSome, ◌<◌, ◌≡◌, false, cond, List, [], ◌∷◌, ◌++◌, is_some, map, length, drop, sym, ap, ◌∙◌, subst, arith, refl}
use Rattle.std.specs.String.{string_bytes}
use Rattle.std.proofs.lemmas.List.{map-append}
use Rattle.std.proofs.lemmas.List.Elements.{All-map}
use Rattle.std.specs.List.{slice_get}
use Rattle.std.specs.Option.{option_and_then}
use Rattle.plain_tables.specs.Databases.{table_named}
use Rattle.plain_tables.specs.Tables.{Table}
use Rattle.plain_tables.specs.Effects.{new_table}
use Rattle.plain_tables.specs.References.{key_type, own_type}
use Rattle.plain_tables.specs.ResolvedLaws.{IsDeclarable}
use Rattle.plain_tables.specs.declared.numbers.TableNumber.{TableNumber}
use Rattle.plain_tables.specs.declared.resolved.Resolved.TheVariants as resolved
use Rattle.mm_relation.specs.State.{RelationState, IsKept}
use Rattle.mm_catalog.specs.State.{CatalogState}
use Rattle.mm_catalog.specs.Seen.{database_of}
use Rattle.mm_catalog.specs.Linked.{target_at}
use Rattle.mm_catalog.specs.Counted.{LeadIntoCounted}
use Rattle.mm_catalog.specs.Created.{aimed_relation, GainCounts, HaveGained}
use Rattle.mm_catalog.specs.Consistent.{IsConsistent}
use Rattle.mm_catalog.specs.Changes.{IsDone}
use Rattle.mm_catalog.specs.Declarations.{HasTableMore}
use Rattle.mm_catalog.specs.Outline.{outline_of}
use Rattle.mm_catalog.proofs.Created.{new_key, leads_before}
use Rattle.mm_catalog.proofs.Gaining.{consistent_created, done_created}
use Rattle.mm_catalog.proofs.LastTable.{table_more}
use Rattle.mm_catalog.proofs.Lists.{whole}
use Rattle.mm_catalog.proofs.catalog.Catalog.create_noted.Goals as goal
use Rattle.mm_catalog.proofs.catalog.Catalog.create_noted.Goals.{After-push_reserved}

-- a table with a key has a column
some_columns : (t : Table) → IsSome (key_type t) → 0 < length t.columns
some_columns t keyed = (elim t.columns as (λ cs. IsSome (option_and_then (λ c. own_type c.kind) (slice_get cs 0)) → 0 < length cs) [
  | [] ↦ λ h. cc
  | c ∷ cs ↦ λ h. omega arith
]) keyed

pub aimed-requires : goal.aimed-requires
aimed-requires c = (some_columns (new_table c.args.name c.args.schema) c.requires.sound.keyed, c.requires.sound.few_columns)

pub count_targets-requires : goal.count_targets-requires
count_targets-requires c = record {
  within = λ k table e.
      let s : CatalogState = record { limits = c.self.inside.limits; names = map string_bytes c.self.inside.names.keys; relations = c.self.inside.relations.items } in
      let below = leads_before s.names c.args.schema k table (ap (λ (r : RelationState). target_at r.targets k) (sym c.in_ok-relation.ensures.made) ∙ e) in
      omega (arith, below, c.self.invariant.named, ap length c.as_mut_slice-relations.ensures.value, ap length c.in_ok-reserve.ensures.items);
}

pub invariant_of-self-in_err-count_targets : goal.invariant_of-self-in_err-count_targets
invariant_of-self-in_err-count_targets c =
    let s : CatalogState = record { limits = c.self.inside.limits; names = map string_bytes c.self.inside.names.keys; relations = c.self.inside.relations.items } in
    let mid = c.count_targets.new.relations in
    let back = whole mid (drop (length mid) c.reserve.new.self.items) c.reserve.new.self.len (omega (arith, c.count_targets.auto.relations, ap length c.as_mut_slice-relations.ensures.value, c.reserve.new.self.ok.0)) in
    let relations = back ∙ c.in_err-count_targets.ensures.unchanged ∙ c.as_mut_slice-relations.ensures.value ∙ c.in_ok-reserve.ensures.items in
    let names = ap (map string_bytes) c.reserve-2.ensures.keys in
    subst IsConsistent (λ i. record { limits = s.limits; names = sym names i; relations = sym relations i }) c.self.invariant

abbrev seen : After-push_reserved → CatalogState
seen c = record { limits = c.self.inside.limits; names = map string_bytes c.self.inside.names.keys; relations = c.self.inside.relations.items }

-- the table is there, and is empty, and the catalog is consistent
created : (c : After-push_reserved) → (d : CatalogState) → d ≡ record (seen c) { names = map string_bytes c.insert.new.self.keys; relations = c.push_reserved.new.self.items }
    → IsConsistent d × IsDone (seen c) d (resolved.Table c.args.name c.args.schema) × HasTableMore (outline_of (seen c)) (outline_of d) (map (λ (n : TableNumber). n.0) c.count_targets.new.gained.items)
created c d is =
    let keys = c.self.inside.names.keys in
    let keys_now = c.reserve-2.new.self.keys in
    let k = c.in_ok-name.name in
    let named : string_bytes k ≡ c.args.name = c.in_ok-name.ensures.ok ∙ c.as_str.ensures in
    let s = seen c in
    let meant : IsDeclarable s.limits (database_of s) c.args.name c.args.schema = rw (← c.self.view_is) at c.requires in
    let absent : is_some (table_named (string_bytes k) (database_of s)) ≡ false = subst (λ n. is_some (table_named n (database_of s)) ≡ false) (sym named) meant.is_new in
    let same_keys : keys_now ≡ keys = c.reserve-2.ensures.keys in
    let names : map string_bytes c.insert.new.self.keys ≡ s.names ++ c.args.name ∷ [] =
    ap (map string_bytes) c.in-Ok.ensures.keys
    ∙ ap (λ b. map string_bytes (cond b keys_now (keys_now ++ k ∷ []))) (new_key s c.self.invariant keys_now k (ap (map string_bytes) same_keys) absent)
    ∙ map-append string_bytes keys_now (k ∷ []) ∙ (λ i. map string_bytes (same_keys i) ++ named i ∷ []) in
    let mid = c.count_targets.new.relations in
    let was : c.as_mut_slice-relations.result.now ≡ s.relations = c.as_mut_slice-relations.ensures.value ∙ c.in_ok-reserve.ensures.items in
    let back = whole mid (drop (length mid) c.reserve.new.self.items) c.reserve.new.self.len (omega (arith, c.count_targets.auto.relations, ap length c.as_mut_slice-relations.ensures.value, c.reserve.new.self.ok.0)) in
    let gains : GainCounts s.relations mid = subst (λ (rs : List RelationState). GainCounts rs mid) was c.in_ok-count_targets.ensures.gained in
    let listed : HaveGained s.relations mid [] c.count_targets.new.gained.items =
    subst (λ (ns : List TableNumber). HaveGained s.relations mid ns c.count_targets.new.gained.items) c.new-gained.ensures.items (subst (λ (rs : List RelationState). HaveGained rs mid c.new-gained.result.items c.count_targets.new.gained.items) was c.in_ok-count_targets.ensures.listed) in
    let numbers = map (λ (n : TableNumber). n.0) listed.gained in
    let within = All-map (λ n. n < length mid) (λ (n : TableNumber). n.0) listed.gained listed.within in
    let made : c.in_ok-relation.relation ≡ aimed_relation s.names c.args.schema = c.in_ok-relation.ensures.made in
    let counts : LeadIntoCounted mid (aimed_relation s.names c.args.schema).targets =
    subst (λ (r : RelationState). LeadIntoCounted mid r.targets) made (λ column table t. c.in_ok-count_targets.ensures.counted column table t (omega arith)) in
    let relations : c.push_reserved.new.self.items ≡ mid ++ aimed_relation s.names c.args.schema ∷ [] =
    c.push_reserved.ensures.items ∙ ap (λ rs. rs ++ c.in_ok-relation.relation ∷ []) back ∙ ap (λ r. mid ++ r ∷ []) made in
    let kept : IsKept (aimed_relation s.names c.args.schema) = subst IsKept made c.in_ok-relation.ensures.kept in
    subst (λ e. IsConsistent e × IsDone s e (resolved.Table c.args.name c.args.schema) × HasTableMore (outline_of s) (outline_of e) (map (λ (n : TableNumber). n.0) c.count_targets.new.gained.items)) ((λ i. record { limits = s.limits; names = sym names i; relations = sym relations i }) ∙ sym is) (
      consistent_created s c.self.invariant mid gains c.args.name c.args.schema kept meant counts,
      done_created s c.self.invariant mid gains c.args.name c.args.schema kept meant counts,
      subst (λ (ns : List TableNumber). HasTableMore (outline_of s) (outline_of (record s { names = s.names ++ c.args.name ∷ []; relations = mid ++ aimed_relation s.names c.args.schema ∷ [] })) (map (λ (n : TableNumber). n.0) ns)) (sym listed.list)
          (table_more s mid numbers within listed.others c.args.name c.args.schema),
    )

pub invariant_of-self-2 : goal.invariant_of-self-2
invariant_of-self-2 c = (created (goal.at.invariant_of-self-2 c).After-push_reserved _ refl).0

pub returns-clause-done : goal.returns-clause-done
returns-clause-done c = rw (← c.self.view_is) (created (goal.at.returns-clause-done c).After-push_reserved _ refl).1

pub returns-clause-made : goal.returns-clause-made
returns-clause-made c = rw (← c.self.view_is) (created (goal.at.returns-clause-made c).After-push_reserved _ refl).2
