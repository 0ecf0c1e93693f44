-- A relation as it is made for a new table, and what becomes of those that its links lead into.
use Rattle.std.specs.Prelude.{◌≡◌, ℕ, ◌<◌, ◌≤◌, ◌++◌, false, List, Option, Some, None, All, IsTrue, length, map, slice_get}
use Rattle.std.specs.Option.{option_and_then}
use Rattle.plain_tables.specs.declared.numbers.TableNumber.{TableNumber}
use Rattle.plain_tables.specs.declared.schema.Schema.{Schema}
use Rattle.plain_tables.specs.declared.schema.Column.{Column}
use Rattle.mm_relation.specs.Declaring.{new_relation, with_target}
use Rattle.mm_relation.specs.State.{RelationState}
use Rattle.mm_catalog.specs.Linked.{target_at, target_of}
use Rattle.mm_catalog.specs.Outline.{changed_each}

-- these columns and nothing else, with links that lead into the tables of these names that the columns refer to
abbrev pub aimed_relation : List (List ℕ) → Schema → RelationState
aimed_relation names schema = record (new_relation schema) { targets = map (target_of names) schema.columns }

-- the links of a column lead into this table, if it refers to one
abbrev pub with_leads : RelationState → ℕ → Option ℕ → RelationState
with_leads s column None = s
with_leads s column (Some table) = with_target s column (record { 0 = table })

-- where the links of the column of a number lead
abbrev pub leads_at : List (List ℕ) → RelationState → ℕ → Option ℕ
leads_at names s column = option_and_then (target_of names) (slice_get s.schema.columns column)

-- the links of the first columns lead where they should, and those of the others nowhere
pub record IsAimedUpTo (names : List (List ℕ)) (schema : Schema) (i : ℕ) (s : RelationState) : Type 0 where
  pub same : s ≡ record (new_relation schema) { targets = s.targets }
  pub wide : length s.targets ≡ length schema.columns
  pub aimed : (k : ℕ) (c : Column) → k < i → slice_get schema.columns k ≡ Some c → slice_get s.targets k ≡ Some (target_of names c)
  pub rest : (k : ℕ) → i ≤ k → k < length schema.columns → slice_get s.targets k ≡ Some None

-- the relation is as it was, but that it may keep the numbers of its rows' referrers now
pub record GainsCounts (old new : RelationState) : Type 0 where
  pub same : new ≡ record old { counted = new.counted }
  pub still : IsTrue old.counted → IsTrue new.counted

-- as many relations, each as it was but for that
pub record GainCounts (old new : List RelationState) : Type 0 where
  pub count : length new ≡ length old
  pub each : (k : ℕ) (s t : RelationState) → slice_get old k ≡ Some s → slice_get new k ≡ Some t → GainsCounts s t

-- the relation keeps the numbers of its rows' referrers no longer
abbrev pub without_counts : RelationState → RelationState
without_counts s = record s { counted = false }

-- Relations keep them now that kept none; their numbers stand behind those of a list. Nothing else differs.
pub record HaveGained (old new : List RelationState) (before after : List TableNumber) : Type 0 where
  pub gained : List TableNumber
  pub list : after ≡ before ++ gained
  pub within : All (λ n. n.0 < length new) gained
  pub others : changed_each without_counts (map (λ n. n.0) gained) new ≡ old

-- the tables that the links of the columns from this one on lead into keep them
abbrev pub LeadIntoCountedFrom : ℕ → List RelationState → List (Option ℕ) → Type 0
LeadIntoCountedFrom first relations targets =
    (column table : ℕ) (s : RelationState) → first ≤ column → target_at targets column ≡ Some table → slice_get relations table ≡ Some s → IsTrue s.counted
