-- The numbers of referrers, as links come and go.
use Rattle.std.specs.Prelude.{◌≡◌, ℕ, ◌+◌, ◌^◌, ◌<◌, ◌≤◌, List, Option, Some, IsSome, IsTrue, All, slice_get, count_by}
use Rattle.std.specs.FinMap as finite
use Rattle.part_raw.specs.declared.tuple_ref.TupleRef.{TupleRef}
use Rattle.mm_relation.specs.Rows.{referrers_at}
use Rattle.mm_relation.specs.State.{RelationState, IsKept}
use Rattle.mm_catalog.specs.declared.references.link.Link.{Link}
use Rattle.mm_catalog.specs.Linked.{Linked, is_link_to, target_at}
use Rattle.mm_catalog.specs.Recounted.{AreRecounted}

-- a link as the pair that it is
abbrev pub linked_of : Link → Linked
linked_of link = (link.table.0, link.to)

-- the tables that these links lead into keep the numbers of their rows' referrers
abbrev pub LeadIntoCounted : List RelationState → List (Option ℕ) → Type 0
LeadIntoCounted relations targets =
    (column table : ℕ) (s : RelationState) → target_at targets column ≡ Some table → slice_get relations table ≡ Some s → IsTrue s.counted

-- the link names a row that is held, where the numbers of referrers are kept
abbrev pub IsHeldIn : List RelationState → Linked → Type 0
IsHeldIn relations link =
    (s : RelationState) × (slice_get relations link.0 ≡ Some s) × IsSome (finite.get s.rows link.1) × IsTrue s.counted

-- so many for each row of a table: none, or as many as these links name it
abbrev pub none : ℕ → TupleRef → ℕ
none table r = 0

abbrev pub naming : List Linked → ℕ → TupleRef → ℕ
naming links table r = count_by (is_link_to table r) links

-- each row can have so many referrers more
abbrev pub HaveRoom : List RelationState → ℕ → Type 0
HaveRoom relations n =
    (table : ℕ) (s : RelationState) (r : TupleRef) → slice_get relations table ≡ Some s → IsSome (finite.get s.rows r) → referrers_at s.referrers r + n < 2 ^ 64

-- each row has so many referrers at least
abbrev pub HaveAtLeast : List RelationState → (ℕ → TupleRef → ℕ) → Type 0
HaveAtLeast relations count =
    (table : ℕ) (s : RelationState) (r : TupleRef) → slice_get relations table ≡ Some s → IsSome (finite.get s.rows r) → count table r ≤ referrers_at s.referrers r

-- each row has so many referrers more, and so many fewer, and nothing else differs
pub record AreCountedBy (old new : List RelationState) (more fewer : ℕ → TupleRef → ℕ) : Type 0 where
  pub recounted : AreRecounted old new
  pub kept : All IsKept new
  pub counts : (table : ℕ) (s t : RelationState) (r : TupleRef) → slice_get old table ≡ Some s → slice_get new table ≡ Some t → referrers_at t.referrers r + fewer table r ≡ referrers_at s.referrers r + more table r
