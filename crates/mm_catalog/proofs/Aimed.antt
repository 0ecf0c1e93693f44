-- Where the links of a new relation lead.
use Rattle.std.proofs.Common.{◌≡◌, ℕ, zero, suc, ◌+◌, ◌<◌, ◌≤◌, Bool, List, Option, Some, None, refl, sym, ap, ◌∙◌, subst, arith, length, map, set, replicate, get_or, length-set, inl, inr}
use Rattle.std.specs.List.{slice_get, position}
use Rattle.std.specs.Option.{option_and_then, option_map}
use Rattle.std.specs.Str.{bytes_eq}
use Rattle.std.specs.Prelude.{String}
use Rattle.std.specs.String.{string_bytes}
use Rattle.std.specs.Cmp.Lexicographic.{nat_list_eq_equiv}
use Rattle.std.proofs.lemmas.Bool.{cases_lt, cases_eq}
use Rattle.std.proofs.lemmas.List.{length-map, length-replicate}
use Rattle.std.proofs.lemmas.Option.{slice_get-map, slice_get_past, slice_get_read}
use Rattle.common_lemmas.proofs.Places.{slice_get-inside, slice_get_set, slice_get-set_other}
use Rattle.plain_tables.specs.declared.schema.Schema.{Schema}
use Rattle.plain_tables.specs.declared.schema.Column.{Column}
use Rattle.mm_relation.specs.Declaring.{new_relation}
use Rattle.mm_relation.specs.State.{RelationState}
use Rattle.mm_catalog.specs.Linked.{target_of}
use Rattle.mm_catalog.specs.Created.{aimed_relation, with_leads, leads_at, IsAimedUpTo}
use Rattle.mm_catalog.proofs.Lists.{same_by_get}
use Rattle.mm_catalog.proofs.Finding.{position-map}

-- a name is found among the keys where it is among the names
pub key_found : {Z : Type 0} (keys : List (String Z)) (name : List ℕ) → position (λ key. bytes_eq name (string_bytes key)) keys ≡ position (λ n. bytes_eq n name) (map string_bytes keys)
key_found {Z} keys name =
    ap (λ (test : String Z → Bool). position test keys) (λ i key. nat_list_eq_equiv.symm name (string_bytes key) i)
    ∙ sym (position-map (λ n. bytes_eq n name) string_bytes keys)

get-replicate : {A : Type 0} (n k : ℕ) (x : A) → k < n → slice_get (replicate n x) k ≡ Some x
get-replicate zero k x h = absurd (omega arith)
get-replicate (suc n) zero x h = refl
get-replicate (suc n) (suc k) x h = get-replicate n k x (omega arith)

pub aimed_first : (names : List (List ℕ)) (schema : Schema) (s : RelationState) → s ≡ new_relation schema → IsAimedUpTo names schema 0 s
aimed_first names schema s e = subst (IsAimedUpTo names schema 0) (sym e) (record {
  same = refl;
  wide = length-replicate _ _;
  aimed = λ k c l at. absurd (omega arith);
  rest = λ k l m. get-replicate (length schema.columns) k None m;
})

leads_there : (names : List (List ℕ)) (schema : Schema) (i : ℕ) (s : RelationState) (found : Option ℕ) → IsAimedUpTo names schema i s → i < length schema.columns → ((c : Column) → slice_get schema.columns i ≡ Some c → target_of names c ≡ found) → IsAimedUpTo names schema (i + 1) (with_leads s i found)
leads_there names schema i s None h within is = record {
  same = h.same;
  wide = h.wide;
  aimed = λ k c l at. elim (cases_eq k i) [
    | inl e ↦ ap (slice_get s.targets) e ∙ h.rest i (omega arith) within ∙ ap (λ o. Some o) (sym (is c (ap (slice_get schema.columns) (sym e) ∙ at)))
    | inr other ↦ h.aimed k c (omega (arith, other)) at
  ];
  rest = λ k l m. h.rest k (omega arith) m;
}
leads_there names schema i s (Some t) h within is = record {
  same = ap (λ (r : RelationState). record r { targets = set s.targets i (Some t) }) h.same;
  wide = length-set s.targets i (Some t) ∙ h.wide;
  aimed = λ k c l at. elim (cases_eq k i) [
    | inl e ↦
        ap (slice_get (set s.targets i (Some t))) e ∙ slice_get_set s.targets i (Some t) (omega (arith, h.wide))
        ∙ ap (λ o. Some o) (sym (is c (ap (slice_get schema.columns) (sym e) ∙ at)))
    | inr other ↦ slice_get-set_other s.targets i k (Some t) other ∙ h.aimed k c (omega (arith, other)) at
  ];
  rest = λ k l m. slice_get-set_other s.targets i k (Some t) (λ e. absurd (omega (arith, l, e))) ∙ h.rest k (omega arith) m;
}

pub aimed_next : (names : List (List ℕ)) (schema : Schema) (i : ℕ) (s new : RelationState) → IsAimedUpTo names schema i s → i < length schema.columns → new ≡ with_leads s i (leads_at names s i) → IsAimedUpTo names schema (i + 1) new
aimed_next names schema i s new h within e =
    subst (IsAimedUpTo names schema (i + 1)) (sym e)
    (leads_there names schema i s (leads_at names s i) h within
    (λ c at. ap (option_and_then (target_of names)) (sym at) ∙ ap (λ (r : RelationState). option_and_then (target_of names) (slice_get r.schema.columns i)) (sym h.same)))

pub aimed_whole : (names : List (List ℕ)) (schema : Schema) (i : ℕ) (s : RelationState) → IsAimedUpTo names schema i s → length schema.columns ≤ i → s ≡ aimed_relation names schema
aimed_whole names schema i s h within =
    let targets : s.targets ≡ map (target_of names) schema.columns = same_by_get s.targets (map (target_of names) schema.columns) (λ k. elim (cases_lt k (length schema.columns)) [
      | inl below ↦
          let c = slice_get-inside schema.columns k below in
          h.aimed k c.0 (omega arith) c.1 ∙ sym (slice_get-map (target_of names) schema.columns k ∙ ap (option_map (target_of names)) c.1)
      | inr past ↦
          slice_get_past s.targets k (omega (arith, h.wide)) ∙ sym (slice_get_past (map (target_of names) schema.columns) k (omega (arith, length-map schema.columns (target_of names))))
    ]) in
    h.same ∙ ap (λ ts. record (new_relation schema) { targets = ts }) targets

-- what is told of the column that is there
pub leads_of : (names : List (List ℕ)) (s : RelationState) (i : ℕ) (c : Column) (found : Option ℕ) → i < length s.schema.columns → c ≡ get_or s.schema.columns i c → found ≡ target_of names c → leads_at names s i ≡ found
leads_of names s i c found within is told =
    ap (option_and_then (target_of names)) (slice_get_read s.schema.columns (length s.schema.columns) i c refl within is) ∙ sym told
