use Rattle.std.proofs.Common.{◌≡◌, ℕ, ◌≤◌, Bool, false, cond, List, [], ◌∷◌, ◌++◌, length, ap, ◌∙◌, arith}
use Rattle.std.specs.List.{insert, list_any, position_or_len}
use Rattle.std.specs.String.{string_eq, string_eq_equiv}
use Rattle.std.proofs.lemmas.List.Sums.{position_or_len_is}
use Rattle.common_lemmas.proofs.Tests.{fails_where_none}
use Rattle.indexmap.specs.IndexMap.{move_index}
use Rattle.indexmap.specs.IndexSet.{insert_all, insert_key}
use Rattle.indexmap.proofs.MoveLemmas.{push_moved}
use Rattle.indexmap.proofs.SetLemmas.{set_all_distinct}
use Rattle.mm_catalog.proofs.dropped_table.put_name.Goals as goal

-- a new key that is put at a place
put_new : {K : Type 0} (eq : K → K → Bool) (ks : List K) (k : K) (place : ℕ) → list_any (eq k) ks ≡ false → place ≤ length ks
    → move_index (insert_key eq ks k) (position_or_len (eq k) ks) place ≡ insert ks place k
put_new eq ks k place fresh within =
    let last : position_or_len (eq k) ks ≡ length ks =
    position_or_len_is (eq k) ks (length ks) k (omega arith) (λ j l. fails_where_none (eq k) ks fresh j k l) (λ l. absurd (omega (arith, l))) in
    ap (λ (b : Bool). move_index (cond b ks (ks ++ k ∷ [])) (position_or_len (eq k) ks) place) fresh
    ∙ ap (λ (n : ℕ). move_index (ks ++ k ∷ []) n place) last ∙ push_moved ks k place within

-- the names are those that were moved over
pub shift_insert-requires-clause-in_bounds : goal.shift_insert-requires-clause-in_bounds
shift_insert-requires-clause-in_bounds c =
    let keys = c.args.names.now.keys in
    let moved : c.append.new.self.keys ≡ keys = c.in-Ok.ensures.keys ∙ ap (λ ks. insert_all string_eq ks keys) c.requires.empty ∙ set_all_distinct string_eq_equiv [] keys c.len-count.ensures.unique in
    omega (arith, c.requires.within, ap length moved)

pub returns : goal.returns
returns c =
    let keys = c.args.names.now.keys in
    let moved : c.append.new.self.keys ≡ keys = c.in-Ok.ensures.keys ∙ ap (λ ks. insert_all string_eq ks keys) c.requires.empty ∙ set_all_distinct string_eq_equiv [] keys c.len-count.ensures.unique in
    c.in-Ok-shift_insert.ensures.keys
    ∙ put_new string_eq c.append.new.self.keys c.args.name c.args.place (ap (list_any (string_eq c.args.name)) moved ∙ c.requires.new) (omega (arith, c.requires.within, ap length moved))
    ∙ ap (λ ks. insert ks c.args.place c.args.name) moved
