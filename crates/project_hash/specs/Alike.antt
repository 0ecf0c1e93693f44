-- Rows that are shown alike have one hash.
use Rattle.std.specs.Prelude.{◌≡◌, IsTrue}
use Rattle.std.proofs.Common.{ap}
use Rattle.std.specs.Hash as fed
use Rattle.std.specs.Ordering.{eq_by_cmp, on}
use Rattle.std.specs.declared.cmp.Ordering.TheVariants.{Equal}
use Rattle.std.specs.FinMap.{slice_cmp-IsAntisymmetric}
use Rattle.std.proofs.lemmas.Map.Views.{tells_apart}
use Rattle.plain_tables.specs.declared.value.Value.{Value}
use Rattle.plain_tables.proofs.Values.{value_cmp-exact}
use Rattle.project_hash.specs.Distinct.{values_cmp}
use Rattle.project_hash.specs.Hashes.{hash_of_values}
use Rattle.project_hash.specs.Shown.{ShownState}
use Rattle.std.specs.Prelude.{List}

-- Law: lists of values that compare alike are one.
pub values_cmp-exact : (v w : List Value) → values_cmp v w ≡ Equal → v ≡ w
values_cmp-exact v w tied = slice_cmp-IsAntisymmetric (λ x y e. (value_cmp-exact x y).0 e) v w tied

pub hashed_alike : (x y : ShownState) → IsTrue (eq_by_cmp (on (λ (r : ShownState). r.values) values_cmp) x y) → fed.u32 (hash_of_values x.values) ≡ fed.u32 (hash_of_values y.values)
hashed_alike x y same = ap (λ (values : List Value). fed.u32 (hash_of_values values)) (tells_apart values_cmp-exact x.values y.values same)
