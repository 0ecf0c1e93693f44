use Rattle.std.proofs.Common.{rules}
use Rattle.std.specs.Ordering.{is_ge}
use Rattle.std.proofs.lemmas.Fn.{always_returns_same}
use Rattle.temp_list.specs.Seen.{listed_cmp}
use Rattle.temp_list.proofs.Sorts.{rise_told}
use Rattle.temp_list.proofs.sorting.all_keys_rise.Goals as goal

pub returns : goal.returns
returns g c =
    rise_told (listed_cmp (g.R.Relations.tables c.args.tables.now) c.args.sources.now) c.args.rows.now c.is_sorted_by.result
    (c.is_sorted_by.ensures.cases (λ x y. is_ge (listed_cmp (g.R.Relations.tables c.args.tables.now) c.args.sources.now y x)) (always_returns_same _ _ _ (λ a r f' k. search rules)))
