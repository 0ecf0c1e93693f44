use Rattle.std.proofs.Common.{◌≡◌, ℕ, zero, suc, List, [], ◌∷◌, None, get_or, refl}
use Rattle.std.specs.List.{slice_get}
use Rattle.std.proofs.lemmas.Option.{none-some}
use Rattle.plain_tables.specs.Tables.{Row}
use Rattle.mm_catalog.proofs.by_key.row_of.Goals as goal

past : (rows : List Row) (n : ℕ) → None ≡ slice_get rows n → [] ≡ get_or rows n []
past [] n none = refl
past (row ∷ rows) zero none = absurd (none-some row none)
past (row ∷ rows) (suc n) none = past rows n none

pub returns-in-None : goal.returns-in-None
returns-in-None c = past c.args.rows.now c.args.place.now.1 c.in-None.ensures
