-- What the statement has shown is replaced by nothing.
use Rattle.std.proofs.Common.{◌∙◌, ℕ, [], refl, ap}
use Rattle.std.specs.Option.{option_map_or}
use Rattle.std.proofs.lemmas.Option.{slice_get_past}
use Rattle.mm_cells.specs.Values.{values_of}
use Rattle.mm_database.proofs.RowCells.{set-other, set-same}
use Rattle.mm_database.proofs.database.OpenDatabase.finalize.Goals as goal

pub returns-in-Some-clause-freed : goal.returns-in-Some-clause-freed
returns-in-Some-clause-freed c =
    let items = c.args.self.now.shown.items in
    let n : ℕ = c.args.number in
    record {
      freed = c.in_ok-finalize.ensures.freed;
      session = c.finalize.ensures.session;
      shared = c.finalize.ensures.keeps;
      answer = refl;
      gone = ap (λ o. option_map_or values_of o []) (set-same items n c.new.result c.in-Some.ensures.item.3.0) ∙ c.new.ensures;
      rows = record { others = λ other parts apart there. set-other items n other c.new.result parts apart there; queried = refl; columns = refl };
    }

pub returns-in_default-clause-freed : goal.returns-in_default-clause-freed
returns-in_default-clause-freed c =
    let items = c.args.self.now.shown.items in
    let n : ℕ = c.args.number in
    record {
      freed = c.in_ok-finalize.ensures.freed;
      session = c.finalize.ensures.session;
      shared = c.finalize.ensures.keeps;
      answer = refl;
      gone = ap (λ o. option_map_or values_of o []) (slice_get_past items n c.in_default.ensures.item.3);
      rows = record { others = λ other parts apart there. there; queried = refl; columns = refl };
    }
