use Rattle.std.proofs.Common.{◌≡◌, length, subst, sym, rules}
use Rattle.plain_tables.specs.Doing.{done, passes_all}
use Rattle.plain_tables.specs.ResolvedLaws.{AreTests, OfTable}
use Rattle.plain_tables.specs.declared.resolved.Resolved.TheVariants as resolved
use Rattle.mm_catalog.specs.Changes.{HasEffect}
use Rattle.mm_catalog.specs.Seen.{database_of}
use Rattle.mm_catalog.specs.State.{CatalogState}
use Rattle.mm_session.specs.Passing.{ArePassing}
use Rattle.mm_session.proofs.execute.changing.update_rows.Goals as goal

passing : (c : goal.After-deref) → ArePassing c.args.tables.now.catalog c.args.table.0 c.args.tests.now c.deref.result.now
passing c =
    subst (λ (k : CatalogState). ArePassing k c.args.table.0 c.args.tests.now c.deref.result.now) c.catalog.ensures
    (subst (ArePassing c.catalog.result.now c.args.table.0 c.args.tests.now) (sym c.deref.ensures) c.in_ok-rows.ensures.passing)

pub rows_passing-requires : goal.rows_passing-requires
rows_passing-requires c =
    subst (λ (k : CatalogState). OfTable c.args.table (database_of k) (λ t. AreTests (database_of k) t c.args.tests.now)) (sym c.catalog.ensures)
    (c.requires.0, c.requires.1, c.requires.2.1)

pub update-requires-clause-meant : goal.update-requires-clause-meant
update-requires-clause-meant c = (c.requires.0, c.requires.1, c.requires.2.0)

pub update-requires-clause-held : goal.update-requires-clause-held
update-requires-clause-held c = (passing c).held

pub update-requires-clause-once : goal.update-requires-clause-once
update-requires-clause-once c = (passing c).once

pub returns-clause-done : goal.returns-clause-done
returns-clause-done c =
    let old = c.args.tables.now.catalog in
    let are : ArePassing old c.args.table.0 c.args.tests.now c.deref.result.now =
    subst (λ (k : CatalogState). ArePassing k c.args.table.0 c.args.tests.now c.deref.result.now) c.catalog.ensures
    (subst (ArePassing c.catalog.result.now c.args.table.0 c.args.tests.now) (sym c.deref.ensures) c.in_ok-rows.ensures.passing) in
    let counted : length c.deref.result.now ≡ c.len-count.result = search (rules, c.deref.ensures) in
    rw c.note_rows.ensures
    (subst (HasEffect old c.update.new.self.catalog (done old.limits (database_of old) (resolved.Update c.args.table c.args.assignments.now c.args.tests.now))) counted
    (c.in_ok-update.ensures.updated (passes_all c.args.tests.now) are.picks))
