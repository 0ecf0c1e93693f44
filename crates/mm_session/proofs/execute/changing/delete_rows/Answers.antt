use Rattle.std.proofs.Common.{◌≡◌, ◌∙◌, ap, length, subst, sym, rules, inl, inr}
use Rattle.std.proofs.lemmas.Option.{slice_get_within}
use Rattle.std.proofs.lemmas.Result.{err_from_is_err_and}
use Rattle.plain_tables.specs.Doing.{done, passes_all}
use Rattle.plain_tables.specs.Effects.{Refused}
use Rattle.plain_tables.specs.ResolvedLaws.{IsMeant}
use Rattle.plain_tables.specs.declared.refusal.Refusal.TheVariants as refusal
use Rattle.plain_tables.specs.declared.resolved.Resolved.TheVariants as resolved
use Rattle.mm_catalog.specs.Changes.{HasEffect}
use Rattle.mm_catalog.specs.Seen.{database_of}
use Rattle.mm_catalog.specs.State.{CatalogState}
use Rattle.mm_session.specs.Passing.{ArePassing}
use Rattle.mm_session.proofs.Memory.{delete_finds_memory}
use Rattle.mm_session.proofs.execute.changing.delete_rows.Goals as goal

passing : (c : goal.After-deref) → ArePassing c.args.tables.now.catalog c.args.table.0 c.args.tests.now c.deref.result.now
passing c =
    subst (λ (k : CatalogState). ArePassing k c.args.table.0 c.args.tests.now c.deref.result.now) c.catalog.ensures
    (subst (ArePassing c.catalog.result.now c.args.table.0 c.args.tests.now) (sym c.deref.ensures) c.in_ok-rows.ensures.passing)

pub delete-requires-clause-there : goal.delete-requires-clause-there
delete-requires-clause-there c = slice_get_within (database_of c.args.tables.now.catalog) c.args.table.0 c.requires.0 c.requires.1

pub delete-requires-clause-held : goal.delete-requires-clause-held
delete-requires-clause-held c = (passing c).held

pub delete-requires-clause-once : goal.delete-requires-clause-once
delete-requires-clause-once c = (passing c).once

pub rows_passing-requires : goal.rows_passing-requires
rows_passing-requires c =
    subst (λ (k : CatalogState). IsMeant k.limits (database_of k) (resolved.Delete c.args.table c.args.tests.now)) (sym c.catalog.ensures) c.requires

pub returns-clause-done : goal.returns-clause-done
returns-clause-done c =
    let old = c.args.tables.now.catalog in
    let are : ArePassing old c.args.table.0 c.args.tests.now c.deref.result.now =
    subst (λ (k : CatalogState). ArePassing k c.args.table.0 c.args.tests.now c.deref.result.now) c.catalog.ensures
    (subst (ArePassing c.catalog.result.now c.args.table.0 c.args.tests.now) (sym c.deref.ensures) c.in_ok-rows.ensures.passing) in
    let counted : length c.deref.result.now ≡ c.len-count.result = search (rules, c.deref.ensures) in
    rw c.note_rows.ensures
    (subst (HasEffect old c.delete.new.self.catalog (done old.limits (database_of old) (resolved.Delete c.args.table c.args.tests.now))) counted
    (c.in_ok-delete.ensures.deleted (passes_all c.args.tests.now) are.picks))

pub returns-in_err-delete-clause-by_key : goal.returns-in_err-delete-clause-by_key
returns-in_err-delete-clause-by_key c = λ none one is.
    let old = c.args.tables.now.catalog in
    let are : ArePassing old c.args.table.0 c.args.tests.now c.deref.result.now =
    subst (λ (k : CatalogState). ArePassing k c.args.table.0 c.args.tests.now c.deref.result.now) c.catalog.ensures
    (subst (ArePassing c.catalog.result.now c.args.table.0 c.args.tests.now) (sym c.deref.ensures) c.in_ok-rows.ensures.passing) in
    let (why, gives, from) = err_from_is_err_and c.from_residual-in_err-delete.result c.from_residual-in_err-delete.ensures.1 in
    let so : c.in_err-delete.field-0.0 ≡ refusal.NoMemory = cc in
    elim c.in_err-delete.ensures.refused [
      | inl memory ↦ memory.1 none
      | inr refused ↦ delete_finds_memory (database_of old) c.args.table (passes_all c.args.tests.now) (refused (passes_all c.args.tests.now) are.picks ∙ ap Refused so)
    ]
