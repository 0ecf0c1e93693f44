use Rattle.std.proofs.Common.{◌≡◌, Err, sym, ap, ◌∙◌, subst, is_some}
use Rattle.std.specs.List.{All}
use Rattle.std.proofs.lemmas.Option.{same_Some}
use Rattle.mm_relation.specs.declared.refusal.RowRefusal.TheVariants.{KeyExists}
use Rattle.mm_relation.specs.Changes.{IsToldRightly}
use Rattle.mm_relation.specs.Rows.{row_of}
use Rattle.mm_catalog.specs.Inserted.{key_there, no_memory}
use Rattle.mm_catalog.specs.Linked.{row_links}
use Rattle.mm_catalog.specs.Counted.{IsHeldIn, AreCountedBy, naming, none}
use Rattle.mm_catalog.proofs.Taking.{row_here}
use Rattle.mm_catalog.proofs.insert.take_in.Goals as goal

pub count_up_links-requires-clause-held : goal.count_up_links-requires-clause-held
count_up_links-requires-clause-held c =
    ap is_some (row_here c.args.relation.now c.insert_row-taken.new.self c.in-Ok.r (row_of c.args.cells.now.items) c.in-Ok.ensures.inserted)

pub count_up_links-requires-clause-named : goal.count_up_links-requires-clause-named
count_up_links-requires-clause-named c row found =
    let old = c.args.relation.now in
    let new = c.insert_row-taken.new.self in
    let t = row_of c.args.cells.now.items in
    let same : t ≡ row = same_Some t row (sym (row_here old new c.in-Ok.r t c.in-Ok.ensures.inserted) ∙ found) in
    subst (All (IsHeldIn c.args.before.now)) (λ i. row_links (sym c.in-Ok.ensures.inserted.keeps.targets i) (same i)) c.requires.links

pub returns-in-Ok-clause-taken : goal.returns-in-Ok-clause-taken
returns-in-Ok-clause-taken c =
    let old = c.args.relation.now in
    let new = c.insert_row-taken.new.self in
    let t = row_of c.args.cells.now.items in
    record {
      inserted = c.in-Ok.ensures.inserted;
      kept = c.a_relation_is_kept.ensures;
      current = c.in-Ok.ensures.current;
      counted = subst (λ targets. AreCountedBy c.args.before.now c.count_up_links.new.before (naming (row_links targets t)) none) c.in-Ok.ensures.inserted.keeps.targets
          (c.count_up_links.ensures t (row_here old new c.in-Ok.r t c.in-Ok.ensures.inserted));
    }

pub returns-in-Err-KeyExists-clause-refused : goal.returns-in-Err-KeyExists-clause-refused
returns-in-Err-KeyExists-clause-refused c most rest =
    let refused : c.in-Err-KeyExists.field-0 ≡ KeyExists = rw c.in-Err-KeyExists.is at c.in-Err-KeyExists.field-0-is in
    key_there (subst (IsToldRightly c.args.relation.now (row_of c.args.cells.now.items).key) (c.in-Err-KeyExists.is ∙ ap Err refused) c.insert_row-taken.ensures.told)

pub returns-in-Err-NoMemory-clause-refused : goal.returns-in-Err-NoMemory-clause-refused
returns-in-Err-NoMemory-clause-refused c most rest = no_memory
