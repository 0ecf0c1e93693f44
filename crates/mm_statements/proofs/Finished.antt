-- Finished: what a resolution with values is, and what comes of it.
use Rattle.std.proofs.Common.{◌≡◌, ◌≢◌, Bool, true, false, List, subst, refl, Option, Some, None, Ok, Err}
use Rattle.std.specs.Prelude.{if◌then◌else◌}
use Rattle.std.specs.List.{list_any}
use Rattle.plain_tables.specs.declared.value.Value.{Value}
use Rattle.plain_tables.specs.declared.refusal.Refusal.{Refusal}
use Rattle.plain_tables.specs.declared.refusal.Refusal.TheVariants.{WrongType, TextTooLong}
use Rattle.plain_tables.specs.declared.resolved.Query.{Query}
use Rattle.plain_tables.specs.declared.resolved.Resolved.{Resolved}
use Rattle.plain_tables.specs.declared.resolved.Resolved.TheVariants as resolved
use Rattle.plain_statements.specs.declared.resolution.Resolution.{Resolution}
use Rattle.plain_statements.specs.declared.resolution.Template.{Template}
use Rattle.plain_statements.specs.declared.resolution.Template.TheVariants as template
use Rattle.plain_statements.specs.Finishing.{comes, filled_template, finished, is_past, is_wrong, unless}
use Rattle.mm_session.specs.Changing.{IsChange}
use Rattle.mm_statements.specs.Resolving.{IsOfRows}

unless-rows : (a b : Bool) (last : Option Refusal) (command c : Resolved)
    → (if a then Err WrongType else if b then Err TextTooLong else unless last command) ≡ Ok c → command ≡ c
unless-rows true b last command c is = cc
unless-rows false true last command c is = cc
unless-rows false false (Some why) command c is = cc
unless-rows false false None command c is = cc

template-rows : (values : List Value) (t : Template) → IsOfRows (filled_template values t)
template-rows values (template.Select query) = tt
template-rows values other = tt

-- where nothing refuses the values, it is the template with these in its holes
pub finished-is : (values : List Value) (r : Resolution) (c : Resolved) → finished values r ≡ Ok c → filled_template values r.template ≡ c
finished-is values r c is =
    unless-rows (list_any (comes is_wrong values) r.wants) (list_any (comes is_past values) r.wants) r.last (filled_template values r.template) c is

-- what a resolution is with values is an insert, an update, a delete or a select
pub finished-rows : (values : List Value) (r : Resolution) (c : Resolved) → finished values r ≡ Ok c → IsOfRows c
finished-rows values r c is = subst IsOfRows (finished-is values r c is) (template-rows values r.template)

-- the one that is no select is a change
pub rows-change : (c : Resolved) → IsOfRows c → ((query : Query) → c ≢ resolved.Select query) → IsChange c
rows-change (resolved.Select query) is other = absurd (other query refl)
rows-change c is other = is
