use Rattle.std.specs.String.{string_bytes}
use Rattle.mm_catalog.proofs.Lists.{same_shown}
use Rattle.mm_catalog.proofs.copying.copy_names.Goals as goal

pub returns : goal.returns
returns c = same_shown string_bytes c.args.names.now.keys c.in_ok-clone.field-0.keys c.in_ok-clone.ensures.cases
