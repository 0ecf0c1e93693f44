use Rattle.plain_tables.proofs.Changes.{refused_keeps, refused_update_keeps, refused_delete_keeps}
use Rattle.plain_tables.proofs.resolved_laws.refused_keeps.Goals as goal

pub returns : goal.returns
returns c = record { resolved = refused_keeps; update = refused_update_keeps; delete = refused_delete_keeps }
