use Rattle.std.specs.FinMap as finite
use Rattle.part_raw.proofs.Tuples.{held_tuple}
use Rattle.mm_relation.specs.Settings.{with_cells}
use Rattle.mm_relation.specs.Indexes.{GainSet}
use Rattle.mm_relation.proofs.Changing.{have}
use Rattle.mm_relation.proofs.Setting.{column_there}
use Rattle.mm_relation.proofs.Replacing.{keyed_now}
use Rattle.mm_relation.proofs.SetColumns.{await_set, served_set, declared_set}
use Rattle.mm_relation.proofs.Room.{set_keeps}
use Rattle.mm_relation.proofs.change.change_row.Goals as goal

pub remove_set-requires-clause-has : goal.remove_set-requires-clause-has
remove_set-requires-clause-has g c =
    have (g.R.LinkedKeys.keys c.args.links.now) c.args.rows.now.tuples c.requires.served.0 c.args.indexes.now c.requires.served.1 c.requires.read c.requires.served.2 c.args.r c.requires.held

pub write_cells-requires-clause-columns : goal.write_cells-requires-clause-columns
write_cells-requires-clause-columns g c = λ t found k d l.
    (c.requires.settable.not_the_key k d l, column_there (g.R.LinkedKeys.keys c.args.links.now) c.args.rows.now.tuples c.args.r t found _ (c.requires.settable.not_the_key k d l) (c.requires.settable.columns k d l c.args.r c.requires.held))

pub insert_set-requires-clause-keys_differ : goal.insert_set-requires-clause-keys_differ
insert_set-requires-clause-keys_differ g c =
    let found = held_tuple c.args.rows.now.tuples c.args.r c.requires.held in
    rw (c.write_cells.ensures.row found.0 found.1)
    (keyed_now (g.R.LinkedKeys.keys c.args.links.now) c.args.rows.now.tuples c.requires.served.0 c.args.indexes.now c.args.r found.0 c.args.sets.now c.requires.served.1 c.requires.read c.requires.served.2 c.requires.settable found.1).keys_differ

pub insert_set-requires-clause-awaits : goal.insert_set-requires-clause-awaits
insert_set-requires-clause-awaits g c =
    let found = held_tuple c.args.rows.now.tuples c.args.r c.requires.held in
    rw (c.write_cells.ensures.row found.0 found.1)
    (await_set (g.R.LinkedKeys.keys c.args.links.now) c.args.rows.now.tuples c.requires.served.0 c.args.indexes.now c.args.r found.0 c.args.sets.now c.requires.served.1 c.requires.read c.requires.settable found.1 c.requires.few
    c.requires.served.2 c.remove_set.new.indexes c.remove_set.ensures c.requires.room)

pub returns-clause-served : goal.returns-clause-served
returns-clause-served g c = λ list keyed serves.
    let found = held_tuple c.args.rows.now.tuples c.args.r c.requires.held in
    let gains : GainSet (g.R.LinkedKeys.keys c.args.links.now) (finite.insert c.args.rows.now.tuples c.args.r (with_cells c.args.sets.now found.0)) c.args.r c.args.sets.now c.remove_set.new.indexes c.insert_set.new.indexes = rw (c.write_cells.ensures.row found.0 found.1) at c.insert_set.ensures in
    rw (c.write_cells.ensures.row found.0 found.1) (
      keyed_now (g.R.LinkedKeys.keys c.args.links.now) c.args.rows.now.tuples list c.args.indexes.now c.args.r found.0 c.args.sets.now keyed c.requires.read serves c.requires.settable found.1,
      served_set (g.R.LinkedKeys.keys c.args.links.now) c.args.rows.now.tuples list c.args.indexes.now c.args.r found.0 c.args.sets.now keyed c.requires.read c.requires.settable found.1 c.requires.few
          serves c.remove_set.new.indexes c.remove_set.ensures c.requires.room c.insert_set.new.indexes gains,
    )

pub returns-clause-declared : goal.returns-clause-declared
returns-clause-declared g c = declared_set (g.R.LinkedKeys.keys c.args.links.now) _ _ c.args.r c.args.sets.now c.args.indexes.now c.remove_set.new.indexes c.insert_set.new.indexes c.remove_set.ensures c.insert_set.ensures

pub returns-clause-keeps : goal.returns-clause-keeps
returns-clause-keeps g c = set_keeps (g.R.LinkedKeys.keys c.args.links.now) _ _ c.args.r c.args.sets.now c.args.indexes.now c.remove_set.new.indexes c.insert_set.new.indexes c.remove_set.ensures c.insert_set.ensures
