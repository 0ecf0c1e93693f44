use Rattle.mm_csv.specs.BlockReading.{columns_of}
use Rattle.mm_csv.proofs.Fronts.{one-row-more, shorter}
use Rattle.mm_csv.proofs.front.front_rows.Goals as goal

pub loop-row-smaller : goal.loop-row-smaller
loop-row-smaller c =
    shorter (columns_of c.args.layout.now) c.loop-row.left.now c.in-Some.behind.now c.front_row.new.row.items (rw c.in-Some.is at c.in_ok-behind.ensures)

pub loop-row-preserved : goal.loop-row-preserved
loop-row-preserved c =
    rw c.in_ok-push.ensures.pushed
    (one-row-more (columns_of c.args.layout.now) c.args.text.now c.loop-row.left.now c.in-Some.behind.now c.loop-row.rows c.front_row.new.row.items
    c.loop-row.invariant (rw c.in-Some.is at c.in_ok-behind.ensures))
