use Rattle.lin_hash.proofs.RowHung.{AreRowsHung-kept}
use Rattle.lin_hash.proofs.row_table.RowTable.cover.Goals as goal

pub invariant_of-self : goal.invariant_of-self
invariant_of-self c =
    let t = c.self.inside in
    record {
      hung = AreRowsHung-kept t.address.level t.address.mark t.nodes.items c.cover.new.self.items t.heads.items c.cover.ensures.keeps c.self.invariant.few c.self.invariant.hung;
      few = c.cover.ensures.few c.self.invariant.few;
    }
