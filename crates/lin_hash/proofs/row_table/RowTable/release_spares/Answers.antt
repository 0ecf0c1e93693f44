use Rattle.lin_hash.proofs.RowHung.{AreRowsHung-kept}
use Rattle.lin_hash.proofs.row_table.RowTable.release_spares.Goals as goal

pub invariant_of-self : goal.invariant_of-self
invariant_of-self c =
    let t = c.self.inside in
    record {
      hung = rw c.shrink_to_fit.ensures.items (AreRowsHung-kept t.address.level t.address.mark t.nodes.items c.release_spares.new.self.items t.heads.items c.release_spares.ensures.keeps c.self.invariant.few c.self.invariant.hung);
      few = c.release_spares.ensures.few;
    }
