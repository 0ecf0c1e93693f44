use Rattle.std.proofs.Common.{◌≡◌, ℕ, ◌+◌, List, [], ◌∷◌, ◌++◌, length, length-append, sym, ap, ◌∙◌, subst, arith}
use Rattle.plain_tables.specs.RowLists.{RiseTo, rows_between}
use Rattle.plain_tables.specs.Tables.{Row}
use Rattle.plain_tables.proofs.RowLists.{rise-more, rows-more}
use Rattle.plain_tables.proofs.row_list.RowList.push.Goals as goal
use Rattle.plain_tables.proofs.row_list.RowList.push.Goals.{After-push_reserved}

-- the values, and the ends
values : (c : After-push_reserved) → c.append.new.self.items ≡ c.self.inside.values.items ++ c.args.row.now.items
values c = c.in_ok-append.ensures.items

size : (c : After-push_reserved) → length c.append.new.self.items ≡ length c.self.inside.values.items + length c.args.row.now.items
size c = ap length (values c) ∙ length-append c.self.inside.values.items c.args.row.now.items

ends : (c : After-push_reserved)
    → c.push_reserved.new.self.items ≡ c.self.inside.ends.items ++ (length c.self.inside.values.items + length c.args.row.now.items) ∷ []
ends c =
    let end : c.len.result ≡ length c.self.inside.values.items + length c.args.row.now.items = c.len.ensures ∙ c.append.new.self.ok.0 ∙ size c in
    c.push_reserved.ensures.items ∙ ap (λ items. items ++ c.len.result ∷ []) c.in_ok-reserve.ensures.items
    ∙ ap (λ (end : ℕ). c.self.inside.ends.items ++ end ∷ []) end

pub invariant_of-self-2 : goal.invariant_of-self-2
invariant_of-self-2 c =
    subst (λ all. RiseTo 0 all (length c.append.new.self.items)) (sym (ends c))
    (subst (λ n. RiseTo 0 (c.self.inside.ends.items ++ (length c.self.inside.values.items + length c.args.row.now.items) ∷ []) n) (sym (size c))
    (rise-more 0 c.self.inside.ends.items (length c.self.inside.values.items) (length c.self.inside.values.items + length c.args.row.now.items) c.self.invariant (omega arith)))

pub returns-clause-pushed : goal.returns-clause-pushed
returns-clause-pushed c =
    ap (λ all. rows_between 0 all c.append.new.self.items) (ends c)
    ∙ ap (λ items. rows_between 0 (c.self.inside.ends.items ++ (length c.self.inside.values.items + length c.args.row.now.items) ∷ []) items) (values c)
    ∙ rows-more 0 c.self.inside.ends.items c.self.inside.values.items c.args.row.now.items c.self.invariant
    ∙ ap (λ (rows : List Row). rows ++ c.args.row.now.items ∷ []) c.self.view_is
