-- A child rises above its node.
use Rattle.std.proofs.Common.{◌≡◌, ℕ, ◌+◌, ◌<◌, ◌≤◌, true, List, length, sym, ap, ◌∙◌, subst, arith}
use Rattle.std.specs.Prelude.{Some, None}
use denote.RawPtr.{Ptr}
use Rattle.part_raw.specs.declared.tuple_ref.TupleRef.{TupleRef}
use Rattle.ttree_node.specs.Held.{node_at}
use Rattle.ttree_node.specs.Tree.{Tree, Frame, Label, plug}
use Rattle.ttree_node.specs.Linked.{Spot, spot, there, root_of, parent_of, side_of, one_if, occurs, occurs_above, occurs_in, with_link, with_parent, Stands, Around, Chained, linked_down, linked_up, hung, rooted, Linked, node_limit}
use Rattle.ttree_node.specs.Seen.{opposite, hangs_on_node}
use Rattle.ttree_node.specs.declared.node.Side.{Side}
use Rattle.ttree_node.specs.declared.node.Side.TheVariants.{Root}
use Rattle.ttree_node.specs.declared.parts.Parts.{Parts}
use Rattle.ttree_node.proofs.Forks.{fork, fork_for, root_fork, size_fork, occurs_fork, stands_fork, fork_stands, near_changed, far_changed}
use Rattle.ttree_node.proofs.Maps.{update_same, update_other, update_length}
use Rattle.ttree_node.proofs.Refit.{refit, refit_other, refit_length, refit_root}
use Rattle.ttree_node.proofs.Rehang.{rehung, rehung_other, rehung_length}
use Rattle.ttree_node.proofs.Shape.{one_same, differs, size_plug, occurs_plug, unplug, plugged, still_stands, still_around, still_chained}

module _ {MAX : ℕ} where
  pub turned : (s : Side) → hangs_on_node s ≡ true → (p p' : Parts MAX) (c : List (Frame Spot)) (far : Tree Spot) (a : Ptr) (x : Label TupleRef) (mid : Tree Spot) (b : Ptr) (y : Label TupleRef) (outer : Tree Spot) (ps : List Ptr)
      → Linked p (plug c (fork s (spot a x) (fork s (spot b y) outer mid) far)) ps
      → p'.nodes.held ≡ hung (there b) (parent_of c) (side_of c) (hung (there a) (there b) (opposite s) (hung (root_of mid) (there a) s p.nodes.held))
      → p'.root ≡ rooted (parent_of c) (there b) p.root → p'.free ≡ p.free → p'.spares ≡ p.spares → Linked p' (plug c (fork s (spot b y) outer (fork s (spot a x) mid far))) ps
  turned s on p p' c far a x mid b y outer ps k held root free spares =
      let m = p.nodes.held in let under : Tree Spot = fork s (spot b y) outer mid in let over : Tree Spot = fork s (spot a x) mid far in
      let old : Tree Spot = fork s (spot a x) under far in let new : Tree Spot = fork s (spot b y) outer over in
      let m1 = linked_down (there a) s (root_of mid) m in let m2 = linked_up (root_of mid) (there a) s m1 in
      let m3 = linked_down (there b) (opposite s) (there a) m2 in let m4 = linked_up (there a) (there b) (opposite s) m3 in
      let m5 = linked_down (parent_of c) (side_of c) (there b) m4 in let n = linked_up (there b) (parent_of c) (side_of c) m5 in
      let z = unplug m c old k.stands in
      let upper = stands_fork m s on (parent_of c) (side_of c) (spot a x) under far z.1 in let lower = stands_fork m s on (there a) s (spot b y) outer mid upper.1 in
      let parts : (o : Ptr) → occurs o old ≡ one_if o a + one_if o b + occurs o outer + occurs o mid + occurs o far = λ o. omega (arith, occurs_fork o s (spot a x) under far, occurs_fork o s (spot b y) outer mid) in
      let apart : (o : Ptr) → occurs_above o c + one_if o a + one_if o b + occurs o far + occurs o mid + occurs o outer + occurs_in o ps ≤ 1 = λ o. omega (arith, k.alone o, occurs_plug o c old, parts o) in
      let to_two : (o : Ptr) → one_if o a ≡ 0 → occurs o mid ≡ 0 → node_at o m2 ≡ node_at o m = λ o e f. rehung_other m1 (there a) s mid o f ∙ update_other a o (with_link s (root_of mid)) m (differs o a e) in
      let to_four : (o : Ptr) → one_if o a ≡ 0 → one_if o b ≡ 0 → node_at o m4 ≡ node_at o m2 = λ o e f. update_other a o (with_parent (there b) (opposite s)) m3 (differs o a e) ∙ update_other b o (with_link (opposite s) (there a)) m2 (differs o b f) in
      let to_end : (o : Ptr) → one_if o b ≡ 0 → occurs_above o c ≡ 0 → node_at o n ≡ node_at o m4 = λ o e f. update_other b o (with_parent (parent_of c) (side_of c)) m5 (differs o b e) ∙ refit_other m4 (there b) c o f in
      let rest : (o : Ptr) → 0 < occurs o far + occurs o outer + occurs_in o ps → node_at o n ≡ node_at o m = λ o some.
      to_end o (omega (arith, some, apart o)) (omega (arith, some, apart o)) ∙ to_four o (omega (arith, some, apart o)) (omega (arith, some, apart o)) ∙ to_two o (omega (arith, some, apart o)) (omega (arith, some, apart o)) in
      let at_a : node_at a n ≡ Some (fork_for s x (there b) (opposite s) (root_of mid) (root_of far)) =
      to_end a (omega (arith, apart a, one_same a)) (omega (arith, apart a, one_same a))
      ∙ update_same a (with_parent (there b) (opposite s)) _ m3 (update_other b a (with_link (opposite s) (there a)) m2 (differs a b (omega (arith, apart a, one_same a)))
      ∙ rehung_other m1 (there a) s mid a (omega (arith, apart a, one_same a)) ∙ update_same a (with_link s (root_of mid)) _ m upper.0)
      ∙ ap (λ w. Some w) (near_changed x (parent_of c) (side_of c) (root_of under) (root_of far) s on (there b) (root_of mid) (opposite s)) in
      let at_b : node_at b n ≡ Some (fork_for s y (parent_of c) (side_of c) (root_of outer) (there a)) =
      update_same b (with_parent (parent_of c) (side_of c)) _ m5 (refit_other m4 (there b) c b (omega (arith, apart b, one_same b)) ∙ update_other a b (with_parent (there b) (opposite s)) m3 (differs b a (omega (arith, apart b, one_same b)))
      ∙ update_same b (with_link (opposite s) (there a)) _ m2 (to_two b (omega (arith, apart b, one_same b)) (omega (arith, apart b, one_same b)) ∙ lower.0))
      ∙ ap (λ w. Some w) (far_changed y (there a) s (root_of outer) (root_of mid) s on (parent_of c) (there a) (side_of c)) in
      let mid1 : Stands m1 (there b) (opposite s) mid = still_stands m m1 (there b) (opposite s) mid (λ o some. update_other a o (with_link s (root_of mid)) m (differs o a (omega (arith, some, apart o)))) lower.2 in
      let mid2 : Stands m2 (there a) s mid = rehung m1 (there b) (there a) (opposite s) s mid (λ o. omega (arith, apart o)) mid1 in
      let mid3 : Stands n (there a) s mid = still_stands m2 n (there a) s mid (λ o some. to_end o (omega (arith, some, apart o)) (omega (arith, some, apart o)) ∙ to_four o (omega (arith, some, apart o)) (omega (arith, some, apart o))) mid2 in
      let far1 : Stands n (there a) (opposite s) far = still_stands m n (there a) (opposite s) far (λ o some. rest o (omega (arith, some))) upper.2 in
      let outer1 : Stands n (there b) s outer = still_stands m n (there b) s outer (λ o some. rest o (omega (arith, some))) lower.1 in
      let above4 : Around m4 (there a) c = still_around m m4 (there a) c (λ o some. to_four o (omega (arith, some, apart o)) (omega (arith, some, apart o)) ∙ to_two o (omega (arith, some, apart o)) (omega (arith, some, apart o)))
      (subst (λ u. Around m u c) (root_fork s (spot a x) under far) z.0) in
      let above : Around n (there b) c = still_around m5 n (there b) c (λ o some. update_other b o (with_parent (parent_of c) (side_of c)) m5 (differs o b (omega (arith, some, apart o)))) (refit m4 (there a) (there b) c (λ o. omega (arith, apart o)) above4) in
      let over_stands = fork_stands n s on (there b) (opposite s) (spot a x) mid far at_a mid3 far1 in
      let stands : Stands n None Root (plug c new) = plugged n c new (subst (λ u. Around n u c) (sym (root_fork s (spot b y) outer over)) above)
      (fork_stands n s on (parent_of c) (side_of c) (spot b y) outer over (at_b ∙ ap (λ u. Some (fork_for s y (parent_of c) (side_of c) (root_of outer) u)) (sym (root_fork s (spot a x) mid far))) outer1 over_stands) in
      let same : length n ≡ length m = update_length b (with_parent (parent_of c) (side_of c)) m5 ∙ refit_length m4 (there b) c ∙ update_length a (with_parent (there b) (opposite s)) m3 ∙ update_length b (with_link (opposite s) (there a)) m2
      ∙ rehung_length m1 (there a) s mid ∙ update_length a (with_link s (root_of mid)) m in
      record {
        stands = subst (λ h. Stands h None Root (plug c new)) (sym held) stands;
        root = root ∙ ap (λ u. rooted (parent_of c) u p.root) (sym (root_fork s (spot b y) outer over)) ∙ refit_root c old new p.root k.root;
        chained = subst (λ h. Chained h ps) (sym held) (still_chained m n ps (λ o some. rest o (omega (arith, some))) k.chained);
        free = free ∙ k.free;
        spares = spares ∙ k.spares;
        alone = λ o. omega (arith, apart o, occurs_plug o c new, occurs_fork o s (spot b y) outer over, occurs_fork o s (spot a x) mid far);
        total = omega (arith, k.total, size_plug c old, size_plug c new, same, size_fork s (spot a x) under far, size_fork s (spot b y) outer mid, size_fork s (spot b y) outer over, size_fork s (spot a x) mid far) ∙ sym (ap length held);
        small = subst (λ h. length h < node_limit) (sym held) (omega (arith, k.small, same));
        narrow = λ some. k.narrow (omega (arith, some, ap length held, same));
      }
