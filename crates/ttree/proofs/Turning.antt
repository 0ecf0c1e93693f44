-- A node whose child on one side is too high by one is mended by one turn, or by two.
use Rattle.std.proofs.Common.{◌≡◌, ℕ, ◌+◌, ◌<◌, ◌≤◌, max, min, length, refl, sym, subst, arith}
use Rattle.ttree_node.specs.Tree.{Tree, empty, node, Label, height, items_of, stated}
use Rattle.ttree_node.specs.Seen.{child, opposite}
use Rattle.ttree_node.specs.declared.node.Side.{Side}
use Rattle.ttree_node.specs.declared.node.Side.TheVariants.{Root, Left, Right}
use Rattle.ttree.specs.Shape.{IsTTree}
use Rattle.ttree.specs.Rising.{Leans, IsMendedTo, outer_turned, inner_turned}
use Rattle.ttree.proofs.Fitness.{Fits, high_node, low_no_node, in_numbers, in_swapped, from_numbers, from_swapped, stated-height, some_items}

-- In all that follows p is the outer and q the inner child of the higher child, r the other child, and n the number of the node's items.

module _ (least most hp hq ip iq hy ny hr ir n : ℕ) where
  outer_lower : Fits least most hp hq ip iq hy ny → hy ≡ 2 + hr → hq ≤ hp → (0 < hq → 0 < iq) → 0 < n → n ≤ most → (0 < hr → least ≤ n) → (hr ≡ 0 → 0 < hp → 0 < hq → least ≤ n)
      → (h : ℕ) → h ≡ 1 + max hq hr → Fits least most hq hr iq ir h n
  outer_lower f high order some_q some room internal only h e = record {
    left_near = omega (arith, f);
    right_near = omega (arith, f);
    true_height = e;
    some = some;
    room = room;
    internal = λ a b. internal b;
    left_half = λ a b. omega (arith, f, some_q a, only b (omega (arith, f)) a);
    right_half = λ a b. absurd (omega (arith, f));
  }

  outer_upper : Fits least most hp hq ip iq hy ny → hy ≡ 2 + hr → hq ≤ hp → least ≤ ny → (hl : ℕ) → hl ≡ 1 + max hq hr → (h : ℕ) → h ≡ 1 + max hp hl → Fits least most hp hl ip n h ny
  outer_upper f high order enough hl el h e = record {
    left_near = omega (arith, f);
    right_near = omega (arith, f);
    true_height = e;
    some = f.some;
    room = f.room;
    internal = λ a b. enough;
    left_half = λ a b. absurd (omega (arith, f));
    right_half = λ a b. absurd (omega (arith, f));
  }

-- a height that is stated anew from true heights is true
anew : (a b c d : ℕ) → a ≡ c → b ≡ d → 1 + max c d < 4294967295 → min (1 + max a b) 4294967295 ≡ 1 + max c d
anew a b c d e e' low = omega arith

anew_swapped : (a b c d : ℕ) → a ≡ c → b ≡ d → 1 + max c d < 4294967295 → min (1 + max a b) 4294967295 ≡ 1 + max d c
anew_swapped a b c d e e' low = omega arith

-- the inner child has the children u, next to p, and v, and nz items
module _ (least most hp hu hv ip iu iv hy ny hz nz hr ir n : ℕ) where
  inner_near : Fits least most hp hz ip nz hy ny → Fits least most hu hv iu iv hz nz → hy ≡ 2 + hr → hp < hz → (0 < hp → 0 < ip) → (h : ℕ) → h ≡ 1 + max hp hu → Fits least most hp hu ip iu h ny
  inner_near f g high order some_p h e = record {
    left_near = omega (arith, f, g);
    right_near = omega (arith, f, g);
    true_height = e;
    some = f.some;
    room = f.room;
    internal = λ a b. f.internal a (omega (arith, g));
    left_half = λ a b. omega (arith, some_p a, f.internal a (omega (arith, g)));
    right_half = λ a b. absurd (omega (arith, f, g));
  }

  inner_far : Fits least most hp hz ip nz hy ny → Fits least most hu hv iu iv hz nz → hy ≡ 2 + hr → hp < hz → (0 < hr → 0 < ir) → 0 < n → n ≤ most → (0 < hr → least ≤ n)
      → (h : ℕ) → h ≡ 1 + max hv hr → Fits least most hv hr iv ir h n
  inner_far f g high order some_r some room internal h e = record {
    left_near = omega (arith, f, g);
    right_near = omega (arith, f, g);
    true_height = e;
    some = some;
    room = room;
    internal = λ a b. internal b;
    left_half = λ a b. absurd (omega (arith, f, g));
    right_half = λ a b. omega (arith, some_r b, internal b);
  }

  inner_upper : Fits least most hp hz ip nz hy ny → Fits least most hu hv iu iv hz nz → hy ≡ 2 + hr → hp < hz → least ≤ nz
      → (hb : ℕ) → hb ≡ 1 + max hp hu → (ha : ℕ) → ha ≡ 1 + max hv hr → (h : ℕ) → h ≡ 1 + max hb ha → Fits least most hb ha ny n h nz
  inner_upper f g high order enough hb eb ha ea h e = record {
    left_near = omega (arith, f, g);
    right_near = omega (arith, f, g);
    true_height = e;
    some = g.some;
    room = g.room;
    internal = λ a b. enough;
    left_half = λ a b. absurd (omega (arith, f, g));
    right_half = λ a b. absurd (omega (arith, f, g));
  }

module _ {I : Type 0} (least most : ℕ) where
  pub outer-mends : (side : Side) (t : Tree (Label I)) → Leans side least most t → height (child (opposite side) (child side t)) ≤ height (child side (child side t))
      → least ≤ length (items_of (child side t)) → height t < 4294967295 → IsMendedTo least most t (outer_turned side t)
  outer-mends Root t k order enough low = absurd (omega (arith, k.high))
  outer-mends Left empty k order enough low = absurd (omega (arith, k.high))
  outer-mends Left (node empty x r) k order enough low = absurd (omega (arith, k.high))
  outer-mends Left (node (node p y q) x r) k order enough low =
      let sp : stated p ≡ height p = stated-height least most p k.high_fit.0 in
      let sq : stated q ≡ height q = stated-height least most q k.high_fit.2 in
      let sr : stated r ≡ height r = stated-height least most r k.low_fit in
      let f : Fits least most (height p) (height q) (length (items_of p)) (length (items_of q)) y.height (length y.items) = in_numbers least most p y q k.high_fit.1 in
      let high : y.height ≡ 2 + height r = omega (arith, f, k.high) in
      let lower = outer_lower least most (height p) (height q) (length (items_of p)) (length (items_of q)) y.height (length y.items) (height r) (length (items_of r)) (length x.items) f high order
      (some_items least most q k.high_fit.2) k.some k.fits (λ h. k.internal (high_node r h)) (λ h a b. k.only (low_no_node r h) (high_node p a, high_node q b)) in
      let upper = outer_upper least most (height p) (height q) (length (items_of p)) (length (items_of q)) y.height (length y.items) (height r) (length (items_of r)) (length x.items) f high order enough in
      record {
        fit = (k.high_fit.0, from_numbers least most p _ _ (upper (1 + max (height q) (height r)) refl _ (omega (arith, f))), (k.high_fit.2, from_numbers least most q _ r (lower _ (omega (arith, f))), k.low_fit));
        not_higher = omega (arith, f);
        not_lower = omega (arith, f);
        kept = λ near. absurd (omega (arith, near.0, k.high));
        nodes = omega arith;
      }
  outer-mends Right empty k order enough low = absurd (omega (arith, k.high))
  outer-mends Right (node r x empty) k order enough low = absurd (omega (arith, k.high))
  outer-mends Right (node r x (node q y p)) k order enough low =
      let sp : stated p ≡ height p = stated-height least most p k.high_fit.2 in
      let sq : stated q ≡ height q = stated-height least most q k.high_fit.0 in
      let sr : stated r ≡ height r = stated-height least most r k.low_fit in
      let f : Fits least most (height p) (height q) (length (items_of p)) (length (items_of q)) y.height (length y.items) = in_swapped least most q y p k.high_fit.1 in
      let high : y.height ≡ 2 + height r = omega (arith, f, k.high) in
      let lower = outer_lower least most (height p) (height q) (length (items_of p)) (length (items_of q)) y.height (length y.items) (height r) (length (items_of r)) (length x.items) f high order
      (some_items least most q k.high_fit.0) k.some k.fits (λ h. k.internal (high_node r h)) (λ h a b. k.only (low_no_node r h) (high_node q b, high_node p a)) in
      let upper = outer_upper least most (height p) (height q) (length (items_of p)) (length (items_of q)) y.height (length y.items) (height r) (length (items_of r)) (length x.items) f high order enough in
      record {
        fit = ((k.low_fit, from_swapped least most r _ q (lower _ (omega (arith, f))), k.high_fit.0), from_swapped least most _ _ p (upper (1 + max (height r) (height q)) (omega arith) _ (omega (arith, f))), k.high_fit.2);
        not_higher = omega (arith, f);
        not_lower = omega (arith, f);
        kept = λ near. absurd (omega (arith, near.1, k.high));
        nodes = omega arith;
      }

  pub inner-mends : (side : Side) (t : Tree (Label I)) → Leans side least most t → height (child side (child side t)) < height (child (opposite side) (child side t))
      → least ≤ length (items_of (child (opposite side) (child side t))) → height t < 4294967295 → IsMendedTo least most t (inner_turned side t)
  inner-mends Root t k order enough low = absurd (omega (arith, k.high))
  inner-mends Left empty k order enough low = absurd (omega (arith, k.high))
  inner-mends Left (node empty x r) k order enough low = absurd (omega (arith, k.high))
  inner-mends Left (node (node p y empty) x r) k order enough low = absurd (omega (arith, order))
  inner-mends Left (node (node p y (node u z v)) x r) k order enough low =
      let pf : IsTTree least most p = k.high_fit.0 in let uf : IsTTree least most u = k.high_fit.2.0 in let vf : IsTTree least most v = k.high_fit.2.2 in
      let sp : stated p ≡ height p = stated-height least most p pf in
      let su : stated u ≡ height u = stated-height least most u uf in
      let sv : stated v ≡ height v = stated-height least most v vf in
      let sr : stated r ≡ height r = stated-height least most r k.low_fit in
      let f : Fits least most (height p) (1 + max (height u) (height v)) (length (items_of p)) (length z.items) y.height (length y.items) = in_numbers least most p y (node u z v) k.high_fit.1 in
      let g : Fits least most (height u) (height v) (length (items_of u)) (length (items_of v)) z.height (length z.items) = in_numbers least most u z v k.high_fit.2.1 in
      let f' : Fits least most (height p) z.height (length (items_of p)) (length z.items) y.height (length y.items) = subst (λ h. Fits least most (height p) h (length (items_of p)) (length z.items) y.height (length y.items)) (sym g.true_height) f in
      let high : y.height ≡ 2 + height r = omega (arith, f, k.high) in
      let order' : height p < z.height = omega (arith, g, order) in
      let near = inner_near least most (height p) (height u) (height v) (length (items_of p)) (length (items_of u)) (length (items_of v)) y.height (length y.items) z.height (length z.items) (height r) (length (items_of r)) (length x.items)
      f' g high order' (some_items least most p pf) in
      let far = inner_far least most (height p) (height u) (height v) (length (items_of p)) (length (items_of u)) (length (items_of v)) y.height (length y.items) z.height (length z.items) (height r) (length (items_of r)) (length x.items)
      f' g high order' (some_items least most r k.low_fit) k.some k.fits (λ h. k.internal (high_node r h)) in
      let upper = inner_upper least most (height p) (height u) (height v) (length (items_of p)) (length (items_of u)) (length (items_of v)) y.height (length y.items) z.height (length z.items) (height r) (length (items_of r)) (length x.items)
      f' g high order' enough in
      let states_near : min (1 + max (stated p) (stated u)) 4294967295 ≡ 1 + max (height p) (height u) = anew _ _ _ _ sp su (omega (arith, f, g)) in
      let states_far : min (1 + max (stated v) (stated r)) 4294967295 ≡ 1 + max (height v) (height r) = anew _ _ _ _ sv sr (omega (arith, f, g)) in
      record {
        fit = (
          (pf, from_numbers least most p _ u (near _ states_near), uf),
          from_numbers least most _ _ _ (upper (1 + max (height p) (height u)) refl (1 + max (height v) (height r)) refl _ (anew _ _ _ _ states_near states_far (omega (arith, f, g)))),
          (vf, from_numbers least most v _ r (far _ states_far), k.low_fit),
        );
        not_higher = omega (arith, f, g);
        not_lower = omega (arith, f, g);
        kept = λ near. absurd (omega (arith, near.0, k.high));
        nodes = omega arith;
      }
  inner-mends Right empty k order enough low = absurd (omega (arith, k.high))
  inner-mends Right (node r x empty) k order enough low = absurd (omega (arith, k.high))
  inner-mends Right (node r x (node empty y p)) k order enough low = absurd (omega (arith, order))
  inner-mends Right (node r x (node (node v z u) y p)) k order enough low =
      let pf : IsTTree least most p = k.high_fit.2 in let uf : IsTTree least most u = k.high_fit.0.2 in let vf : IsTTree least most v = k.high_fit.0.0 in
      let sp : stated p ≡ height p = stated-height least most p pf in
      let su : stated u ≡ height u = stated-height least most u uf in
      let sv : stated v ≡ height v = stated-height least most v vf in
      let sr : stated r ≡ height r = stated-height least most r k.low_fit in
      let f : Fits least most (height p) (1 + max (height v) (height u)) (length (items_of p)) (length z.items) y.height (length y.items) = in_swapped least most (node v z u) y p k.high_fit.1 in
      let g : Fits least most (height u) (height v) (length (items_of u)) (length (items_of v)) z.height (length z.items) = in_swapped least most v z u k.high_fit.0.1 in
      let f' : Fits least most (height p) z.height (length (items_of p)) (length z.items) y.height (length y.items) = subst (λ h. Fits least most (height p) h (length (items_of p)) (length z.items) y.height (length y.items)) (let e : 1 + max (height v) (height u) ≡ z.height = omega (arith, g) in e) f in
      let high : y.height ≡ 2 + height r = omega (arith, f, k.high) in
      let order' : height p < z.height = omega (arith, g, order) in
      let near = inner_near least most (height p) (height u) (height v) (length (items_of p)) (length (items_of u)) (length (items_of v)) y.height (length y.items) z.height (length z.items) (height r) (length (items_of r)) (length x.items)
      f' g high order' (some_items least most p pf) in
      let far = inner_far least most (height p) (height u) (height v) (length (items_of p)) (length (items_of u)) (length (items_of v)) y.height (length y.items) z.height (length z.items) (height r) (length (items_of r)) (length x.items)
      f' g high order' (some_items least most r k.low_fit) k.some k.fits (λ h. k.internal (high_node r h)) in
      let upper = inner_upper least most (height p) (height u) (height v) (length (items_of p)) (length (items_of u)) (length (items_of v)) y.height (length y.items) z.height (length z.items) (height r) (length (items_of r)) (length x.items)
      f' g high order' enough in
      let states_near : min (1 + max (stated u) (stated p)) 4294967295 ≡ 1 + max (height u) (height p) = anew _ _ _ _ su sp (omega (arith, f, g)) in
      let states_far : min (1 + max (stated r) (stated v)) 4294967295 ≡ 1 + max (height r) (height v) = anew _ _ _ _ sr sv (omega (arith, f, g)) in
      record {
        fit = (
          (k.low_fit, from_swapped least most r _ v (far _ (omega (arith, f, g))), vf),
          from_swapped least most _ _ _ (upper (1 + max (height u) (height p)) (omega arith) (1 + max (height r) (height v)) (omega arith) _ (anew_swapped _ _ _ _ states_far states_near (omega (arith, f, g)))),
          (uf, from_swapped least most u _ p (near _ (omega (arith, f, g))), pf),
        );
        not_higher = omega (arith, f, g);
        not_lower = omega (arith, f, g);
        kept = λ near. absurd (omega (arith, near.1, k.high));
        nodes = omega arith;
      }
