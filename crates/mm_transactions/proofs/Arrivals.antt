-- Rows that came by commands of their own, and go all at once.
use Rattle.std.proofs.Common.{◌≡◌, ◌≢◌, ◌⊎◌, Bool, true, false, ℕ, zero, suc, ◌+◌, ◌-◌, ◌*◌, ◌<◌, ◌≤◌, List, [], ◌∷◌, ◌++◌, Some, IsSome, refl, sym, ap, ◌∙◌, subst, arith, length, reverse, take, drop, get_or, set, inl, inr, zero-add}
use Rattle.std.specs.FinMap.{get}
use Rattle.std.specs.List.{All, Contains, slice_get}
use Rattle.std.proofs.Math.Nat.{suc-add}
use Rattle.std.proofs.Math.Seq.{drop-append_seam}
use Rattle.std.proofs.lemmas.Bool.{false≢true}
use Rattle.std.proofs.lemmas.List.{drop-append-le, length-append, length-drop, length-take-le, reverse-append, set-set, take-append-le, take_all}
use Rattle.std.proofs.lemmas.List.Elements.{All-append, All-contains_itself, All-weaker, Contains-append_cases, Contains-append_left, Contains-append_right}
use Rattle.std.proofs.lemmas.Option.{same_Some, slice_get_within}
use Rattle.common_lemmas.proofs.Pairs.{AllPairs-append}
use Rattle.common_lemmas.proofs.Places.{slice_get_set}
use Rattle.part_raw.specs.Store.{Tuples}
use Rattle.part_raw.specs.declared.tuple_ref.TupleRef.{TupleRef}
use Rattle.mm_relation.specs.Rows.{Row}
use Rattle.mm_catalog.specs.Assigned.{CellSet}
use Rattle.mm_catalog.specs.Outline.{HoldsOnce, IsOutline, Outline, RelationOutline, changed_at, is_among, without, without_rows}
use Rattle.mm_catalog.proofs.Outlined.{among_contains, changed_here, gone_without, none_among, still_without, without_is}
use Rattle.mm_transactions.specs.Log.{AreArrivals, ArePlaced, AreSteps, AreUndone, alone, arrivals, change_of, changes_of, more_of, one_by_one, width_of}
use Rattle.mm_transactions.specs.Undoing.{CanUndo, Came, Change, undone}
use Rattle.mm_transactions.specs.declared.step.Kind.{Kind}
use Rattle.mm_transactions.specs.declared.step.Kind.TheVariants as kind
use Rattle.mm_transactions.specs.declared.step.Step.{Step}
use Rattle.mm_transactions.proofs.SameTables.{before_keeps}
use Rattle.mm_transactions.proofs.Steps.{changes_by, last_of, last_set, width_alone}
use Rattle.mm_transactions.proofs.Undoing.{undone_newest}

-- ---- they are taken out of the steps

-- all but the last so many of a list, by all but its last
take_front : {A : Type 0} (xs : List A) (count : ℕ) → suc count ≤ length xs → take (length (take (length xs - 1) xs) - count) (take (length xs - 1) xs) ≡ take (length xs - suc count) xs
take_front [] count few = absurd (omega (arith, few))
take_front (y ∷ ys) count few =
    let xs = y ∷ ys in
    let front = take (length xs - 1) xs in
    let long : length front ≡ length xs - 1 = length-take-le (length xs - 1) xs (omega arith) in
    let shorter : length front - count ≡ length xs - suc count = omega (arith, long, few) in
    sym (ap (take (length xs - suc count)) (last_of xs y (omega (arith, few))) ∙ take-append-le (length xs - suc count) front (get_or xs (length xs - 1) y ∷ []) (omega (arith, long)) ∙ ap (λ n. take n front) (sym shorter))

split : (count left n : ℕ) (earlier : List TupleRef → List CellSet → List Change) (refs : List TupleRef) (cells : List CellSet) → count ≤ length refs
    → one_by_one (count + left) (kind.Came 0) n earlier refs cells ≡ arrivals n count refs ++ one_by_one left (kind.Came 0) n earlier (take (length refs - count) refs) cells
split zero left n earlier refs cells few =
    ap (λ m. one_by_one m (kind.Came 0) n earlier refs cells) (zero-add left)
    ∙ ap (λ rs. one_by_one left (kind.Came 0) n earlier rs cells) (sym (take_all (length refs - 0) refs (omega arith)))
split (suc count) left n earlier refs cells few =
    let front = take (length refs - 1) refs in
    let long : length front ≡ length refs - 1 = length-take-le (length refs - 1) refs (omega arith) in
    ap (λ m. one_by_one m (kind.Came 0) n earlier refs cells) (suc-add count left)
    ∙ ap (λ cs. Came n (drop (length refs - 1) refs) ∷ one_by_one (count + left) (kind.Came 0) n earlier front cs) (take_all (length cells - 0) cells (omega arith))
    ∙ ap (λ cs. Came n (drop (length refs - 1) refs) ∷ cs) (split count left n earlier front cells (omega (arith, long, few)))
    ∙ ap (λ rs. Came n (drop (length refs - 1) refs) ∷ (arrivals n count front ++ one_by_one left (kind.Came 0) n earlier rs cells)) (take_front refs count few)

module _ (steps : List Step) (last : ℕ) (step : Step) (k : Kind) (count : ℕ) (some : 0 < length steps) (at : last ≡ length steps - 1) (is : step ≡ get_or steps last step)
    (same : alone k ≡ alone step.kind) (came : alone step.kind ≡ kind.Came 0) (more : more_of step.kind ≡ count + more_of k) (any : 0 < count) where
  older : List Step
  older = take (length steps - 1) steps

  left : Step
  left = record { kind = k; table = step.table; start = step.start; cells_start = step.cells_start }

  old_is : steps ≡ older ++ step ∷ []
  unfolding older
  old_is = last_of steps step some ∙ ap (λ (s : Step). take (length steps - 1) steps ++ s ∷ []) (ap (λ n. get_or steps n step) (sym at) ∙ sym is)

  new_is : set steps last left ≡ older ++ left ∷ []
  unfolding older
  new_is = ap (λ n. set steps n left) at ∙ last_set steps left some

  backwards : (all : List Step) (s : Step) → all ≡ older ++ s ∷ [] → reverse all ≡ s ∷ reverse older
  backwards all s e = ap reverse e ∙ reverse-append older (s ∷ [])

  narrow : width_of k ≡ 0
  narrow = sym (width_alone k) ∙ ap width_of (same ∙ came)

  left_changes : (refs cells : ℕ) → count ≤ refs → (rs : List TupleRef) (cs : List CellSet) → length rs ≡ refs → length cs ≡ cells
      → changes_of (reverse steps) rs cs ≡ arrivals step.table.0 count rs ++ changes_of (reverse (set steps last left)) (take (refs - count) rs) cs
  unfolding left
  left_changes refs cells few rs cs long broad =
      let n = step.table.0 in
      let o = reverse older in
      let earlier : List TupleRef → List CellSet → List Change = λ r c. change_of (kind.Came 0) n (drop step.start r) (drop step.cells_start c) ∷ changes_of o (take step.start r) (take step.cells_start c) in
      ap (λ (ss : List Step). changes_of ss rs cs) (backwards steps step old_is)
      ∙ (λ i. changes_by (more i) (came i) n step.start step.cells_start o rs cs)
      ∙ split count (more_of k) n earlier rs cs (omega (arith, few, long))
      ∙ ap (λ (l : List Change). arrivals n count rs ++ l)
      ((λ i. changes_by (more_of k) (sym (same ∙ came) i) n step.start step.cells_start o (take (long i - count) rs) cs)
      ∙ sym (ap (λ (ss : List Step). changes_of ss (take (refs - count) rs) cs) (backwards (set steps last left) left new_is)))

  pub arrivals_taken : (refs cells : ℕ) → AreSteps (reverse steps) refs cells → AreArrivals steps (set steps last (record { kind = k; table = step.table; start = step.start; cells_start = step.cells_start })) step.table.0 count refs cells
  unfolding left
  arrivals_taken refs cells placed =
      let h : AreSteps (step ∷ reverse older) refs cells = subst (λ (ss : List Step). AreSteps ss refs cells) (backwards steps step old_is) placed in
      let few : count ≤ refs = omega (arith, h.0, more) in
      let none : more_of k * width_of k ≡ 0 = ap (λ w. more_of k * w) narrow ∙ omega arith in
      record {
        some = any;
        few = few;
        changes = left_changes refs cells few;
        steps = subst (λ (ss : List Step). AreSteps ss (refs - count) cells) (sym (backwards (set steps last left) left new_is)) (omega (arith, h.0, more), omega (arith, h.1, none), h.2);
      }

-- ---- they are undone

among_or : (refs : List TupleRef) (q : TupleRef) → Contains refs q ⊎ (Contains refs q → ⊥)
among_or refs q = by_member (is_among refs q) refl
  where
    by_member : (b : Bool) → is_among refs q ≡ b → Contains refs q ⊎ (Contains refs q → ⊥)
    by_member true e = inl (among_contains refs q e)
    by_member false e = inr (none_among refs q e)

-- the rows without some, and then without others
without_then : (first then : List TupleRef) (rows : Tuples Row) → without then (without first rows) ≡ without (then ++ first) rows
without_then first then rows =
    sym (without_is (then ++ first) rows (without then (without first rows))
    (λ q there. elim (Contains-append_cases then first q there) [
      | inl now ↦ gone_without then (without first rows) q now
      | inr before ↦ elim (among_or then q) [
        | inl now ↦ gone_without then (without first rows) q now
        | inr not_now ↦ still_without then (without first rows) q not_now ∙ gone_without first rows q before
      ]
    ])
    (λ q other. still_without then (without first rows) q (λ there. other (Contains-append_left then first q there)) ∙ still_without first rows q (λ there. other (Contains-append_right then first q there))))

-- a row that is left is none of those that went
left_apart : (refs : List TupleRef) (rows : Tuples Row) (q : TupleRef) → IsSome (get (without refs rows) q) → Contains refs q → ⊥
left_apart refs rows q held there = false≢true (subst IsSome (gone_without refs rows q there) held)

left_held : (refs : List TupleRef) (rows : Tuples Row) (q : TupleRef) → IsSome (get (without refs rows) q) → IsSome (get rows q)
left_held refs rows q held = subst IsSome (still_without refs rows q (left_apart refs rows q held)) held

abbrev go : List TupleRef → RelationOutline → RelationOutline
go refs s = record s { rows = without refs s.rows }

-- rows go, and then others
module _ (o : Outline) (n : ℕ) (first then : List TupleRef) (h : HoldsOnce o n first) (g : HoldsOnce (without_rows n first o) n then) where
  mid : List RelationOutline
  mid = changed_at (go first) n o.relations

  mid_is : mid ≡ set o.relations n (go first h.relation)
  unfolding mid
  mid_is = changed_here (go first) n o.relations h.relation h.there

  mid_there : slice_get mid n ≡ Some (go first h.relation)
  mid_there = ap (λ (rs : List RelationOutline). slice_get rs n) mid_is ∙ slice_get_set o.relations n (go first h.relation) (slice_get_within o.relations n h.relation h.there)

  this : g.relation ≡ go first h.relation
  unfolding mid
  this = same_Some g.relation (go first h.relation) (sym g.there ∙ mid_there)

  held_then : All (λ r. IsSome (get (without first h.relation.rows) r)) then
  held_then = subst (λ (s : RelationOutline). All (λ r. IsSome (get s.rows r)) then) this g.held

  pub both_held : HoldsOnce o n (then ++ first)
  both_held = record {
    relation = h.relation;
    there = h.there;
    held = All-append (λ r. IsSome (get h.relation.rows r)) then first
        (All-weaker (λ r. IsSome (get (without first h.relation.rows) r)) (λ r. IsSome (get h.relation.rows r)) (left_held first h.relation.rows) then held_then) h.held;
    once = AllPairs-append (λ q r. q ≢ r) then first g.once h.once
        (All-weaker (λ r. IsSome (get (without first h.relation.rows) r)) (λ q. All (λ r. q ≢ r) first)
        (λ q held. All-weaker (Contains first) (λ r. q ≢ r) (λ r there e. left_apart first h.relation.rows q held (subst (Contains first) (sym e) there)) first (All-contains_itself first)) then held_then);
  }

  relations : changed_at (go then) n mid ≡ changed_at (go (then ++ first)) n o.relations
  relations =
      changed_here (go then) n mid (go first h.relation) mid_there
      ∙ ap (λ (rs : List RelationOutline). set rs n (go then (go first h.relation))) mid_is
      ∙ set-set o.relations n (go first h.relation) (go then (go first h.relation))
      ∙ ap (λ (rows : Tuples Row). set o.relations n (record h.relation { rows = rows })) (without_then first then h.relation.rows)
      ∙ sym (changed_here (go (then ++ first)) n o.relations h.relation h.there)

  pub both_gone : without_rows n then (without_rows n first o) ≡ without_rows n (then ++ first) o
  unfolding mid
  both_gone = λ i. record { limits = o.limits; names = o.names; relations = relations i }

-- the newest changes are undone as these rows of a table go
pub record AreBack (n : ℕ) (rows : List TupleRef) (later all : List Change) (o : Outline) : Type 0 where
  pub holds : HoldsOnce o n rows
  pub stands : IsOutline (without_rows n rows o)
  pub ready : CanUndo later (without_rows n rows o)
  pub earlier : (m : ℕ) → m ≤ length later → undone m all o ≡ undone m later (without_rows n rows o)

back_then : (n : ℕ) (first then : List TupleRef) (later mid : List Change) (o : Outline) → length later ≤ length mid → HoldsOnce o n first → AreBack n then later mid (without_rows n first o)
    → AreBack n (then ++ first) later (Came n first ∷ mid) o
back_then n first then later mid o longer h back =
    let gone = both_gone o n first then h back.holds in
    record {
      holds = both_held o n first then h back.holds;
      stands = subst IsOutline gone back.stands;
      ready = subst (CanUndo later) gone back.ready;
      earlier = λ m few. undone_newest m (Came n first) mid o (omega (arith, few, longer)) ∙ back.earlier m few ∙ ap (undone m later) gone;
    }

longer : (n count : ℕ) (refs : List TupleRef) (later : List Change) → length later ≤ length (arrivals n count refs ++ later)
longer n count refs later = omega (arith, length-append (arrivals n count refs) later)

-- the last references of a list, by all but its last
drop_front : (xs : List TupleRef) (count : ℕ) → suc count ≤ length xs
    → drop (length (take (length xs - 1) xs) - count) (take (length xs - 1) xs) ++ drop (length xs - 1) xs ≡ drop (length xs - suc count) xs
drop_front [] count few = absurd (omega (arith, few))
drop_front (y ∷ ys) count few =
    let xs : List TupleRef = y ∷ ys in
    let front = take (length xs - 1) xs in
    let last = get_or xs (length xs - 1) y ∷ [] in
    let long : length front ≡ length xs - 1 = length-take-le (length xs - 1) xs (omega arith) in
    let shorter : length front - count ≡ length xs - suc count = omega (arith, long, few) in
    let whole : xs ≡ front ++ last = last_of xs y (omega (arith, few)) in
    let end : drop (length xs - 1) xs ≡ last = ap (λ m. drop m xs) (sym long) ∙ ap (drop (length front)) whole ∙ drop-append_seam front last in
    ap (λ e. drop (length front - count) front ++ e) end
    ∙ ap (λ m. drop m front ++ last) shorter
    ∙ sym (drop-append-le (length xs - suc count) front last (omega (arith, long)))
    ∙ ap (drop (length xs - suc count)) (sym whole)

pub arrivals_back : (n count : ℕ) (refs : List TupleRef) (later : List Change) (o : Outline) → suc count ≤ length refs → CanUndo (arrivals n (suc count) refs ++ later) o
    → AreBack n (drop (length refs - suc count) refs) later (arrivals n (suc count) refs ++ later) o
arrivals_back n zero refs later o few can =
    record { holds = can.0; stands = can.1; ready = can.2; earlier = λ m below. undone_newest m (Came n (drop (length refs - 1) refs)) later o below }
arrivals_back n (suc count) refs later o few can =
    let front = take (length refs - 1) refs in
    let first = drop (length refs - 1) refs in
    let long : length front ≡ length refs - 1 = length-take-le (length refs - 1) refs (omega arith) in
    subst (λ rows. AreBack n rows later (arrivals n (suc (suc count)) refs ++ later) o) (drop_front refs (suc count) few)
    (back_then n first (drop (length front - suc count) front) later (arrivals n (suc count) front ++ later) o (longer n (suc count) front later) can.0
    (arrivals_back n count front later (without_rows n first o) (omega (arith, long, few)) can.2))

-- ---- they are undone by a call

pub rows_behind : (start : ℕ) (refs all : List TupleRef) → all ≡ refs → take (length all - start) (drop start all) ≡ drop start refs
rows_behind start refs all same = take_all (length all - start) (drop start all) (omega (arith, length-drop start all)) ∙ ap (drop start) same

length-arrivals : (n count : ℕ) (refs : List TupleRef) → length (arrivals n count refs) ≡ count
length-arrivals n zero refs = refl
length-arrivals n (suc count) refs = ap suc (length-arrivals n count (take (length refs - 1) refs))

some_back : (n count : ℕ) (refs : List TupleRef) (later all : List Change) (o : Outline) → 0 < count → count ≤ length refs → all ≡ arrivals n count refs ++ later → CanUndo all o
    → AreBack n (drop (length refs - count) refs) later all o
some_back n zero refs later all o some few same can = absurd (omega (arith, some))
some_back n (suc count) refs later all o some few same can =
    subst (λ changes. AreBack n (drop (length refs - suc count) refs) later changes o) (sym same) (arrivals_back n count refs later o few (subst (λ changes. CanUndo changes o) same can))

module _ (old new : List Step) (n count : ℕ) (refs : List TupleRef) (cells : List CellSet) (a : AreArrivals old new n count (length refs) (length cells)) where
  abbrev all : List Change
  all = changes_of (reverse old) refs cells

  abbrev later : List Change
  later = changes_of (reverse new) (take (length refs - count) refs) cells

  changes : all ≡ arrivals n count refs ++ later
  changes = a.changes refs cells refl refl

  all_count : length all ≡ count + length later
  all_count = ap length changes ∙ length-append (arrivals n count refs) later ∙ ap (λ m. m + length later) (length-arrivals n count refs)

  pub arrivals_within : (commands : ℕ) → ArePlaced (reverse old) refs cells commands → count ≤ commands
  arrivals_within commands h = omega (arith, h.count, all_count)

  pub arrivals_placed : (commands : ℕ) → ArePlaced (reverse old) refs cells commands → (rs : List TupleRef) → rs ≡ take (length refs - count) refs → ArePlaced (reverse new) rs cells (commands - count)
  arrivals_placed commands h rs same =
      let long : length rs ≡ length refs - count = ap length same ∙ length-take-le (length refs - count) refs (omega arith) in
      record {
        placed = subst (λ m. AreSteps (reverse new) m (length cells)) (sym long) a.steps;
        count = omega (arith, h.count, all_count, ap (λ (r : List TupleRef). length (changes_of (reverse new) r cells)) same);
      }

  module _ (o : Outline) (can : CanUndo all o) where
    back : AreBack n (drop (length refs - count) refs) later all o
    back = some_back n count refs later all o a.some a.few changes can

    module _ (rows : List TupleRef) (are : rows ≡ drop (length refs - count) refs) where
      pub arrivals_hold : HoldsOnce o n rows
      arrivals_hold = subst (HoldsOnce o n) (sym are) back.holds

      pub arrivals_stand : IsOutline (without_rows n rows o)
      arrivals_stand = subst (λ r. IsOutline (without_rows n r o)) (sym are) back.stands

      pub arrivals_undone : (p : Outline) (most : ℕ) (marks : List ℕ) (rs : List TupleRef) → rs ≡ take (length refs - count) refs → count ≤ most → p ≡ without_rows n rows o
          → AreUndone most o p (record { changes = all; marks = marks }) (record { changes = changes_of (reverse new) rs cells; marks = marks })
      arrivals_undone p most marks rs same few gone =
          let gone_so : p ≡ without_rows n (drop (length refs - count) refs) o = gone ∙ ap (λ r. without_rows n r o) are in
          subst (λ (r : List TupleRef). AreUndone most o p (record { changes = all; marks = marks }) (record { changes = changes_of (reverse new) r cells; marks = marks })) (sym same)
          (subst (λ (q : Outline). AreUndone most o q (record { changes = all; marks = marks }) (record { changes = later; marks = marks })) (sym gone_so) (record {
            fewer = omega (arith, all_count, a.some);
            most = omega (arith, all_count, few);
            marks = refl;
            ready = back.ready;
            earlier = λ m below. sym (back.earlier m below);
            tables = before_keeps (Came n (drop (length refs - count) refs)) o refl;
          }))
