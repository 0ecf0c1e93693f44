-- What stood when so many changes had been noted, as changes are noted and undone.
use Rattle.std.proofs.Common.{◌≡◌, ◌≢◌, ◌⊎◌, inl, inr, ℕ, ◌<◌, ◌≤◌, true, false, cond, List, [], ◌∷◌, ◌++◌, refl, sym, ap, ◌∙◌, subst, arith, length, map}
use Rattle.std.proofs.lemmas.Bool.{cond-true, cond-false, lt-ltb, le-ltb}
use Rattle.std.proofs.lemmas.List.{length-append}
use Rattle.std.specs.Prelude.{nat_lt, Result, Ok, Err, OnOk, OnErr, IfErr}
use Rattle.plain_tables.specs.Databases.{Database}
use Rattle.plain_tables.specs.Effects.{Effect}
use Rattle.plain_tables.specs.Transactions.{begun, committed, rolled_back}
use Rattle.plain_tables.specs.declared.refusal.Refusal.{Refusal}
use Rattle.plain_tables.specs.declared.refusal.Refusal.TheVariants.{NoMemory}
use Rattle.mm_catalog.specs.Changes.{IsRefusedFor}
use Rattle.mm_catalog.specs.Consistent.{IsConsistent}
use Rattle.mm_catalog.specs.Outline.{IsOutline, Outline, outline_of}
use Rattle.mm_catalog.specs.Seen.{database_of}
use Rattle.mm_catalog.specs.State.{CatalogState}
use Rattle.mm_transactions.specs.Log.{AreNoted, IsNoted, IsUndone, LogState}
use Rattle.mm_transactions.specs.State.{IsUndoable, TransactionalState, database_at, saved_of, transactional_of}
use Rattle.mm_transactions.specs.Tables.{tables_in}
use Rattle.mm_transactions.specs.Undoing.{AreMarks, CanUndo, Came, Change, IndexDeclared, IndexDropped, IsReady, LeadBack, TableDeclared, TableDropped, Updated, Went, before, undone}
use Rattle.mm_transactions.proofs.Tables.{tables_outlined}

-- where no more changes had been noted since, it is what there is
pub undone_none : (mark : ℕ) (changes : List Change) (o : Outline) → length changes ≤ mark → undone mark changes o ≡ o
undone_none mark [] o few = refl
undone_none mark (c ∷ changes) o few = cond-true (nat_lt (length changes) mark) o (undone mark changes (before c o)) (lt-ltb (length changes) mark (omega (arith, few)))

-- else the newest change is undone first
pub undone_newest : (mark : ℕ) (c : Change) (changes : List Change) (o : Outline) → mark ≤ length changes → undone mark (c ∷ changes) o ≡ undone mark changes (before c o)
undone_newest mark c changes o more = cond-false (nat_lt (length changes) mark) o (undone mark changes (before c o)) (le-ltb (length changes) mark more)

before_limits : (c : Change) (o : Outline) → (before c o).limits ≡ o.limits
before_limits (Came n refs) o = refl
before_limits (Went n refs) o = refl
before_limits (Updated n refs width cells) o = refl
before_limits (TableDeclared gained) o = refl
before_limits (TableDropped table) o = refl
before_limits (IndexDeclared n index) o = refl
before_limits (IndexDropped n index) o = refl

undone_limits : (mark : ℕ) (changes : List Change) (o : Outline) → (undone mark changes o).limits ≡ o.limits
undone_limits mark [] o = refl
undone_limits mark (c ∷ changes) o =
    elim (nat_lt (length changes) mark) as (λ b. (cond b o (undone mark changes (before c o))).limits ≡ o.limits) [
      | true ↦ refl
      | false ↦ undone_limits mark changes (before c o) ∙ before_limits c o
    ]

-- ---- marks

pub marks_rise : (marks : List ℕ) (few many : ℕ) → 0 < length marks → few ≤ many → AreMarks marks few → AreMarks marks many
marks_rise [] few many some more lie = absurd (omega (arith, some))
marks_rise (mark ∷ marks) few many some more lie = (omega (arith, lie.0, more), lie.1)

-- what is alike at each mark is alike of all
pub saved_alike : (f g : ℕ → Database) (marks : List ℕ) (count : ℕ) → AreMarks marks count → ((m : ℕ) → m ≤ count → f m ≡ g m) → map f marks ≡ map g marks
saved_alike f g [] count lie same = refl
saved_alike f g (mark ∷ marks) count lie same =
    λ i. same mark lie.0 i ∷ saved_alike f g marks mark lie.1 (λ m below. same m (omega (arith, below, lie.0))) i

-- without a mark nothing is noted
pub none_noted : (changes : List Change) → AreMarks [] (length changes) → changes ≡ []
none_noted [] lie = refl
none_noted (c ∷ changes) lie = absurd (omega (arith, lie))

pub no_marks : (f : ℕ → Database) (marks : List ℕ) → map f marks ≡ [] → marks ≡ []
no_marks f [] e = refl
no_marks f (mark ∷ marks) e = absurd (omega (arith, ap length e))

-- ---- changes are noted

-- one change more leads back
pub lead_back_then : (c : Change) (made : List Change) (o mid old : Outline) → IsReady c o → before c o ≡ mid → IsOutline mid → LeadBack made mid old → LeadBack (c ∷ made) o old
lead_back_then c made o mid old ready back stands lead =
    (ready, subst IsOutline (sym back) stands, subst (λ (m : Outline). LeadBack made m old) (sym back) lead)

lead_back_can : (made changes : List Change) (o old : Outline) → LeadBack made o old → CanUndo changes old → CanUndo (made ++ changes) o
lead_back_can [] changes o old lead can = subst (CanUndo changes) (sym lead) can
lead_back_can (c ∷ made) changes o old lead can = (lead.0, lead.1, lead_back_can made changes (before c o) old lead.2 can)

lead_back_undone : (m : ℕ) (made changes : List Change) (o old : Outline) → LeadBack made o old → m ≤ length changes → undone m (made ++ changes) o ≡ undone m changes old
lead_back_undone m [] changes o old lead below = ap (undone m changes) lead
lead_back_undone m (c ∷ made) changes o old lead below =
    undone_newest m c (made ++ changes) o (omega (arith, below, length-append made changes)) ∙ lead_back_undone m made changes (before c o) old lead.2 below

module _ (old new : CatalogState) (log now : LogState) where
  pub noted_one : IsConsistent old → IsNoted (outline_of old) (outline_of new) log now → AreNoted (outline_of old) (outline_of new) log now
  noted_one ok noted =
      record { made = noted.change ∷ []; undone = (noted.ready, (old, ok, sym noted.undone), noted.undone); changes = noted.changes; marks = noted.marks }

  module _ (h : IsUndoable old log.changes log.marks) (noted : AreNoted (outline_of old) (outline_of new) log now) where
    noted_undoable : 0 < length log.marks → IsUndoable new now.changes now.marks
    noted_undoable some =
        let more : length log.changes ≤ length (noted.made ++ log.changes) = omega (arith, length-append noted.made log.changes) in
        record {
          ready = subst (λ changes. CanUndo changes (outline_of new)) (sym noted.changes) (lead_back_can noted.made log.changes (outline_of new) (outline_of old) noted.undone h.ready);
          marks_lie =
              subst (λ changes. AreMarks now.marks (length changes)) (sym noted.changes)
              (subst (λ marks. AreMarks marks (length (noted.made ++ log.changes))) (sym noted.marks)
              (marks_rise log.marks (length log.changes) (length (noted.made ++ log.changes)) some more h.marks_lie));
        }

    noted_saves : saved_of (record { catalog = new; changes = now.changes; marks = now.marks }) ≡ saved_of (record { catalog = old; changes = log.changes; marks = log.marks })
    noted_saves =
        (λ i. map (λ m. tables_in (undone m (noted.changes i) (outline_of new))) (noted.marks i))
        ∙ saved_alike (λ m. tables_in (undone m (noted.made ++ log.changes) (outline_of new))) (λ m. tables_in (undone m log.changes (outline_of old))) log.marks (length log.changes) h.marks_lie
        (λ m below. ap tables_in (lead_back_undone m noted.made log.changes (outline_of new) (outline_of old) noted.undone below))

-- where the outline is the same, so is what stood at each mark
module _ (old new : CatalogState) (same : outline_of new ≡ outline_of old) (changes : List Change) (marks : List ℕ) where
  pub same_undoable : IsUndoable old changes marks → IsUndoable new changes marks
  same_undoable h = record { ready = subst (CanUndo changes) (sym same) h.ready; marks_lie = h.marks_lie }

  pub same_saves : saved_of (record { catalog = new; changes = changes; marks = marks }) ≡ saved_of (record { catalog = old; changes = changes; marks = marks })
  same_saves = ap (λ (o : Outline). map (λ m. tables_in (undone m changes o)) marks) same

-- ---- begin, commit and rollback

module _ (c : CatalogState) (changes : List Change) (marks : List ℕ) where
  abbrev this : TransactionalState
  this = record { catalog = c; changes = changes; marks = marks }

  pub begun_is : IsConsistent c → transactional_of (record { catalog = c; changes = changes; marks = length changes ∷ marks }) ≡ begun (transactional_of this)
  begun_is ok =
      let here : database_at this (length changes) ≡ database_of c = ap tables_in (undone_none (length changes) changes (outline_of c) (omega arith)) ∙ tables_outlined c ok in
      λ i. record { database = database_of c; saved = here i ∷ saved_of this }

  pub begun_undoable : IsUndoable c changes marks → IsUndoable c changes (length changes ∷ marks)
  begun_undoable h = record { ready = h.ready; marks_lie = (omega arith, h.marks_lie) }

module _ (c : CatalogState) (changes : List Change) (mark : ℕ) (marks : List ℕ) (h : IsUndoable c changes (mark ∷ marks)) where
  pub committed_undoable : 0 < length marks → IsUndoable c changes marks
  committed_undoable some = record { ready = h.ready; marks_lie = marks_rise marks mark (length changes) some h.marks_lie.0 h.marks_lie.1 }

  module _ (d : CatalogState) (ok : IsConsistent d) (left : List Change) (count : length left ≡ mark)
      (earlier : (m : ℕ) → m ≤ mark → undone m left (outline_of d) ≡ undone m changes (outline_of c)) where
    back : outline_of d ≡ undone mark changes (outline_of c)
    back = sym (undone_none mark left (outline_of d) (omega (arith, count))) ∙ earlier mark (omega arith)

    pub rolled_back_is : transactional_of (record { catalog = d; changes = left; marks = marks }) ≡ rolled_back (transactional_of (record { catalog = c; changes = changes; marks = mark ∷ marks }))
    rolled_back_is =
        let database = sym (tables_outlined d ok) ∙ ap tables_in back in
        let saved = saved_alike (λ m. tables_in (undone m left (outline_of d))) (λ m. tables_in (undone m changes (outline_of c))) marks mark h.marks_lie.1 (λ m below. ap tables_in (earlier m below)) in
        λ i. record { database = database i; saved = saved i }

    pub rolled_back_undoable : CanUndo left (outline_of d) → IsUndoable d left marks
    rolled_back_undoable ready = record { ready = ready; marks_lie = subst (AreMarks marks) (sym count) h.marks_lie.1 }

    pub rolled_back_limits : d.limits ≡ c.limits
    rolled_back_limits = ap (λ (o : Outline). o.limits) back ∙ undone_limits mark changes (outline_of c)

-- ---- the answers of calls

-- the newest change was undone
module _ (old new : Outline) (log now : LogState) (h : IsUndone old new log now) where
  pub undone_ready : CanUndo log.changes old → CanUndo now.changes new
  undone_ready ready = subst (CanUndo now.changes) (sym h.undone) (subst (λ changes. CanUndo changes old) h.changes ready).2

  pub undone_earlier : (m : ℕ) → m ≤ length now.changes → undone m now.changes new ≡ undone m log.changes old
  undone_earlier m more =
      ap (undone m now.changes) h.undone ∙ sym (undone_newest m h.change now.changes old more) ∙ ap (λ changes. undone m changes old) (sym h.changes)

module _ (c : CatalogState) (log now : LogState) where
  abbrev seen : LogState → TransactionalState
  seen l = record { catalog = c; changes = l.changes; marks = l.marks }

  pub begun_so : {X Y : Type 0} (r : Result X Y) → IsConsistent c → now.changes ≡ log.changes → OnOk r (now.marks ≡ length log.changes ∷ log.marks)
      → OnOk r (transactional_of (seen now) ≡ begun (transactional_of (seen log)))
  begun_so (Ok x) ok changes marks =
      (λ i. transactional_of (record { catalog = c; changes = changes i; marks = marks i })) ∙ begun_is c log.changes log.marks ok
  begun_so (Err e) ok changes marks = marks

-- where no transaction is open the steps are forgotten, and else nothing is
module _ (c : CatalogState) (log now : LogState) (marks : now.marks ≡ log.marks) (inside : log.marks ≢ [] → now ≡ log) (outside : log.marks ≡ [] → now.changes ≡ []) where
  some_open : (m : ℕ) (ms : List ℕ) → log.marks ≡ m ∷ ms → log.marks ≢ []
  some_open m ms e none = absurd (omega (arith, ap length (sym none ∙ e)))

  -- nothing was left to be forgotten
  pub settled_same : IsUndoable c log.changes log.marks → (ms : List ℕ) → log.marks ≡ ms → now ≡ log
  settled_same h [] e =
      let changes = outside e ∙ sym (none_noted log.changes (subst (λ ms. AreMarks ms (length log.changes)) e h.marks_lie)) in
      λ i. record { changes = changes i; marks = marks i }
  settled_same h (m ∷ ms) e = inside (some_open m ms e)

-- the outermost transaction ends with nothing noted, and an inner one leaves all
module _ (c d : CatalogState) (log now : LogState) (database : database_of d ≡ database_of c)
    (marks : now.marks ≡ log.marks) (inside : log.marks ≢ [] → (now ≡ log) × (d ≡ c)) (outside : log.marks ≡ [] → now.changes ≡ []) where
  pub committed_so : (old : LogState) (mark : ℕ) → IsUndoable c old.changes old.marks → log.changes ≡ old.changes → old.marks ≡ mark ∷ log.marks → (ms : List ℕ) → log.marks ≡ ms
      → IsUndoable d now.changes now.marks × (transactional_of (record { catalog = d; changes = now.changes; marks = now.marks }) ≡ committed (transactional_of (record { catalog = c; changes = old.changes; marks = old.marks })))
  committed_so old mark h changes were [] e =
      let none = marks ∙ e in
      let nothing = outside e in
      let one = were ∙ ap (λ ms. mark ∷ ms) e in (
        subst (IsUndoable d now.changes) (sym none) (subst (λ cs. IsUndoable d cs []) (sym nothing) (record { ready = tt; marks_lie = refl })),
        ap (λ ms. transactional_of (record { catalog = d; changes = now.changes; marks = ms })) none
            ∙ (λ i. record { database = database i; saved = [] })
            ∙ sym (ap (λ ms. committed (transactional_of (record { catalog = c; changes = old.changes; marks = ms }))) one),
      )
  committed_so old mark h changes were (m ∷ ms) e =
      let left = inside (λ none. absurd (omega (arith, ap length (sym none ∙ e)))) in
      let open_still : 0 < length log.marks = omega (arith, ap length e) in
      subst (λ (x : CatalogState). IsUndoable x now.changes now.marks × (transactional_of (record { catalog = x; changes = now.changes; marks = now.marks }) ≡ committed (transactional_of (record { catalog = c; changes = old.changes; marks = old.marks }))))
      (sym left.1)
      (subst (λ (l : LogState). IsUndoable c l.changes l.marks × (transactional_of (record { catalog = c; changes = l.changes; marks = l.marks }) ≡ committed (transactional_of (record { catalog = c; changes = old.changes; marks = old.marks }))))
      (sym left.0) (
        subst (λ cs. IsUndoable c cs log.marks) (sym changes) (committed_undoable c old.changes mark log.marks (subst (IsUndoable c old.changes) were h) open_still),
        ap (λ cs. transactional_of (record { catalog = c; changes = cs; marks = log.marks })) changes
            ∙ sym (ap (λ ms. committed (transactional_of (record { catalog = c; changes = old.changes; marks = ms }))) were),
      ))

module _ (c d : CatalogState) (log now : LogState) (h : IsUndoable c log.changes log.marks) where
  pub rolled_back_so : (mark : ℕ) (marks : List ℕ) → IsConsistent d → log.marks ≡ mark ∷ marks → now.marks ≡ marks → CanUndo now.changes (outline_of d) → length now.changes ≡ mark
      → ((m : ℕ) → m ≤ mark → undone m now.changes (outline_of d) ≡ undone m log.changes (outline_of c))
      → IsUndoable d now.changes now.marks
      × (transactional_of (record { catalog = d; changes = now.changes; marks = now.marks }) ≡ rolled_back (transactional_of (record { catalog = c; changes = log.changes; marks = log.marks })))
      × (d.limits ≡ c.limits)
  rolled_back_so mark marks ok were are ready count earlier =
      let undoable : IsUndoable c log.changes (mark ∷ marks) = subst (IsUndoable c log.changes) were h in (
        subst (IsUndoable d now.changes) (sym are) (rolled_back_undoable c log.changes mark marks undoable d ok now.changes count earlier ready),
        ap (λ ms. transactional_of (record { catalog = d; changes = now.changes; marks = ms })) are
            ∙ rolled_back_is c log.changes mark marks undoable d ok now.changes count earlier
            ∙ ap (λ ms. rolled_back (transactional_of (record { catalog = c; changes = log.changes; marks = ms }))) (sym were),
        rolled_back_limits c log.changes mark marks undoable d ok now.changes count earlier,
      )

  pub all_changed_so : {X Y : Type 0} (r : Result X Y) → 0 < length log.marks → OnOk r (AreNoted (outline_of c) (outline_of d) log now)
      → OnErr r (outline_of d ≡ outline_of c) → OnErr r (now ≡ log)
      → IsUndoable d now.changes now.marks
      × (saved_of (record { catalog = d; changes = now.changes; marks = now.marks }) ≡ saved_of (record { catalog = c; changes = log.changes; marks = log.marks }))
  all_changed_so (Ok x) some noted outline same = (noted_undoable c d log now h noted some, noted_saves c d log now h noted)
  all_changed_so (Err e) some noted outline same =
      subst (λ (l : LogState). IsUndoable d l.changes l.marks × (saved_of (record { catalog = d; changes = l.changes; marks = l.marks }) ≡ saved_of (record { catalog = c; changes = log.changes; marks = log.marks })))
      (sym same) (same_undoable c d outline log.changes log.marks h, same_saves c d outline log.changes log.marks)

  pub changed_so : {X Y : Type 0} (r : Result X Y) → IsConsistent c → 0 < length log.marks → OnOk r (IsNoted (outline_of c) (outline_of d) log now)
      → OnErr r (outline_of d ≡ outline_of c) → OnErr r (now ≡ log)
      → IsUndoable d now.changes now.marks
      × (saved_of (record { catalog = d; changes = now.changes; marks = now.marks }) ≡ saved_of (record { catalog = c; changes = log.changes; marks = log.marks }))
  changed_so {X = X} {Y = Y} (Ok x) ok some noted outline same = all_changed_so {X = X} {Y = Y} (Ok x) some (noted_one c d log now ok noted) outline same
  changed_so {X = X} {Y = Y} (Err e) ok some noted outline same = all_changed_so {X = X} {Y = Y} (Err e) some noted outline same

-- where a transaction is open, so is what it began with kept
pub saved_some : (t : TransactionalState) → 0 < length t.marks → saved_of t ≢ []
saved_some t some none = absurd (omega (arith, some, ap length (no_marks (database_at t) t.marks none)))

-- why a call is refused, outside of transactions and in one
pub refused_outside : {X : Type 0} (A : Type 0) (P : Refusal → Type 0) (r : Result X Refusal) → IfErr r P → IfErr r (λ refusal. ((refusal ≡ NoMemory) × A) ⊎ P refusal)
refused_outside A P (Ok x) why = why
refused_outside A P (Err e) why = inr why

pub refused_inside : {A X : Type 0} (P : Refusal → Type 0) (r : Result X Refusal) → A → IfErr r (λ refusal. (refusal ≡ NoMemory) ⊎ P refusal) → IfErr r (λ refusal. ((refusal ≡ NoMemory) × A) ⊎ P refusal)
refused_inside P (Ok x) inside why = why
refused_inside P (Err e) inside (inl memory) = inl (memory, inside)
refused_inside P (Err e) inside (inr why) = inr why

-- what left the catalog left its outline
pub kept_outline : (c d : CatalogState) {X Y : Type 0} (r : Result X Y) → OnErr r (d ≡ c) → OnErr r (outline_of d ≡ outline_of c)
kept_outline c d (Ok x) kept = kept
kept_outline c d (Err e) kept = ap outline_of kept

-- what was refused left the catalog
pub refused_outline : (c d : CatalogState) (effect : Effect) {X : Type 0} (r : Result X Refusal) → IfErr r (IsRefusedFor c d effect) → OnErr r (outline_of d ≡ outline_of c)
refused_outline c d effect (Ok x) refused = refused
refused_outline c d effect (Err e) refused = ap outline_of refused.0
