-- Holes: two fillings of a statement tell which values it has, and where its holes are.
use Rattle.std.proofs.Common.{◌≡◌, Bool, false, ℕ, zero, suc, ◌+◌, ◌<◌, List, [], ◌∷◌, map, length, refl, sym, ap, ◌∙◌, arith}
use Rattle.std.specs.List.{AllByRecursion, flat_map, range_with_len}
use Rattle.std.proofs.lemmas.List.FromFn.{get_or-map-range_with_len}
use Rattle.plain_tables.specs.Spelling.{AreBlanks, is_blank, IsSpellableValue}
use Rattle.plain_tables.specs.CommandLaws.{table_of}
use Rattle.plain_tables.specs.declared.value.Value.{Value}
use Rattle.plain_tables.specs.declared.value.Value.TheVariants as value
use Rattle.plain_tables.specs.declared.condition.Cond.{Cond}
use Rattle.plain_tables.specs.declared.command.Setting.{Setting}
use Rattle.plain_tables.specs.declared.command.Join.{Join}
use Rattle.plain_tables.specs.declared.command.Items.{Items}
use Rattle.plain_tables.specs.declared.command.Items.TheVariants as items
use Rattle.plain_tables.specs.declared.command.Command.{Command}
use Rattle.plain_tables.specs.declared.command.Command.TheVariants as command
use Rattle.plain_tables.proofs.FirstWords.{different, first_word}
use Rattle.plain_tables.proofs.LineFeeds.{contains-feed, passing-no_feed}
use Rattle.plain_tables.proofs.Separated.{all-left, all-right}
use Rattle.plain_statements.specs.declared.statement.Slot.{Slot}
use Rattle.plain_statements.specs.declared.statement.Slot.TheVariants.{Given, Hole}
use Rattle.plain_statements.specs.declared.statement.SlotSetting.{SlotSetting}
use Rattle.plain_statements.specs.declared.statement.SlotCond.{SlotCond}
use Rattle.plain_statements.specs.declared.statement.Statement.{Statement}
use Rattle.plain_statements.specs.declared.statement.Statement.TheVariants as statement
use Rattle.plain_statements.specs.Filling.{slot_value, filled_setting, filled_condition, filled}
use Rattle.plain_statements.specs.StatementSpelling.{slots_of, numbers_of, holes_of}

-- ---- the fillings: nulls, and texts of which no two are as long

abbrev pub blanks : ℕ → List ℕ
blanks zero = []
blanks (suc n) = 32 ∷ blanks n

length-blanks : (n : ℕ) → length (blanks n) ≡ n
length-blanks zero = refl
length-blanks (suc n) = ap suc (length-blanks n)

blanks-are : (n : ℕ) → AreBlanks (blanks n)
blanks-are zero = tt
blanks-are (suc n) = (refl, blanks-are n)

abbrev pub null_at : ℕ → Value
null_at n = value.Null

abbrev pub text_at : ℕ → Value
text_at n = value.Text (blanks n)

pub text_at-spellable : (n : ℕ) → IsSpellableValue (text_at n)
text_at-spellable n = contains-feed (blanks n) (passing-no_feed is_blank refl (blanks n) (blanks-are n))

-- a value for each hole, by its number
abbrev pub values_by : (ℕ → Value) → ℕ → List Value
values_by f m = map f (range_with_len 0 m)

abbrev pub nulls : ℕ → List Value
nulls m = values_by null_at m

abbrev pub texts : ℕ → List Value
texts m = values_by text_at m

pub all-spellable : (f : ℕ → Value) → ((n : ℕ) → IsSpellableValue (f n)) → (a n : ℕ) → AllByRecursion IsSpellableValue (map f (range_with_len a n))
all-spellable f each a zero = tt
all-spellable f each a (suc n) = (each a, all-spellable f each (a + 1) n)

-- ---- holes of small numbers

abbrev IsBelow : ℕ → Slot → Type 0
IsBelow m (Given v) = Unit {0}
IsBelow m (Hole n) = n < m

abbrev AreBelow : ℕ → List Slot → Type 0
AreBelow m slots = AllByRecursion (IsBelow m) slots

numbers-below : (m : ℕ) (slots : List Slot) → AllByRecursion (λ n. n < m) (flat_map numbers_of slots) → AreBelow m slots
numbers-below m [] all = tt
numbers-below m (Given v ∷ slots) all = (tt, numbers-below m slots all)
numbers-below m (Hole n ∷ slots) all = (all.0, numbers-below m slots all.1)

range-below : (a n m : ℕ) → a + n ≡ m → AllByRecursion (λ k. k < m) (range_with_len a n)
range-below a zero m e = tt
range-below a (suc n) m e = (omega arith, range-below (a + 1) n m (omega arith))

holes-below : (m : ℕ) (s : Statement) → holes_of s ≡ range_with_len 0 m → AreBelow m (slots_of s)
holes-below m s e = numbers-below m (slots_of s) (rw e (range-below 0 m m (omega arith)))

below-of_map : {X : Type 0} (m : ℕ) (slot : X → Slot) (xs : List X) → AreBelow m (map slot xs) → AllByRecursion (λ x. IsBelow m (slot x)) xs
below-of_map m slot [] all = tt
below-of_map m slot (x ∷ xs) all = (all.0, below-of_map m slot xs all.1)

-- ---- slots, and what has them

-- the value of a hole
hole-value : (f : ℕ → Value) (m n : ℕ) → n < m → slot_value (values_by f m) (Hole n) ≡ f n
hole-value f m n below = get_or-map-range_with_len f 0 m n n value.Null below (omega arith)

slot-one : (m : ℕ) (x y : Slot) → IsBelow m x → IsBelow m y → slot_value (nulls m) x ≡ slot_value (nulls m) y
    → slot_value (texts m) x ≡ slot_value (texts m) y → x ≡ y
slot-one m (Given v) (Given w) p q d e = ap Given d
slot-one m (Given v) (Hole n) p q d e =
    let null : v ≡ value.Null = d ∙ hole-value null_at m n q in
    let text : v ≡ value.Text (blanks n) = e ∙ hole-value text_at m n q in
    cc
slot-one m (Hole n) (Given v) p q d e =
    let null : v ≡ value.Null = sym d ∙ hole-value null_at m n p in
    let text : v ≡ value.Text (blanks n) = sym e ∙ hole-value text_at m n p in
    cc
slot-one m (Hole j) (Hole k) p q d e =
    let texts : value.Text (blanks j) ≡ value.Text (blanks k) = sym (hole-value text_at m j p) ∙ (e ∙ hole-value text_at m k q) in
    let same : blanks j ≡ blanks k = cc in
    ap Hole (sym (length-blanks j) ∙ (ap length same ∙ length-blanks k))

setting-one : (m : ℕ) (x y : SlotSetting) → IsBelow m x.slot → IsBelow m y.slot
    → filled_setting (nulls m) x ≡ filled_setting (nulls m) y
    → filled_setting (texts m) x ≡ filled_setting (texts m) y → x ≡ y
setting-one m x y p q d e =
    let slots : x.slot ≡ y.slot = slot-one m x.slot y.slot p q (ap (λ s. s.value) d) (ap (λ s. s.value) e) in
    λ i. record { column = (d i).column; slot = slots i }

condition-one : (m : ℕ) (x y : SlotCond) → IsBelow m x.slot → IsBelow m y.slot
    → filled_condition (nulls m) x ≡ filled_condition (nulls m) y
    → filled_condition (texts m) x ≡ filled_condition (texts m) y → x ≡ y
condition-one m x y p q d e =
    let slots : x.slot ≡ y.slot = slot-one m x.slot y.slot p q (ap (λ c. c.value) d) (ap (λ c. c.value) e) in
    λ i. record { column = (d i).column; op = (d i).op; slot = slots i }

cons-parts : {X : Type 0} (x y : X) (xs ys : List X) → x ∷ xs ≡ y ∷ ys → (x ≡ y) × (xs ≡ ys)
cons-parts x y xs ys e = (cc, cc)

-- Lists are one where two maps of them are that tell their elements apart.
lists-one : {X Y : Type 0} (f g : X → Y) (P : X → Type 0) → ((x y : X) → P x → P y → f x ≡ f y → g x ≡ g y → x ≡ y)
    → (xs ys : List X) → AllByRecursion P xs → AllByRecursion P ys → map f xs ≡ map f ys → map g xs ≡ map g ys → xs ≡ ys
lists-one f g P one [] [] p q d e = refl
lists-one f g P one [] (y ∷ ys) p q d e = cc
lists-one f g P one (x ∷ xs) [] p q d e = cc
lists-one f g P one (x ∷ xs) (y ∷ ys) p q d e =
    let first = cons-parts (f x) (f y) (map f xs) (map f ys) d in
    let second = cons-parts (g x) (g y) (map g xs) (map g ys) e in
    let head : x ≡ y = one x y p.0 q.0 first.0 second.0 in
    let tail : xs ≡ ys = lists-one f g P one xs ys p.1 q.1 first.1 second.1 in
    λ i. head i ∷ tail i

conditions-one : (m : ℕ) (cs ds : List SlotCond) → AreBelow m (map (λ c. c.slot) cs) → AreBelow m (map (λ c. c.slot) ds)
    → map (filled_condition (nulls m)) cs ≡ map (filled_condition (nulls m)) ds
    → map (filled_condition (texts m)) cs ≡ map (filled_condition (texts m)) ds → cs ≡ ds
conditions-one m cs ds p q d e =
    lists-one (filled_condition (nulls m)) (filled_condition (texts m)) (λ c. IsBelow m c.slot) (condition-one m) cs ds
    (below-of_map m (λ c. c.slot) cs p) (below-of_map m (λ c. c.slot) ds q) d e

-- ---- statements

-- the parts of a command that another one lacks
abbrev row_of : Command → List Value
row_of (command.Insert table row) = row
row_of other = []

abbrev settings_of : Command → List Setting
settings_of (command.Update table settings conditions) = settings
settings_of other = []

abbrev conditions_of : Command → List Cond
conditions_of (command.Update table settings conditions) = conditions
conditions_of (command.Delete table conditions) = conditions
conditions_of (command.Select distinct its table joins conditions) = conditions
conditions_of other = []

abbrev select_of : Command → Bool × Items × List Join
select_of (command.Select distinct its table joins conditions) = (distinct, its, joins)
select_of other = (false, items.All, [])

below-one : (m : ℕ) (s t : Statement) → AreBelow m (slots_of s) → AreBelow m (slots_of t) → filled (nulls m) s ≡ filled (nulls m) t
    → filled (texts m) s ≡ filled (texts m) t → s ≡ t
below-one m (statement.Insert a xs) (statement.Insert b ys) p q d e =
    let slots : xs ≡ ys = lists-one (slot_value (nulls m)) (slot_value (texts m)) (IsBelow m) (slot-one m) xs ys p q (ap row_of d) (ap row_of e) in
    λ i. statement.Insert (table_of (d i)) (slots i)
below-one m (statement.Update a ss cs) (statement.Update b ts ds) p q d e =
    let settings = lists-one (filled_setting (nulls m)) (filled_setting (texts m)) (λ s. IsBelow m s.slot) (setting-one m) ss ts
    (below-of_map m (λ s. s.slot) ss (all-left (IsBelow m) (map (λ s. s.slot) ss) (map (λ c. c.slot) cs) p))
    (below-of_map m (λ s. s.slot) ts (all-left (IsBelow m) (map (λ s. s.slot) ts) (map (λ c. c.slot) ds) q)) (ap settings_of d) (ap settings_of e) in
    let conditions = conditions-one m cs ds (all-right (IsBelow m) (map (λ s. s.slot) ss) (map (λ c. c.slot) cs) p)
    (all-right (IsBelow m) (map (λ s. s.slot) ts) (map (λ c. c.slot) ds) q) (ap conditions_of d) (ap conditions_of e) in
    λ i. statement.Update (table_of (d i)) (settings i) (conditions i)
below-one m (statement.Delete a cs) (statement.Delete b ds) p q d e =
    let conditions : cs ≡ ds = conditions-one m cs ds p q (ap conditions_of d) (ap conditions_of e) in
    λ i. statement.Delete (table_of (d i)) (conditions i)
below-one m (statement.Select b x a js cs) (statement.Select b' x' a' ks ds) p q d e =
    let conditions : cs ≡ ds = conditions-one m cs ds p q (ap conditions_of d) (ap conditions_of e) in
    λ i. statement.Select (select_of (d i)).0 (select_of (d i)).1 (table_of (d i)) (select_of (d i)).2 (conditions i)
below-one m s t p q d e =
    absurd (different (first_word (filled (nulls m) s)) (first_word (filled (nulls m) t)) refl (ap first_word d))

-- Where both fillings of two statements with as many holes are one command each, the statements are one.
pub statements-one : (m : ℕ) (s t : Statement) → holes_of s ≡ range_with_len 0 m → holes_of t ≡ range_with_len 0 m
    → filled (nulls m) s ≡ filled (nulls m) t → filled (texts m) s ≡ filled (texts m) t → s ≡ t
statements-one m s t h k d e = below-one m s t (holes-below m s h) (holes-below m t k) d e
