-- Statement parts: what a line is behind a statement's first word, from what is read and numbered.
use Rattle.std.proofs.Common.{◌≡◌, ◌+◌, ℕ, List, [], ◌∷◌, ◌++◌, length, map, take, drop, Bool, refl, sym, ap, ◌∙◌}
use Rattle.std.specs.List.{flat_map}
use Rattle.std.proofs.Math.Seq.{take-append_seam}
use Rattle.std.proofs.lemmas.List.{length-map, map-id}
use Rattle.std.proofs.lemmas.List.Concat.{flat_map-append}
use lib.Chars.{codes}
use Rattle.plain_tables.specs.Spelling.{Symbol, Keyword, separated_by}
use Rattle.plain_tables.specs.declared.command.Items.{Items}
use Rattle.plain_tables.specs.declared.command.Join.{Join}
use Rattle.plain_tables.proofs.FirstWords.{different}
use Rattle.plain_statements.specs.declared.statement.Slot.{Slot}
use Rattle.plain_statements.specs.declared.statement.SlotSetting.{SlotSetting}
use Rattle.plain_statements.specs.declared.statement.SlotCond.{SlotCond}
use Rattle.plain_statements.specs.declared.statement.Statement.{Statement}
use Rattle.plain_statements.specs.declared.statement.Statement.TheVariants.{Insert, Update, Delete, Select}
use Rattle.plain_statements.specs.StatementSpelling.{numbers_of}
use Rattle.mm_lang.specs.Parsing.{IsNameAndList, where_of, IsUpdate, IsDelete, IsSelect}
use Rattle.mm_lang.specs.Statements.{slot_symbol, slot_by, setting_by, condition_by, word_of, IsStatement, AreFrom, CompletesStatement}
use Rattle.mm_lang.proofs.Lists.{list-some}
use Rattle.mm_lang.proofs.Numbering.{from-append}
use Rattle.mm_lang.proofs.Productions.{named-list, list-named, update-whole, whole-update, update-some}
use Rattle.mm_lang.proofs.Selects.{select-whole, whole-select}

-- ---- items that differ in numbers alone

abbrev slots_by : Slot → List Symbol
slots_by = slot_by slot_symbol

abbrev settings_by : SlotSetting → List Symbol
settings_by = setting_by slot_symbol

abbrev conditions_by : SlotCond → List Symbol
conditions_by = condition_by slot_symbol

same-length : {X : Type 0} (symbols : X → List Symbol) (xs ys : List X) → map symbols xs ≡ map symbols ys → length xs ≡ length ys
same-length symbols xs ys e = sym (length-map xs symbols) ∙ (ap length e ∙ length-map ys symbols)

-- The word and its items are a function of the lists of symbols.
where-by : List (List Symbol) → List Symbol
where-by [] = []
where-by (x ∷ xs) = Keyword (codes "where") ∷ separated_by (Keyword (codes "and")) (x ∷ xs)

where-is : {X : Type 0} (symbols : X → List Symbol) (xs : List X) → where_of symbols xs ≡ where-by (map symbols xs)
unfolding where-by
where-is symbols [] = refl
where-is symbols (x ∷ xs) = refl

same-where : {X : Type 0} (symbols : X → List Symbol) (xs ys : List X) → map symbols xs ≡ map symbols ys → where_of symbols xs ≡ where_of symbols ys
same-where symbols xs ys e = where-is symbols xs ∙ (ap where-by e ∙ sym (where-is symbols ys))

-- What a vector holds once all of it was changed in place.
pub written-back : {X : Type 0} (n : ℕ) (new old result : List X) → result ≡ take n (new ++ drop (length new) old) → length new ≡ n → result ≡ new
written-back n new old result e long = e ∙ (ap (λ k. take k (new ++ drop (length new) old)) (sym long) ∙ take-append_seam new (drop (length new) old))

-- ---- insert

pub insert-done : (line table : List ℕ) (slots old : List Slot) → map slots_by slots ≡ map slots_by old
    → AreFrom 0 (flat_map numbers_of (map (λ s. s) slots)) → IsNameAndList slots_by line table old
    → CompletesStatement (codes "insert") line (Insert table slots)
insert-done line table slots old e numbers is = (
  record {
    first = refl;
    some = rw (same-length slots_by slots old e) (list-some slots_by (codes ",") _ old is.rest is.listed);
    made = rw e (named-list slots_by line table old is);
  },
  rw (map-id slots) at numbers,
)

pub insert-none : (line : List ℕ) → ((table : List ℕ) (slots : List Slot) → IsNameAndList slots_by line table slots → ⊥)
    → (s : Statement) → IsStatement (codes "insert") line s → ⊥
insert-none line not (Insert table slots) is = not table slots (list-named slots_by line table slots is.some is.made)
insert-none line not s is = different (word_of s) (codes "insert") refl is.first

-- ---- delete

pub delete-done : (line table : List ℕ) (conditions old : List SlotCond) → map conditions_by conditions ≡ map conditions_by old
    → AreFrom 0 (flat_map numbers_of (map (λ c. c.slot) conditions)) → IsDelete conditions_by line table old
    → CompletesStatement (codes "delete") line (Delete table conditions)
delete-done line table conditions old e numbers is = (
  record { first = refl; some = tt; made = rw (same-where conditions_by conditions old e) is },
  numbers,
)

pub delete-none : (line : List ℕ) → ((table : List ℕ) (conditions : List SlotCond) → IsDelete conditions_by line table conditions → ⊥)
    → (s : Statement) → IsStatement (codes "delete") line s → ⊥
delete-none line not (Delete table conditions) is = not table conditions is.made
delete-none line not s is = different (word_of s) (codes "delete") refl is.first

-- ---- update

pub update-done : (line table : List ℕ) (settings were : List SlotSetting) (conditions old : List SlotCond) (next : ℕ)
    → map settings_by settings ≡ map settings_by were → AreFrom 0 (flat_map numbers_of (map (λ s. s.slot) settings))
    → next ≡ 0 + length (flat_map numbers_of (map (λ s. s.slot) settings)) → map conditions_by conditions ≡ map conditions_by old
    → AreFrom next (flat_map numbers_of (map (λ c. c.slot) conditions)) → IsUpdate settings_by conditions_by line table were old
    → CompletesStatement (codes "update") line (Update table settings conditions)
update-done line table settings were conditions old next d first e f numbers is = (
  record {
    first = refl;
    some = rw (same-length settings_by settings were d) (update-some settings_by conditions_by line table were old is);
    made = rw (d, same-where conditions_by conditions old f) (update-whole settings_by conditions_by line table were old is);
  },
  rw flat_map-append (from-append 0 next _ _ first e numbers),
)

pub update-none : (line : List ℕ)
    → ((table : List ℕ) (settings : List SlotSetting) (conditions : List SlotCond) → IsUpdate settings_by conditions_by line table settings conditions → ⊥)
    → (s : Statement) → IsStatement (codes "update") line s → ⊥
update-none line not (Update table settings conditions) is =
    not table settings conditions (whole-update settings_by conditions_by line table settings conditions is.some is.made)
update-none line not s is = different (word_of s) (codes "update") refl is.first

-- ---- select

pub select-done : (line : List ℕ) (distinct : Bool) (items : Items) (table : List ℕ) (joins : List Join) (conditions old : List SlotCond)
    → map conditions_by conditions ≡ map conditions_by old → AreFrom 0 (flat_map numbers_of (map (λ c. c.slot) conditions))
    → IsSelect conditions_by line distinct items table joins old
    → CompletesStatement (codes "select") line (Select distinct items table joins conditions)
select-done line distinct items table joins conditions old e numbers is = (
  record {
    first = refl;
    some = is.some;
    made = rw (same-where conditions_by conditions old e) (select-whole conditions_by line distinct items table joins old is);
  },
  numbers,
)

pub select-none : (line : List ℕ)
    → ((distinct : Bool) (items : Items) (table : List ℕ) (joins : List Join) (conditions : List SlotCond)
    → IsSelect conditions_by line distinct items table joins conditions → ⊥)
    → (s : Statement) → IsStatement (codes "select") line s → ⊥
select-none line not (Select distinct items table joins conditions) is =
    not distinct items table joins conditions (whole-select conditions_by line distinct items table joins conditions is.some is.made)
select-none line not s is = different (word_of s) (codes "select") refl is.first
