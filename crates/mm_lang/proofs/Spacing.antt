-- Spacing: the canonical spelling of symbols, one list behind another.
use Rattle.std.proofs.Common.{◌≡◌, ℕ, List, [], ◌∷◌, ◌++◌, length, map, Bool, true, false, IsTrue, refl, sym, ◌∙◌, ap, append_assoc, append-nil, subst}
use Rattle.std.specs.List.{flat_map}
use Rattle.std.specs.Prelude.{◌==◌}
use lib.Chars.{codes}
use Rattle.plain_tables.specs.Spelling.{Symbol, Keyword, Name, Sign, Open, Close, Comma, Dot, separated, separated_by, name_symbols, setting_symbols, condition_symbols, distinct_symbols, items_symbols, joined_symbols, join_symbols, where_symbols, symbols_of, symbol_text, gap, spaced}
use Rattle.plain_tables.specs.declared.condition.Cond.{Cond}
use Rattle.plain_tables.specs.declared.command.Setting.{Setting}
use Rattle.plain_tables.specs.declared.command.Join.{Join}
use Rattle.plain_tables.specs.declared.command.Items.{Items}
use Rattle.plain_tables.specs.declared.command.Items.TheVariants as items
use Rattle.plain_tables.specs.declared.command.Command.TheVariants.{Update, Delete, Select}
use Rattle.plain_tables.proofs.FirstWords.{split-word}
use Rattle.plain_tables.proofs.SingleItems.{joins-listed}
use Rattle.mm_lang.specs.Printing.{behind, leaves_gap, EndsFree, BeginsFree, IsFree, joined, name_symbols-free, condition_symbols-free}

-- ---- one list behind another

free-gap : (symbol next : Symbol) → IsTrue (leaves_gap symbol) → gap symbol next ≡ gap (Keyword []) next
free-gap (Sign Open) next free = cc
free-gap (Sign Dot) next free = cc
free-gap symbol (Sign Close) free = refl
free-gap symbol next free = refl

three-parts : (a b c d : List ℕ) → a ++ (b ++ (c ++ d)) ≡ (a ++ (b ++ c)) ++ d
three-parts a b c d = simp append_assoc

pub spaced-append : (xs ys : List Symbol) → EndsFree xs → spaced (xs ++ ys) ≡ spaced xs ++ behind ys
spaced-append [] ys free = elim free [ ]
spaced-append (x ∷ []) [] free = sym (append-nil (symbol_text x))
spaced-append (x ∷ []) (y ∷ ys) free = ap (λ g. symbol_text x ++ (g ++ spaced (y ∷ ys))) (free-gap x y free)
spaced-append (x ∷ w ∷ xs) ys free =
    ap (λ t. symbol_text x ++ (gap x w ++ t)) (spaced-append (w ∷ xs) ys free)
    ∙ three-parts (symbol_text x) (gap x w) (spaced (w ∷ xs)) (behind ys)

-- nothing, or a list that ends free
abbrev EndsFreeIfAny : List Symbol → Type 0
EndsFreeIfAny [] = Unit {0}
EndsFreeIfAny (symbol ∷ symbols) = EndsFree (symbol ∷ symbols)

behind-append : (xs ys : List Symbol) → EndsFreeIfAny xs → behind (xs ++ ys) ≡ behind xs ++ behind ys
behind-append [] ys free = refl
behind-append (x ∷ xs) ys free =
    ap (λ t. gap (Keyword []) x ++ t) (spaced-append (x ∷ xs) ys free) ∙ sym (append_assoc (gap (Keyword []) x) (spaced (x ∷ xs)) (behind ys))

behind-free : (xs : List Symbol) → BeginsFree xs → behind xs ≡ 32 ∷ spaced xs
behind-free [] free = elim free [ ]
behind-free (x ∷ xs) free = ap (λ g. g ++ spaced (x ∷ xs)) free

begins-append : (xs ys : List Symbol) → BeginsFree xs → BeginsFree (xs ++ ys)
begins-append [] ys free = elim free [ ]
begins-append (x ∷ xs) ys free = free

ends-cons : (x : Symbol) (xs : List Symbol) → EndsFree xs → EndsFree (x ∷ xs)
ends-cons x [] free = elim free [ ]
ends-cons x (y ∷ xs) free = free

ends-append : (xs ys : List Symbol) → EndsFree ys → EndsFree (xs ++ ys)
ends-append [] ys free = free
ends-append (x ∷ xs) ys free = ends-cons x (xs ++ ys) (ends-append xs ys free)

ends-any : (xs : List Symbol) → EndsFree xs → EndsFreeIfAny xs
ends-any [] free = tt
ends-any (x ∷ xs) free = free

-- ---- lists of items

abbrev AllFree : {X : Type 0} → (X → List Symbol) → Type 0
AllFree {X} symbols = (x : X) → IsFree (symbols x)

separated-begins : {X : Type 0} (symbols : X → List Symbol) → AllFree symbols → (between : Symbol) (x : X) (xs : List X)
    → BeginsFree (separated_by between (map symbols (x ∷ xs)))
separated-begins symbols free between x [] = (free x).0
separated-begins symbols free between x (y ∷ xs) = begins-append (symbols x) (between ∷ separated_by between (map symbols (y ∷ xs))) (free x).0

separated-ends : {X : Type 0} (symbols : X → List Symbol) → AllFree symbols → (between : Symbol) (x : X) (xs : List X)
    → EndsFree (separated_by between (map symbols (x ∷ xs)))
separated-ends symbols free between x [] = (free x).1
separated-ends symbols free between x (y ∷ xs) =
    ends-append (symbols x) (between ∷ separated_by between (map symbols (y ∷ xs)))
    (ends-cons between (separated_by between (map symbols (y ∷ xs))) (separated-ends symbols free between y xs))

separated-any : {X : Type 0} (symbols : X → List Symbol) → AllFree symbols → (between : Symbol) (xs : List X)
    → EndsFreeIfAny (separated_by between (map symbols xs))
separated-any symbols free between [] = tt
separated-any symbols free between (x ∷ xs) =
    ends-any (separated_by between (map symbols (x ∷ xs))) (separated-ends symbols free between x xs)

parts-joined : (x g b s y f : List ℕ) → s ≡ y ++ f → x ++ (g ++ (b ++ 32 ∷ s)) ≡ x ++ (((g ++ (b ++ 32 ∷ [])) ++ y) ++ f)
parts-joined x g b s y f e = rw e (simp append_assoc)

-- A list's spelling is the spellings of its items, with that of the symbol between two of them and its gaps.
separated-joined : {X : Type 0} (symbols : X → List Symbol) → AllFree symbols → (between : Symbol) → IsTrue (leaves_gap between) → (xs : List X)
    → spaced (separated_by between (map symbols xs))
    ≡ joined symbols (gap (Keyword []) between ++ (symbol_text between ++ 32 ∷ [])) xs
separated-joined symbols free between gaps [] = refl
separated-joined symbols free between gaps (x ∷ []) = sym (append-nil (spaced (symbols x)))
separated-joined symbols free between gaps (x ∷ y ∷ xs) =
    let others : List Symbol = separated_by between (map symbols (y ∷ xs)) in
    let first : spaced (symbols x ++ between ∷ others) ≡ spaced (symbols x) ++ behind (between ∷ others) =
    spaced-append (symbols x) (between ∷ others) (free x).1 in
    let second : spaced (between ∷ others) ≡ symbol_text between ++ behind others = spaced-append (between ∷ []) others gaps in
    let third : behind others ≡ 32 ∷ spaced others = behind-free others (separated-begins symbols free between y xs) in
    first ∙ (ap (λ t. spaced (symbols x) ++ (gap (Keyword []) between ++ t)) (second ∙ ap (λ t. symbol_text between ++ t) third)
    ∙ parts-joined (spaced (symbols x)) (gap (Keyword []) between) (symbol_text between) (spaced others) (spaced (symbols y)) _
    (separated-joined symbols free between gaps (y ∷ xs)))

comma-joined : {X : Type 0} (symbols : X → List Symbol) → AllFree symbols → (xs : List X)
    → spaced (separated (map symbols xs)) ≡ joined symbols (codes ", ") xs
comma-joined symbols free xs = separated-joined symbols free (Sign Comma) refl xs

-- One item or more, behind another symbol, and behind a word.
behind-list : {X : Type 0} (symbols : X → List Symbol) → AllFree symbols → (between : Symbol) → IsTrue (leaves_gap between) → (x : X) (xs : List X)
    → behind (separated_by between (map symbols (x ∷ xs))) ≡ 32 ∷ joined symbols (gap (Keyword []) between ++ (symbol_text between ++ 32 ∷ [])) (x ∷ xs)
behind-list symbols free between gaps x xs =
    behind-free (separated_by between (map symbols (x ∷ xs))) (separated-begins symbols free between x xs)
    ∙ ap (λ t. 32 ∷ t) (separated-joined symbols free between gaps (x ∷ xs))

behind-word : {X : Type 0} (symbols : X → List Symbol) → AllFree symbols → (word : List ℕ) (between : Symbol) → IsTrue (leaves_gap between) → (x : X) (xs : List X)
    → behind (Keyword word ∷ separated_by between (map symbols (x ∷ xs)))
    ≡ 32 ∷ (word ++ 32 ∷ joined symbols (gap (Keyword []) between ++ (symbol_text between ++ 32 ∷ [])) (x ∷ xs))
behind-word symbols free word between gaps x xs =
    ap (λ t. 32 ∷ t)
    (spaced-append (Keyword word ∷ []) (separated_by between (map symbols (x ∷ xs))) refl ∙ ap (λ t. word ++ t) (behind-list symbols free between gaps x xs))

-- ---- what the functions write

pub written-behind : {X : Type 0} (symbols : X → List Symbol) → AllFree symbols → (old blank new : List ℕ) (xs : List X)
    → (length xs == 0) ≡ false → blank ≡ old ++ 32 ∷ [] → new ≡ blank ++ joined symbols (codes ", ") xs
    → new ≡ old ++ behind (separated (map symbols xs))
written-behind symbols free old blank new [] some e f = cc
written-behind symbols free old blank new (x ∷ xs) some e f =
    rw (f, e, behind-list symbols free (Sign Comma) refl x xs) (append_assoc old (32 ∷ []) (joined symbols (codes ", ") (x ∷ xs)))

pub written-where : (old blank new : List ℕ) (conditions : List Cond) → (length conditions == 0) ≡ false → blank ≡ old ++ codes " where "
    → new ≡ blank ++ joined condition_symbols (codes " and ") conditions → new ≡ old ++ behind (where_symbols conditions)
written-where old blank new [] some e f = cc
written-where old blank new (x ∷ xs) some e f =
    rw (f, e, behind-word condition_symbols condition_symbols-free (codes "where") (Keyword (codes "and")) refl x xs)
    (append_assoc old (codes " where ") (joined condition_symbols (codes " and ") (x ∷ xs)))

opened : (symbols : List Symbol) → spaced (Sign Open ∷ symbols) ≡ 40 ∷ spaced symbols
opened [] = refl
opened (x ∷ symbols) = refl

closed : {X : Type 0} (symbols : X → List Symbol) → AllFree symbols → (xs : List X)
    → spaced (separated (map symbols xs) ++ Sign Close ∷ []) ≡ joined symbols (codes ", ") xs ++ 41 ∷ []
closed symbols free [] = refl
closed symbols free (x ∷ xs) =
    spaced-append (separated (map symbols (x ∷ xs))) (Sign Close ∷ []) (separated-ends symbols free (Sign Comma) x xs)
    ∙ ap (λ t. t ++ 41 ∷ []) (comma-joined symbols free (x ∷ xs))

pub written-list : {X : Type 0} (symbols : X → List Symbol) → AllFree symbols → (old word name a b opens list new : List ℕ) (xs : List X)
    → a ≡ old ++ word → b ≡ a ++ name → opens ≡ b ++ codes " (" → list ≡ opens ++ joined symbols (codes ", ") xs → new ≡ list ++ codes ")"
    → new ≡ old ++ (word ++ (name ++ behind (Sign Open ∷ separated (map symbols xs) ++ Sign Close ∷ [])))
written-list symbols free old word name a b opens list new xs e f g h i =
    let whole : behind (Sign Open ∷ separated (map symbols xs) ++ Sign Close ∷ []) ≡ 32 ∷ 40 ∷ (joined symbols (codes ", ") xs ++ 41 ∷ []) =
    ap (λ t. 32 ∷ t) (opened (separated (map symbols xs) ++ Sign Close ∷ []) ∙ ap (λ t. 40 ∷ t) (closed symbols free xs)) in
    rw (i, h, g, f, e, whole) (simp append_assoc)

setting-free : AllFree setting_symbols
setting-free setting = (refl, refl)

pub written-update : (old table a b d e new : List ℕ) (settings : List Setting) (conditions : List Cond) → a ≡ old ++ codes "update "
    → b ≡ a ++ table → d ≡ b ++ codes " set" → e ≡ d ++ behind (separated (map setting_symbols settings))
    → new ≡ e ++ behind (where_symbols conditions) → new ≡ old ++ spaced (symbols_of (Update table settings conditions))
written-update old table a b d e new settings conditions p q r s t =
    let front : List Symbol = Keyword (codes "update") ∷ Name table ∷ Keyword (codes "set") ∷ [] in
    let list : List Symbol = separated (map setting_symbols settings) in
    let whole : spaced (front ++ (list ++ where_symbols conditions)) ≡ spaced front ++ (behind list ++ behind (where_symbols conditions)) =
    spaced-append front (list ++ where_symbols conditions) refl
    ∙ ap (λ l. spaced front ++ l) (behind-append list (where_symbols conditions) (separated-any setting_symbols setting-free (Sign Comma) settings)) in
    rw (t, s, r, q, p, whole) (simp append_assoc)

items-any : (items : Items) → EndsFreeIfAny (items_symbols items)
items-any items.All = refl
items-any (items.Named names) = separated-any name_symbols name_symbols-free (Sign Comma) names

distinct-free : (distinct : Bool) → EndsFree (Keyword (codes "select") ∷ distinct_symbols distinct)
distinct-free true = refl
distinct-free false = refl

joins-any : (joins : List Join) → EndsFreeIfAny (flat_map join_symbols joins)
joins-any [] = tt
joins-any (join ∷ []) = refl
joins-any (join ∷ next ∷ joins) = ends-append (join_symbols join) (flat_map join_symbols (next ∷ joins)) (joins-any (next ∷ joins))

join-free : AllFree joined_symbols
join-free join = (refl, refl)

pub written-joins : (old blank new : List ℕ) (joins : List Join) → (length joins == 0) ≡ false → blank ≡ old ++ codes " join "
    → new ≡ blank ++ joined joined_symbols (codes " join ") joins → new ≡ old ++ behind (flat_map join_symbols joins)
written-joins old blank new [] some e f = cc
written-joins old blank new (x ∷ xs) some e f =
    subst (λ ss. new ≡ old ++ behind ss) (sym (joins-listed x xs))
    (rw (f, e, behind-word joined_symbols join-free (codes "join") (Keyword (codes "join")) refl x xs)
    (append_assoc old (codes " join ") (joined joined_symbols (codes " join ") (x ∷ xs))))

pub written-select : (old table a b d e f new : List ℕ) (distinct : Bool) (items : Items) (joins : List Join) (conditions : List Cond)
    → a ≡ old ++ spaced (Keyword (codes "select") ∷ distinct_symbols distinct) → b ≡ a ++ behind (items_symbols items) → d ≡ b ++ codes " from "
    → e ≡ d ++ table → f ≡ e ++ behind (flat_map join_symbols joins) → new ≡ f ++ behind (where_symbols conditions)
    → new ≡ old ++ spaced (symbols_of (Select distinct items table joins conditions))
written-select old table a b d e f new distinct items joins conditions p q r s t u =
    let front : List Symbol = Keyword (codes "select") ∷ distinct_symbols distinct in
    let middle : List Symbol = Keyword (codes "from") ∷ Name table ∷ [] in
    let last : List Symbol = flat_map join_symbols joins ++ where_symbols conditions in
    let whole : spaced (symbols_of (Select distinct items table joins conditions))
    ≡ spaced front ++ (behind (items_symbols items) ++ (behind middle ++ (behind (flat_map join_symbols joins) ++ behind (where_symbols conditions)))) =
    ap spaced (split-word (Select distinct items table joins conditions)).0
    ∙ (spaced-append front (items_symbols items ++ (middle ++ last)) (distinct-free distinct)
    ∙ ap (λ l. spaced front ++ l) (behind-append (items_symbols items) (middle ++ last) (items-any items)
    ∙ ap (λ l. behind (items_symbols items) ++ l) (behind-append middle last refl
    ∙ ap (λ l. behind middle ++ l) (behind-append (flat_map join_symbols joins) (where_symbols conditions) (joins-any joins))))) in
    rw (u, t, s, r, q, p, whole) (simp append_assoc)

pub written-delete : (old table a b new : List ℕ) (conditions : List Cond) → a ≡ old ++ codes "delete " → b ≡ a ++ table
    → new ≡ b ++ behind (where_symbols conditions) → new ≡ old ++ spaced (symbols_of (Delete table conditions))
written-delete old table a b new conditions p q t =
    rw (t, q, p, spaced-append (Keyword (codes "delete") ∷ Name table ∷ []) (where_symbols conditions) refl) (simp append_assoc)
