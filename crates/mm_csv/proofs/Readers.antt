-- Lemmas on a reader of the crate csv: the records that are left, one fewer with each that is read.
use Rattle.std.proofs.Common.{Bor, ◌≡◌, ◌∙◌, ◌<◌, ◌+◌, ◌++◌, [], ◌∷◌, ℕ, List, Bool, true, false, Option, Some, None, refl, length, arith, zero, suc, inl}
use Rattle.std.specs.Prelude.{IsSome, if◌then◌else◌, ◌==◌, ◌&&◌}
use Rattle.std.specs.Option.{option_map_or}
use Rattle.std.proofs.lemmas.Bool.{and_parts}
use Rattle.csv.specs.Machine.{Read, ends_at_end, ends_with, fields_after, field_after, in_field, is_end, next_record, start_field, start_record, step}
use Rattle.csv.specs.Reading.{NextIs, ReadRecord, ReadsNext, default_config, pending_of, reader_state, records, records_from, records_next, source_of, strip_bom, took_first}
use Rattle.csv.specs.declared.parser.Action.{Action}
use Rattle.csv.specs.declared.parser.State.{State}
use Rattle.csv.specs.declared.parser.State.TheVariants as st
use Rattle.csv.specs.declared.parser.Terminator.TheVariants as term
use Rattle.csv.specs.declared.reader.Reader.{Reader}
use Rattle.plain_tables.specs.CsvReading.{begins_with_mark}
use Rattle.mm_csv.specs.BlockReading.{IsReading, ReadsRecord, records_behind, records_left, remaining}

-- ---- one record of a text

-- A step that ends a record stops between two records.
abbrev pub EndsBetween : State × Action → Type 0
EndsBetween p = is_end p.1 ≡ true → ends_at_end p.0 ≡ false

either : (b : Bool) (p q : State × Action) → EndsBetween p → EndsBetween q → EndsBetween (if b then p else q)
either true p q first second = first
either false p q first second = second

after-end : (b : Bool) → ends_at_end (if b then st.AfterCr else st.StartRecord) ≡ false
after-end true = refl
after-end false = refl

in-field : (c : ℕ) → EndsBetween (in_field default_config c)
in-field c = either (c == 44) _ _ (λ e. cc e) (either (ends_with term.CRLF c) _ _ (λ e. after-end (c == 13)) (λ e. cc e))

start-field : (c : ℕ) → EndsBetween (start_field default_config c)
start-field c = either (c == 34) _ _ (λ e. cc e) (in-field c)

start-record : (c : ℕ) → EndsBetween (start_record default_config c)
start-record c = either (ends_with term.CRLF c) _ _ (λ e. refl) (start-field c)

steps-between : (s : State) (c : ℕ) → EndsBetween (step default_config s c)
steps-between st.StartRecord c = start-record c
steps-between st.StartField c = start-field c
steps-between st.InField c = in-field c
steps-between st.InQuoted c = either (c == 34) _ _ (λ e. cc e) (λ e. cc e)
steps-between st.InEscape c = λ e. cc e
steps-between st.AfterQuote c = either (c == 34) _ _ (λ e. cc e) (in-field c)
steps-between st.InComment c = either (c == 10) _ _ (λ e. refl) (λ e. cc e)
steps-between st.AfterCr c = either (c == 10) _ _ (λ e. refl) (start-record c)

-- how much a state and a text can still give
abbrev pub room : State → List ℕ → ℕ
room s xs = if ends_at_end s then length xs + 1 else length xs

room-more : (s : State) (xs : List ℕ) → room s xs < length xs + 2
room-more s xs = by (ends_at_end s)
  where
    by : (b : Bool) → (if b then length xs + 1 else length xs) < length xs + 2
    by true = omega arith
    by false = omega arith

room-least : (s : State) (xs : List ℕ) → length xs < room s xs + 1
room-least s xs = by (ends_at_end s)
  where
    by : (b : Bool) → length xs < (if b then length xs + 1 else length xs) + 1
    by true = omega arith
    by false = omega arith

-- a record that was read ends between two records, and less is left
pub taken : (s : State) (fields : List (List ℕ)) (field xs : List ℕ) (p : Read) → next_record default_config s fields field xs ≡ Some p
    → (ends_at_end p.1 ≡ false) × (length p.2 < room s xs)
unfolding next_record
taken s fields field [] p is = by (ends_at_end s) is
  where
    by : (b : Bool) → (if b then Some (fields ++ (field ∷ []), st.StartRecord, []) else None) ≡ Some p
        → (ends_at_end p.1 ≡ false) × (length p.2 < (if b then 1 else 0))
    by true e = let whole : p ≡ (fields ++ (field ∷ []), st.StartRecord, []) = cc in rw whole (refl, omega arith)
    by false e = cc e
taken s fields field (c ∷ rest) p is =
    by (is_end (step default_config s c).1) refl is
    (taken (step default_config s c).0 (fields_after (step default_config s c).1 fields field) (field_after (step default_config s c).1 c field) rest p)
  where
    by : (b : Bool) → is_end (step default_config s c).1 ≡ b
        → (if b then Some (fields_after (step default_config s c).1 fields field, (step default_config s c).0, rest)
        else next_record default_config (step default_config s c).0 (fields_after (step default_config s c).1 fields field) (field_after (step default_config s c).1 c field) rest) ≡ Some p
        → (next_record default_config (step default_config s c).0 (fields_after (step default_config s c).1 fields field) (field_after (step default_config s c).1 c field) rest ≡ Some p
        → (ends_at_end p.1 ≡ false) × (length p.2 < room (step default_config s c).0 rest))
        → (ends_at_end p.1 ≡ false) × (length p.2 < room s (c ∷ rest))
    by true ended e more =
        let whole : p ≡ (fields_after (step default_config s c).1 fields field, (step default_config s c).0, rest) = cc in
        rw whole (steps-between s c ended, omega (arith, room-least s (c ∷ rest)))
    by false going e more =
        let (between, less) = more e in
        (between, omega (arith, less, room-more (step default_config s c).0 rest, room-least s (c ∷ rest)))

-- ---- all records of a text

-- more turns than bytes give no more records
enough : (n m : ℕ) (s : State) (xs : List ℕ) → ends_at_end s ≡ false → length xs < n → length xs < m
    → records_from default_config n s xs ≡ records_from default_config m s xs
unfolding records_from
enough zero m s xs between low high = absurd (omega arith)
enough (suc n) zero s xs between low high = absurd (omega arith)
enough (suc n) (suc m) s xs between low high = by (next_record default_config s [] [] xs) refl (λ t ys. enough n m t ys)
  where
    by : (o : Option Read) → next_record default_config s [] [] xs ≡ o
        → ((t : State) (ys : List ℕ) → ends_at_end t ≡ false → length ys < n → length ys < m → records_from default_config n t ys ≡ records_from default_config m t ys)
        → records_next (records_from default_config n) (next_record default_config s [] [] xs) ≡ records_next (records_from default_config m) (next_record default_config s [] [] xs)
    by None is more = rw is refl
    by (Some p) is more =
        let (next, less) = taken s [] [] xs p is in
        let fewer : length p.2 < length xs = rw between at less in
        rw (is, more p.1 p.2 next (omega arith) (omega arith)) refl

pub one-record : (s : State) (xs : List ℕ) (p : Read) → ends_at_end s ≡ false → next_record default_config s [] [] xs ≡ Some p
    → records_behind s xs ≡ p.0 ∷ records_behind p.1 p.2
unfolding records_from
one-record s xs p between is =
    let (next, less) = taken s [] [] xs p is in
    let fewer : length p.2 < length xs = rw between at less in
    let turn : length xs + 1 ≡ suc (length xs) = omega arith in
    rw (turn, is, enough (length xs) (length p.2 + 1) p.1 p.2 next fewer (omega arith)) refl

pub no-record : (s : State) (xs : List ℕ) → next_record default_config s [] [] xs ≡ None → records_behind s xs ≡ []
unfolding records_from
no-record s xs is = let turn : length xs + 1 ≡ suc (length xs) = omega arith in rw (turn, is) refl

-- ---- one read

read-on : (s t : State) (before after : Option (List ℕ)) (found : Bool) (fields : List (List ℕ)) → IsSome before → ends_at_end s ≡ false
    → ReadsNext default_config s before after found fields t
    → ReadsRecord found (option_map_or (records_behind s) before []) (option_map_or (records_behind t) after []) fields
    × (found ≡ true → IsSome after × (ends_at_end t ≡ false))
read-on s t None after found fields known between read = cc known
read-on s t (Some xs) None found fields known between read = absurd read
read-on s t (Some xs) (Some ys) found fields known between read = by (next_record default_config s [] [] xs) refl read
  where
    by : (o : Option Read) → next_record default_config s [] [] xs ≡ o → NextIs o found fields t ys
        → ReadsRecord found (records_behind s xs) (records_behind t ys) fields × (found ≡ true → IsSome (Some ys) × (ends_at_end t ≡ false))
    by None is none = rw none (no-record s xs is, λ e. cc e)
    by (Some p) is (some, same, state, rest) =
        rw (some, same, state, rest) (one-record s xs p between is, λ e. (refl, (taken s [] [] xs p is).0))

-- What a read gives is the first of the records left.
pub next-read : (old new : Reader (Bor (List ℕ))) (found : Bool) (fields : List (List ℕ))
    → IsReading old → ReadRecord remaining old new found fields → took_first new ≡ true
    → ReadsRecord found (records_left old) (records_left new) fields × (found ≡ true → IsReading new)
next-read old new found fields at read first =
    let same : source_of remaining new ≡ pending_of (remaining new.rdr) new = rw read.1 refl in
    let (one, more) = read-on old.state new.state (source_of remaining old) (pending_of (remaining new.rdr) new) found fields at.source at.between (rw at.settings at read.0) in
    (rw same one, λ e. record { settings = read.2 ∙ at.settings; trim = read.3 ∙ at.trim; ready = inl first; source = rw same (more e).0; between = (more e).1 })

-- ---- the front of a block

-- a text with no mark at its front, as the crate csv takes one off
pub no-mark : (text : List ℕ) → begins_with_mark text ≡ false → strip_bom text ≡ text
unfolding strip_bom
no-mark [] plain = refl
no-mark (a ∷ []) plain = refl
no-mark (a ∷ b ∷ []) plain = refl
no-mark (a ∷ b ∷ c ∷ rest) plain = by ((a == 0xEF) && (b == 0xBB) && (c == 0xBF)) refl
  where
    by : (t : Bool) → ((a == 0xEF) && (b == 0xBB) && (c == 0xBF)) ≡ t → (if (a == 0xEF) && (b == 0xBB) && (c == 0xBF) then rest else a ∷ b ∷ c ∷ rest) ≡ a ∷ b ∷ c ∷ rest
    by true is =
        let (front, third) = and_parts ((a == 0xEF) && (b == 0xBB)) (c == 0xBF) is in
        let (first, second) = and_parts (a == 0xEF) (b == 0xBB) front in
        cc (rw (first, second, third) at plain)
    by false is = rw is refl

-- A reader that has read nothing yet has all records of its text left.
pub begun : (reader : Reader (Bor (List ℕ))) (text : List ℕ) → begins_with_mark text ≡ false
    → reader_state reader ≡ st.StartRecord → source_of remaining reader ≡ Some (strip_bom text) → records_left reader ≡ records default_config text
begun reader text plain state source = rw (state, source, no-mark text plain) refl
