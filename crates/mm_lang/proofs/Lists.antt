-- Lists: how far a list has been read from the front of a line.
use Rattle.std.proofs.Common.{◌≡◌, ◌≢◌, ℕ, ◌<◌, List, [], ◌∷◌, ◌++◌, length, map, sym, ◌∙◌, ap, arith, append_assoc, subst}
use Rattle.plain_tables.specs.Spelling.{Symbol, separated_by, IsSymbol}
use Rattle.plain_tables.specs.Reading.{lexeme, after_lexeme}
use Rattle.mm_lang.specs.Parsing.{Reads, ReadsList, IsOfText, EndsItem, BeginsWith, BeginsWithNone, BeginsWithList, BeginsWithNoList}
use Rattle.mm_lang.proofs.Fronts.{reads-append, reads-split, reads-of_text}
use Rattle.mm_lang.proofs.Utf8.{of_text-after}

-- ---- a list as it is read, and as it is spelled

pub list-some : {X : Type 0} (symbols : X → List Symbol) (between line : List ℕ) (xs : List X) (rest : List ℕ)
    → ReadsList symbols between line xs rest → 0 < length xs
list-some symbols between line [] rest reads = elim reads [ ]
list-some symbols between line (x ∷ xs) rest reads = omega arith

pub list-first : {X : Type 0} (symbols : X → List Symbol) (between line : List ℕ) (xs : List X) (rest : List ℕ)
    → ReadsList symbols between line xs rest → (x : X) × (behind : List ℕ) × Reads line (symbols x) behind
list-first symbols between line [] rest reads = elim reads [ ]
list-first symbols between line (x ∷ []) rest reads = (x, rest, reads)
list-first symbols between line (x ∷ y ∷ xs) rest (behind, first, e, others) = (x, behind, first)

pub list-of_text : {X : Type 0} (symbols : X → List Symbol) (between line : List ℕ) (xs : List X) (rest : List ℕ) → IsOfText line
    → ReadsList symbols between line xs rest → IsOfText rest
list-of_text symbols between line [] rest of reads = elim reads [ ]
list-of_text symbols between line (x ∷ []) rest of reads = reads-of_text line (symbols x) rest of reads
list-of_text symbols between line (x ∷ y ∷ xs) rest of (behind, first, e, others) =
    list-of_text symbols between (after_lexeme behind) (y ∷ xs) rest (of_text-after behind (reads-of_text line (symbols x) behind of first)) others

pub list-spelled : {X : Type 0} (symbols : X → List Symbol) (between : Symbol) (word : List ℕ)
    → ((characters : List ℕ) → characters ≡ word → IsSymbol characters between) → (line : List ℕ) (xs : List X) (rest : List ℕ)
    → ReadsList symbols word line xs rest → Reads line (separated_by between (map symbols xs)) rest
list-spelled symbols between word is line [] rest reads = elim reads [ ]
list-spelled symbols between word is line (x ∷ []) rest reads = reads
list-spelled symbols between word is line (x ∷ y ∷ xs) rest (behind, first, e, others) =
    reads-append line (symbols x) (between ∷ separated_by between (map symbols (y ∷ xs))) behind rest first
    (is (lexeme behind) e, list-spelled symbols between word is (after_lexeme behind) (y ∷ xs) rest others)

pub spelled-list : {X : Type 0} (symbols : X → List Symbol) (between : Symbol) (word : List ℕ)
    → ((characters : List ℕ) → IsSymbol characters between → characters ≡ word) → (line : List ℕ) (xs : List X) (rest : List ℕ)
    → 0 < length xs → Reads line (separated_by between (map symbols xs)) rest → ReadsList symbols word line xs rest
spelled-list symbols between word is line [] rest some reads = omega arith
spelled-list symbols between word is line (x ∷ []) rest some reads = reads
spelled-list symbols between word is line (x ∷ y ∷ xs) rest some reads =
    let (mid, first, (sep, others)) = reads-split line (symbols x) (between ∷ separated_by between (map symbols (y ∷ xs))) rest reads in
    (mid, first, is (lexeme mid) sep, spelled-list symbols between word is (after_lexeme mid) (y ∷ xs) rest (omega arith) others)

-- ---- the reading of a list

-- These items are read where a list of one or more at the front of the rest is, behind them, a list at the front of the line; and
-- each list at the front of the line that ends goes on at the front of the rest.
pub record HasRead {X : Type 0} (symbols : X → List Symbol) (between line : List ℕ) (items : List X) (rest : List ℕ) : Type 0 where
  pub of_text : IsOfText line → IsOfText rest
  pub found : (zs : List X) (other : List ℕ) → ReadsList symbols between rest zs other → ReadsList symbols between line (items ++ zs) other
  pub only : (ys : List X) (other : List ℕ) → ReadsList symbols between line ys other → EndsItem (lexeme other) → lexeme other ≢ between
      → (zs : List X) × ReadsList symbols between rest zs other

-- what a list is by its first item: nothing else, or a separator and the others behind it
data Tail {X : Type 0} (symbols : X → List Symbol) (between behind other : List ℕ) : Type 0 where
  Ends : other ≡ behind → Tail symbols between behind other
  GoesOn : (ws : List X) → lexeme behind ≡ between → ReadsList symbols between (after_lexeme behind) ws other
      → Tail symbols between behind other

first-item : {X : Type 0} (symbols : X → List Symbol) (between rest : List ℕ) (x : X) (behind : List ℕ) → EndsItem between
    → BeginsWith symbols rest x behind → (zs : List X) (other : List ℕ) → ReadsList symbols between rest zs other
    → EndsItem (lexeme other) → Tail symbols between behind other
first-item symbols between rest x behind ends begins [] other reads free = elim reads [ ]
first-item symbols between rest x behind ends begins (z ∷ []) other reads free = Ends (begins.only z other reads free)
first-item symbols between rest x behind ends begins (z ∷ w ∷ ws) other (mid, first, e, others) free =
    let same : mid ≡ behind = begins.only z mid first (subst EndsItem (sym e) ends) in
    GoesOn (w ∷ ws) (ap lexeme (sym same) ∙ e) (subst (λ l. ReadsList symbols between (after_lexeme l) (w ∷ ws) other) same others)

put-first : {X : Type 0} (symbols : X → List Symbol) (between rest : List ℕ) (x : X) (behind : List ℕ) → Reads rest (symbols x) behind
    → lexeme behind ≡ between → (zs : List X) (other : List ℕ) → ReadsList symbols between (after_lexeme behind) zs other
    → ReadsList symbols between rest (x ∷ zs) other
put-first symbols between rest x behind first e [] other reads = elim reads [ ]
put-first symbols between rest x behind first e (z ∷ zs) other reads = (behind, first, e, reads)

-- ---- a separator behind an item

further-tail : {X : Type 0} (symbols : X → List Symbol) (between behind : List ℕ) → lexeme behind ≡ between → (other : List ℕ)
    → lexeme other ≢ between → Tail symbols between behind other → (zs : List X) × ReadsList symbols between (after_lexeme behind) zs other
further-tail symbols between behind sep other end (Ends same) = absurd (end (ap lexeme same ∙ sep))
further-tail symbols between behind sep other end (GoesOn ws g others) = (ws, others)

pub has_read-further : {X : Type 0} (symbols : X → List Symbol) (between line : List ℕ) (items : List X) (rest : List ℕ) (x : X) (behind : List ℕ)
    → EndsItem between → HasRead symbols between line items rest → BeginsWith symbols rest x behind → lexeme behind ≡ between
    → HasRead symbols between line (items ++ x ∷ []) (after_lexeme behind)
has_read-further symbols between line items rest x behind ends read begins sep = record {
  of_text = λ of. of_text-after behind (reads-of_text rest (symbols x) behind (read.of_text of) begins.found);
  found = λ zs other reads.
      rw (append_assoc items (x ∷ []) zs) (read.found (x ∷ zs) other (put-first symbols between rest x behind begins.found sep zs other reads));
  only = λ ys other reads free end.
      let (zs, listed) = read.only ys other reads free end in
      further-tail symbols between behind sep other end (first-item symbols between rest x behind ends begins zs other listed free);
}

-- ---- the last item

last-tail : {X : Type 0} (symbols : X → List Symbol) (between behind : List ℕ) → lexeme behind ≢ between → (other : List ℕ)
    → Tail symbols between behind other → other ≡ behind
last-tail symbols between behind end other (Ends same) = same
last-tail symbols between behind end other (GoesOn ws g others) = absurd (end g)

pub has_read-last : {X : Type 0} (symbols : X → List Symbol) (between line : List ℕ) (items : List X) (rest : List ℕ) (x : X) (behind : List ℕ)
    → EndsItem between → HasRead symbols between line items rest → BeginsWith symbols rest x behind → lexeme behind ≢ between
    → BeginsWithList symbols between line (items ++ x ∷ []) behind
has_read-last symbols between line items rest x behind ends read begins end = record {
  found = read.found (x ∷ []) behind begins.found;
  only = λ ys other reads free last.
      let (zs, listed) = read.only ys other reads free last in
      last-tail symbols between behind end other (first-item symbols between rest x behind ends begins zs other listed free);
}

-- ---- no item

no-first : {X : Type 0} (symbols : X → List Symbol) (between rest : List ℕ) → EndsItem between → IsOfText rest → BeginsWithNone symbols rest
    → (zs : List X) (other : List ℕ) → EndsItem (lexeme other) → ReadsList symbols between rest zs other → ⊥
no-first symbols between rest ends of not [] other free reads = reads
no-first symbols between rest ends of not (z ∷ []) other free reads = not.none of z other reads free
no-first symbols between rest ends of not (z ∷ w ∷ ws) other free (mid, first, e, others) = not.none of z mid first (subst EndsItem (sym e) ends)

pub has_read-no_item : {X : Type 0} (symbols : X → List Symbol) (between line : List ℕ) (items : List X) (rest : List ℕ) → EndsItem between
    → HasRead symbols between line items rest → BeginsWithNone symbols rest → BeginsWithNoList symbols between line
has_read-no_item symbols between line items rest ends read not = record {
  none = λ of ys other reads free end.
      let (zs, listed) = read.only ys other reads free end in
      no-first symbols between rest ends (read.of_text of) not zs other free listed;
}
