-- How a stream that goes on divides, and that it divides in one way.
use Rattle.std.proofs.Common.{◌≡◌, ℕ, zero, suc, ◌+◌, ◌≤◌, length, take, drop, arith, List, [], ◌∷◌, ◌++◌, inl, inr, refl, sym, ap, ◌∙◌, append_assoc, append-nil, length-append, length-take, length-drop}
use Rattle.std.specs.Prelude.{◌==◌}
use Rattle.std.specs.List.{flat_map, AllByRecursion, Contains, position_or_len}
use Rattle.std.proofs.Math.Seq.{drop-append_seam, take-append_seam}
use Rattle.std.proofs.lemmas.Bool.{cases_lt, ne_eqb}
use Rattle.plain_tables.proofs.Texts.{one_more}
use Rattle.std.proofs.lemmas.List.{drop_all, take-append-drop, take_all}
use Rattle.std.proofs.lemmas.List.Concat.{flat_map-append}
use Rattle.std.proofs.lemmas.List.Elements.{Contains-append_right, Contains-append_cases}
use Rattle.plain_streams.specs.Requests.{Request, Takes, asked}
use Rattle.plain_streams.specs.Division.{IsUnbroken, request_bytes, request_of, IsWhole, IsUnfinished, in_line, in_block, Divides, EveryStreamDivides, RequestsStayFirst, DividesInOneWay}
use Rattle.plain_streams.proofs.Asking.{IsUnbroken-nil, first_line, takes_some, takes_one, takes_asks}

-- ---- lines and line feeds

pub IsUnbroken-append : (xs ys : List ℕ) → IsUnbroken xs → IsUnbroken ys → IsUnbroken (xs ++ ys)
IsUnbroken-append xs ys a b h = elim (Contains-append_cases xs ys 10 h) [ inl p ↦ a p | inr q ↦ b q ]

-- a line feed behind some bytes
Contains-feed : (line more : List ℕ) → Contains (line ++ 10 ∷ more) 10
Contains-feed line more = Contains-append_right line (10 ∷ more) 10 (0, omega arith, refl)

-- what stands before the first line feed, and behind it
pub lines_same : (l o x y : List ℕ) → IsUnbroken l → IsUnbroken o → l ++ 10 ∷ x ≡ o ++ 10 ∷ y → (l ≡ o) × (x ≡ y)
lines_same [] [] x y u v e = (refl, cc)
lines_same [] (c ∷ o) x y u v e = let first : c ≡ 10 = cc in absurd (v (0, omega arith, first))
lines_same (c ∷ l) [] x y u v e = let first : c ≡ 10 = cc in absurd (u (0, omega arith, first))
lines_same (c ∷ l) (b ∷ o) x y u v e =
    let free : IsUnbroken l = λ h. u (Contains-append_right (c ∷ []) l 10 h) in
    let free' : IsUnbroken o = λ h. v (Contains-append_right (b ∷ []) o 10 h) in
    let rest : l ++ 10 ∷ x ≡ o ++ 10 ∷ y = cc in
    let (tails, others) = lines_same l o x y free free' rest in
    let heads : c ≡ b = cc in
    (cc (heads, tails), others)

-- two fronts of one length, and what stands behind them
pub fronts_same : (a b x y : List ℕ) → length a ≡ length b → a ++ x ≡ b ++ y → (a ≡ b) × (x ≡ y)
fronts_same [] [] x y many e = (refl, e)
fronts_same [] (b ∷ bs) x y many e = absurd (omega arith)
fronts_same (a ∷ as') [] x y many e = absurd (omega arith)
fronts_same (a ∷ as') (b ∷ bs) x y many e =
    let rest : as' ++ x ≡ bs ++ y = cc in
    let (tails, others) = fronts_same as' bs x y (omega arith) rest in
    let heads : a ≡ b = cc in
    (cc (heads, tails), others)

-- ---- requests

AllWhole-append : (rs more : List Request) → AllByRecursion IsWhole rs → AllByRecursion IsWhole more → AllByRecursion IsWhole (rs ++ more)
AllWhole-append [] more a b = b
AllWhole-append (r ∷ rs) more a b = (a.0, AllWhole-append rs more a.1 b)

requests_same : (r o : Request) → r.line ≡ o.line → r.block ≡ o.block → r ≡ o
requests_same r o lines blocks =
    ap (λ l. record { line = l; block = r.block }) lines ∙ ap (λ b. record { line = o.line; block = b }) blocks

-- the bytes of a request and what stands behind them
bytes-behind : (r : Request) (more : List ℕ) → request_bytes r ++ more ≡ r.line ++ 10 ∷ (r.block ++ more)
bytes-behind r more = append_assoc r.line (10 ∷ r.block) more

-- ---- every stream divides

pub Divides-nil : Divides [] [] []
Divides-nil = record { whole = refl; each = tt; unfinished = in_line IsUnbroken-nil }

-- a whole request before a stream
pub Divides-behind : (request : Request) (stream : List ℕ) (requests : List Request) (rest : List ℕ) → IsWhole request
    → Divides stream requests rest → Divides (request_bytes request ++ stream) (request ∷ requests) rest
Divides-behind request stream requests rest whole d =
    record {
      whole = rw d.whole (sym (append_assoc (request_bytes request) (flat_map request_bytes requests) rest));
      each = (whole, d.each);
      unfinished = d.unfinished;
    }

abbrev DividesSomehow : List ℕ → Type 0
DividesSomehow stream = (requests : List Request) × (rest : List ℕ) × Divides stream requests rest

-- the bytes behind a line feed, of which a line takes these many
block_divides : (line more : List ℕ) (n : ℕ) → IsUnbroken line → Takes line n → ((other : List ℕ) → length other ≤ length more → DividesSomehow other)
    → DividesSomehow (line ++ 10 ∷ more)
block_divides line more n free takes others = elim (cases_lt (length more) n) [
  | inl short ↦
      let unfinished = in_block (record { line = line; block = more }) n free (takes_asks line n (omega arith) takes) short refl in
      ([], line ++ 10 ∷ more, record { whole = refl; each = tt; unfinished = unfinished })
  | inr long ↦
      let request : Request = record { line = line; block = take n more } in
      let size : length (take n more) ≡ n = omega (arith, length-take n more) in
      let whole : IsWhole request = record { line = free; block = rw size takes } in
      let (requests, rest, d) = others (drop n more) (omega (arith, length-drop n more)) in
      let joined : request_bytes request ++ drop n more ≡ line ++ 10 ∷ more = bytes-behind request (drop n more) ∙ ap (λ s. line ++ 10 ∷ s) (take-append-drop n more) in
      (request ∷ requests, rest, rw joined at (Divides-behind request (drop n more) requests rest whole d))
]

divides-within : (room : ℕ) (stream : List ℕ) → length stream ≤ room → DividesSomehow stream
divides-within zero [] small = ([], [], Divides-nil)
divides-within zero (c ∷ stream) small = absurd (omega arith)
divides-within (suc room) stream small = elim (first_line stream) [
  | inr free ↦ ([], stream, record { whole = refl; each = tt; unfinished = in_line free })
  | inl (line, more, free, e) ↦
      let (n, takes) = takes_some line in
      let size : length stream ≡ length line + suc (length more) = ap length e ∙ length-append line (10 ∷ more) in
      rw e (block_divides line more n free takes (λ other few. divides-within room other (omega arith)))
]

pub every_stream_divides : EveryStreamDivides
every_stream_divides stream = divides-within (length stream) stream (omega arith)

-- ---- a stream divides in one way

-- What is unfinished is no whole request with bytes behind it.
unfinished-not_whole : (rest : List ℕ) (request : Request) (more : List ℕ) → IsUnfinished rest → IsWhole request
    → rest ≡ request_bytes request ++ more → ⊥
unfinished-not_whole rest request more (in_line free) whole e =
    free (rw (e, bytes-behind request more) (Contains-feed request.line (request.block ++ more)))
unfinished-not_whole rest request more (in_block front n free asks short e) whole same =
    let (lines, blocks) = lines_same front.line request.line front.block (request.block ++ more) free whole.line (sym e ∙ same ∙ bytes-behind request more) in
    let takes : Takes request.line n = rw (← lines) (asked n asks) in
    let size = takes_one request.line n (length request.block) takes whole.block in
    let longer = ap length blocks ∙ length-append request.block more in
    omega arith

divided_same : (requests others : List Request) (rest last : List ℕ)
    → AllByRecursion IsWhole requests → AllByRecursion IsWhole others → IsUnfinished rest → IsUnfinished last
    → flat_map request_bytes requests ++ rest ≡ flat_map request_bytes others ++ last → (requests ≡ others) × (rest ≡ last)
divided_same [] [] rest last u v a b e = (refl, e)
divided_same [] (o ∷ others) rest last u v a b e =
    absurd (unfinished-not_whole rest o (flat_map request_bytes others ++ last) a v.0 (e ∙ append_assoc (request_bytes o) (flat_map request_bytes others) last))
divided_same (r ∷ requests) [] rest last u v a b e =
    absurd (unfinished-not_whole last r (flat_map request_bytes requests ++ rest) b u.0 (sym e ∙ append_assoc (request_bytes r) (flat_map request_bytes requests) rest))
divided_same (r ∷ requests) (o ∷ others) rest last u v a b e =
    let more = flat_map request_bytes requests ++ rest in
    let more' = flat_map request_bytes others ++ last in
    let regrouped : r.line ++ 10 ∷ (r.block ++ more) ≡ o.line ++ 10 ∷ (o.block ++ more') =
    sym (append_assoc (request_bytes r) (flat_map request_bytes requests) rest ∙ bytes-behind r more) ∙ e ∙ append_assoc (request_bytes o) (flat_map request_bytes others) last ∙ bytes-behind o more' in
    let (lines, behind) = lines_same r.line o.line (r.block ++ more) (o.block ++ more') u.0.line v.0.line regrouped in
    let takes : Takes o.line (length r.block) = rw (← lines) u.0.block in
    let (blocks, tails) = fronts_same r.block o.block more more' (takes_one o.line (length r.block) (length o.block) takes v.0.block) behind in
    let (same, ends) = divided_same requests others rest last u.1 v.1 a b tails in
    let first = requests_same r o lines blocks in
    (cc (first, same), ends)

pub divides_in_one_way : DividesInOneWay
divides_in_one_way stream requests rest others last d e =
    divided_same requests others rest last d.each e.each d.unfinished e.unfinished (sym d.whole ∙ e.whole)

-- ---- a stream that goes on

-- what comes behind a stream divides as its rest does
pub Divides-append : (stream more : List ℕ) (requests : List Request) (rest : List ℕ) (others : List Request) (last : List ℕ)
    → Divides stream requests rest → Divides (rest ++ more) others last → Divides (stream ++ more) (requests ++ others) last
Divides-append stream more requests rest others last d e =
    record {
      whole = rw (d.whole, append_assoc, e.whole, flat_map-append request_bytes requests others, append_assoc);
      each = AllWhole-append requests others d.each e.each;
      unfinished = e.unfinished;
    }

-- bytes that leave the rest unfinished
pub Divides-unfinished : (stream bytes : List ℕ) (requests : List Request) (rest : List ℕ)
    → IsUnfinished (rest ++ bytes) → Divides stream requests rest → Divides (stream ++ bytes) requests (rest ++ bytes)
Divides-unfinished stream bytes requests rest unfinished d =
    record { whole = rw (d.whole, append_assoc); each = d.each; unfinished = unfinished }

-- bytes with which the rest becomes one whole request
pub Divides-whole : (stream bytes : List ℕ) (requests : List Request) (rest : List ℕ) (request : Request)
    → IsWhole request → rest ++ bytes ≡ request_bytes request → Divides stream requests rest
    → Divides (stream ++ bytes) (requests ++ request ∷ []) []
Divides-whole stream bytes requests rest request whole e d =
    let one = Divides-behind request [] [] [] whole Divides-nil in
    Divides-append stream bytes requests rest (request ∷ []) [] d (rw (e ∙ sym (append-nil (request_bytes request))) one)

pub requests_stay_first : RequestsStayFirst
requests_stay_first stream more requests rest all last d e =
    let (others, end, f) = every_stream_divides (rest ++ more) in
    let both = Divides-append stream more requests rest others end d f in
    (others, (divides_in_one_way (stream ++ more) all last (requests ++ others) end e both).0)

-- ---- the last request

place-feed : (line more : List ℕ) → IsUnbroken line → position_or_len (λ b. b == 10) (line ++ 10 ∷ more) ≡ length line
place-feed [] more free = refl
place-feed (c ∷ line) more free =
    let other = ne_eqb c 10 (λ e. free (0, omega arith, e)) in
    rw (other, place-feed line more (λ h. free (Contains-append_right (c ∷ []) line 10 h))) (one_more (length line))

place-none : (bytes : List ℕ) → IsUnbroken bytes → position_or_len (λ b. b == 10) bytes ≡ length bytes
place-none [] free = refl
place-none (c ∷ bytes) free =
    let other = ne_eqb c 10 (λ e. free (0, omega arith, e)) in
    rw (other, place-none bytes (λ h. free (Contains-append_right (c ∷ []) bytes 10 h))) (one_more (length bytes))

-- bytes with no line feed are a line without a block
pub request_of-line : (bytes : List ℕ) → IsUnbroken bytes → request_of bytes ≡ record { line = bytes; block = [] }
request_of-line bytes free =
    let n = place-none bytes free in
    requests_same (request_of bytes) (record { line = bytes; block = [] })
    (rw n (take_all (length bytes) bytes (omega arith)))
    (rw n (drop_all (length bytes + 1) bytes (omega arith)))

-- the bytes of a request, or of the front of one behind its line feed, are that
pub request_of-bytes : (request : Request) → IsUnbroken request.line → request_of (request_bytes request) ≡ request
request_of-bytes request free =
    let n = place-feed request.line request.block free in
    let split = append_assoc request.line (10 ∷ []) request.block in
    let size : length (request.line ++ 10 ∷ []) ≡ length request.line + 1 = length-append request.line (10 ∷ []) in
    requests_same (request_of (request_bytes request)) request
    (rw n (take-append_seam request.line (10 ∷ request.block)))
    (rw (n, ← split, ← size) (drop-append_seam (request.line ++ 10 ∷ []) request.block))
