-- What is kept of a rest once more bytes have come, and when the rest is a whole request.
use Rattle.std.proofs.Common.{◌≡◌, ◌≢◌, ℕ, ◌<◌, ◌≤◌, ◌+◌, true, false, List, [], ◌∷◌, ◌++◌, length, Option, Some, None, refl, sym, ap, ◌∙◌, subst, arith, append_assoc, length-append}
use Rattle.std.specs.Prelude.{MatchOption, is_some, not, ◌&&◌}
use Rattle.plain_tables.specs.declared.command.Limits.{Limits}
use Rattle.plain_streams.specs.Requests.{Request, Asks, asked}
use Rattle.plain_streams.specs.Division.{IsUnbroken, IsWhole, IsUnfinished, in_line, in_block, request_bytes}
use Rattle.plain_streams.proofs.Asking.{IsUnbroken-nil}
use Rattle.plain_streams.proofs.Division.{IsUnbroken-append}
use Rattle.mm_session.specs.Buffers.{KeptLine, PartOfLine, kept_of, grown, is_start}
use Rattle.mm_session.specs.declared.stream.pending_block.PendingBlock.{PendingBlock}
use Rattle.mm_session.specs.declared.stream.pending_block.PendingBlock.TheVariants.{Storing, Counting}
use Rattle.mm_session.specs.declared.stream.pending_block.Unkept.TheVariants.{TooLong, NoMemory}
use Rattle.mm_session.specs.declared.stream.kept.KeptInput.{KeptInput}
use Rattle.mm_session.specs.Kept.{Keeps, KeepsLine, KeepsRequest, KeepsBlock, to_come, with_bytes, is_too_long, nothing, is_nothing}
use Rattle.mm_session.proofs.Lines.{grown-kept_of, start}

-- ---- a line

pub keeps_line-grown : (rest more : List ℕ) (line : KeptLine) → IsUnbroken more → KeepsLine rest line → KeepsLine (rest ++ more) (grown line more)
keeps_line-grown rest more line unbroken (before, is) =
    (IsUnbroken-append rest more before unbroken, ap (λ k. grown k more) is ∙ grown-kept_of rest more)

-- a line and the block that it asks for
pub whole-asked : (request : Request) → IsUnbroken request.line → Asks request.line (length request.block) → IsWhole request
whole-asked request unbroken asks = record { line = unbroken; block = asked (length request.block) asks }

-- ---- a block

pub keeps_block-more : (limit n : ℕ) (bytes more : List ℕ) (block : PendingBlock) → length more ≤ to_come block → KeepsBlock limit n bytes block
    → KeepsBlock limit n (bytes ++ more) (with_bytes block more)
keeps_block-more limit n bytes more (Storing part) room (within, is, size) =
    (within, ap (λ b. b ++ more) is, omega (arith, length-append bytes more))
keeps_block-more limit n bytes more (Counting k why) room (because, size) = (because, omega (arith, length-append bytes more))

pub keeps_block-size : (limit n : ℕ) (bytes : List ℕ) (block : PendingBlock) → KeepsBlock limit n bytes block → length bytes + to_come block ≡ n
keeps_block-size limit n bytes (Storing part) (within, is, size) = size
keeps_block-size limit n bytes (Counting k why) (because, size) = size

pub keeps_block-long : (limit n : ℕ) (bytes : List ℕ) (block : PendingBlock) → is_too_long block ≡ true → KeepsBlock limit n bytes block → limit < n
keeps_block-long limit n bytes (Storing part) long keeps = cc
keeps_block-long limit n bytes (Counting k TooLong) long keeps = keeps.0
keeps_block-long limit n bytes (Counting k NoMemory) long keeps = cc

pub keeps_block-within : (limit n : ℕ) (bytes : List ℕ) (block : PendingBlock) → is_too_long block ≡ false → KeepsBlock limit n bytes block → n ≤ limit
keeps_block-within limit n bytes (Storing part) short keeps = keeps.0
keeps_block-within limit n bytes (Counting k TooLong) short keeps = cc
keeps_block-within limit n bytes (Counting k NoMemory) short keeps = keeps.0

module _ (limits : Limits) (rest : List ℕ) (line : KeptLine) (block : PendingBlock) (keeps : KeepsRequest limits rest line block) where
  -- the request once more bytes of its block have come
  longer : List ℕ → Request
  longer more = record { line = keeps.request.line; block = keeps.request.block ++ more }

  longer-bytes : (more : List ℕ) → rest ++ more ≡ request_bytes (longer more)
  unfolding longer
  longer-bytes more = ap (λ r. r ++ more) keeps.bytes ∙ append_assoc keeps.request.line (10 ∷ keeps.request.block) more

  pub keeps_request-more : (more : List ℕ) → length more < to_come block → KeepsRequest limits (rest ++ more) line (with_bytes block more)
  unfolding longer
  keeps_request-more more few =
      let size = keeps_block-size limits.block keeps.asked keeps.request.block block keeps.keeps_block in
      record {
        request = longer more;
        asked = keeps.asked;
        bytes = longer-bytes more;
        unbroken = keeps.unbroken;
        asks = keeps.asks;
        cut = omega (arith, length-append keeps.request.block more);
        keeps_line = keeps.keeps_line;
        keeps_block = keeps_block-more limits.block keeps.asked keeps.request.block more block (omega arith) keeps.keeps_block;
      }

  -- With the last of its bytes the block is whole, and of no more bytes.
  pub request-whole : (last : List ℕ) → length last ≡ to_come block
      → (request : Request) × IsWhole request × (rest ++ last ≡ request_bytes request) × Asks request.line (length request.block)
      × (line ≡ kept_of request.line) × KeepsBlock limits.block (length request.block) request.block (with_bytes block last)
  unfolding longer
  request-whole last all =
      let size = keeps_block-size limits.block keeps.asked keeps.request.block block keeps.keeps_block in
      let whole : keeps.asked ≡ length (keeps.request.block ++ last) = omega (arith, length-append keeps.request.block last) in
      let asks : Asks keeps.request.line (length (keeps.request.block ++ last)) = rw (← whole) keeps.asks in
      let kept : KeepsBlock limits.block keeps.asked (keeps.request.block ++ last) (with_bytes block last) =
      keeps_block-more limits.block keeps.asked keeps.request.block last block (omega arith) keeps.keeps_block in
      (longer last, whole-asked (longer last) keeps.unbroken asks, longer-bytes last, asks, keeps.keeps_line, subst (λ n. KeepsBlock limits.block n (keeps.request.block ++ last) (with_bytes block last)) whole kept)

-- a line that has ended, and a block of which nothing has come
pub keeps_request-begun : (limits : Limits) (rest line : List ℕ) (kept : KeptLine) (block : PendingBlock) (n : ℕ) → rest ≡ line ++ 10 ∷ []
    → IsUnbroken line → Asks line n → 0 < n → kept ≡ kept_of line → KeepsBlock limits.block n [] block → KeepsRequest limits rest kept block
keeps_request-begun limits rest line kept block n is unbroken asks some keeps_line keeps_block = record {
  request = record { line = line; block = [] };
  asked = n;
  bytes = is;
  unbroken = unbroken;
  asks = asks;
  cut = some;
  keeps_line = keeps_line;
  keeps_block = keeps_block;
}

-- ---- what is kept

pub keeps-unfinished : (limits : Limits) (rest : List ℕ) (kept : KeptInput) → Keeps limits rest kept → IsUnfinished rest
keeps-unfinished limits rest kept keeps = by kept.block keeps where
  by : (b : Option PendingBlock) → MatchOption b (KeepsLine rest kept.line) (KeepsRequest limits rest kept.line) → IsUnfinished rest
  by None (unbroken, is) = in_line unbroken
  by (Some block) k = in_block k.request k.asked k.unbroken k.asks k.cut k.bytes

pub nothing-is : (line : KeptLine) (block : Option PendingBlock) → line ≡ PartOfLine [] → block ≡ None → let kept : KeptInput = record { line = line; block = block } in kept ≡ nothing
nothing-is line block lines blocks =
    let of_line : KeptLine → KeptInput = λ l. record { line = l; block = block } in
    let of_block : Option PendingBlock → KeptInput = λ b. record { line = PartOfLine []; block = b } in
    ap of_line lines ∙ ap of_block blocks

-- where no block is waited for the rest is the front of a line
pub keeps-no_block : (limits : Limits) (rest : List ℕ) (kept : KeptInput) → kept.block ≡ None → Keeps limits rest kept → KeepsLine rest kept.line
keeps-no_block limits rest kept none keeps =
    subst (λ (b : Option PendingBlock). MatchOption b (KeepsLine rest kept.line) (KeepsRequest limits rest kept.line)) none keeps

pub keeps-block : (limits : Limits) (rest : List ℕ) (kept : KeptInput) (block : PendingBlock) → kept.block ≡ Some block → Keeps limits rest kept → KeepsRequest limits rest kept.line block
keeps-block limits rest kept block some keeps =
    subst (λ (b : Option PendingBlock). MatchOption b (KeepsLine rest kept.line) (KeepsRequest limits rest kept.line)) some keeps

pub keeps-nothing : (limits : Limits) → Keeps limits [] nothing
keeps-nothing limits = (IsUnbroken-nil, refl)

-- where nothing is kept the rest is empty
pub nothing-kept : (limits : Limits) (rest : List ℕ) (kept : KeptInput) → is_nothing kept ≡ true → Keeps limits rest kept → [] ≡ rest
nothing-kept limits rest kept none keeps = by kept.block none keeps where
  by : (b : Option PendingBlock) → not (is_some b) && is_start kept.line ≡ true → MatchOption b (KeepsLine rest kept.line) (KeepsRequest limits rest kept.line) → [] ≡ rest
  by None none (unbroken, is) = start kept.line rest none is
  by (Some block) none k = cc

-- where something is kept the rest is not empty
pub something-kept : (limits : Limits) (rest : List ℕ) (kept : KeptInput) → is_nothing kept ≡ false → Keeps limits rest kept → rest ≢ []
something-kept limits rest kept some keeps = by kept.block some keeps where
  by : (b : Option PendingBlock) → not (is_some b) && is_start kept.line ≡ false → MatchOption b (KeepsLine rest kept.line) (KeepsRequest limits rest kept.line) → rest ≢ []
  by None some (unbroken, is) none = let yes : true ≡ false = ap is_start (sym (is ∙ ap kept_of none)) ∙ some in cc
  by (Some block) some k none = no_bytes k.request.line k.request.block (sym k.bytes ∙ none)
    where
      no_bytes : (line block : List ℕ) → line ++ 10 ∷ block ≡ [] → ⊥
      no_bytes [] block e = cc
      no_bytes (c ∷ line) block e = cc
