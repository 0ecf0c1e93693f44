-- What is kept of the rest of a stream that is not a whole request yet.
use Rattle.std.specs.Prelude.{◌≡◌, ℕ, ◌+◌, ◌-◌, ◌<◌, ◌≤◌, List, [], ◌++◌, length, None, MatchOption, Bool, true, false, not, is_some, ◌&&◌}
use Rattle.plain_tables.specs.declared.command.Limits.{Limits}
use Rattle.plain_streams.specs.Requests.{Request, Asks}
use Rattle.plain_streams.specs.Division.{IsUnbroken, request_bytes}
use Rattle.mm_session.specs.Buffers.{KeptLine, PartOfLine, kept_of, is_start}
use Rattle.mm_session.specs.declared.stream.pending_block.Unkept.{Unkept}
use Rattle.mm_session.specs.declared.stream.pending_block.Unkept.TheVariants.{TooLong, NoMemory}
use Rattle.mm_session.specs.declared.stream.pending_block.PendingBlock.{PendingBlock}
use Rattle.mm_session.specs.declared.stream.pending_block.PendingBlock.TheVariants.{Storing, Counting}
use Rattle.mm_session.specs.declared.stream.kept.KeptInput.{KeptInput}

-- how many bytes of a block are to come
abbrev pub to_come : PendingBlock → ℕ
to_come (Storing part) = part.to_come
to_come (Counting n why) = n

-- a block once more of its bytes have come
abbrev pub with_bytes : PendingBlock → List ℕ → PendingBlock
with_bytes (Storing part) more = Storing (record { bytes = part.bytes ++ more; to_come = part.to_come - length more })
with_bytes (Counting n why) more = Counting (n - length more) why

-- whether a block passes the limit
abbrev pub is_too_long : PendingBlock → Bool
is_too_long (Storing part) = false
is_too_long (Counting n TooLong) = true
is_too_long (Counting n NoMemory) = false

-- why a block of n bytes is not kept: it passes the limit; or it doesn't, and no memory was found for it
abbrev pub IsUnkept : ℕ → ℕ → Unkept → Type 0
IsUnkept limit n TooLong = limit < n
IsUnkept limit n NoMemory = n ≤ limit

-- This is kept of a block of n bytes, of which these have come: they, if it is within the limit; or only how many are to come.
abbrev pub KeepsBlock : ℕ → ℕ → List ℕ → PendingBlock → Type 0
KeepsBlock limit n bytes (Storing part) = (n ≤ limit) × (part.bytes ≡ bytes) × (length bytes + part.to_come ≡ n)
KeepsBlock limit n bytes (Counting to_come why) = IsUnkept limit n why × (length bytes + to_come ≡ n)

-- The rest is the front of a line.
abbrev pub KeepsLine : List ℕ → KeptLine → Type 0
KeepsLine rest line = IsUnbroken rest × (line ≡ kept_of rest)

-- The rest is a line and the front of the block that it asks for, and not all of it.
pub record KeepsRequest (limits : Limits) (rest : List ℕ) (line : KeptLine) (block : PendingBlock) : Type 0 where
  pub request : Request
  pub asked : ℕ
  pub bytes : rest ≡ request_bytes request
  pub unbroken : IsUnbroken request.line
  pub asks : Asks request.line asked
  pub cut : length request.block < asked
  pub keeps_line : line ≡ kept_of request.line
  pub keeps_block : KeepsBlock limits.block asked request.block block

-- This is kept of the rest of a stream.
abbrev pub Keeps : Limits → List ℕ → KeptInput → Type 0
Keeps limits rest kept = MatchOption kept.block (KeepsLine rest kept.line) (KeepsRequest limits rest kept.line)

-- nothing has come of a request
abbrev pub nothing : KeptInput
nothing = record { line = PartOfLine []; block = None }

-- whether nothing has come of a request
abbrev pub is_nothing : KeptInput → Bool
is_nothing kept = not (is_some kept.block) && is_start kept.line
