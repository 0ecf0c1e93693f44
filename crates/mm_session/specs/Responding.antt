-- What a responder does with the next bytes of a stream.
use Rattle.std.specs.Prelude.{◌≡◌, ◌≢◌, ℕ, List, [], ◌∷◌, ◌++◌, Option, MatchOption, is_some, if◌then◌else◌}
use Rattle.plain_streams.specs.Requests.{Request, Asks}
use Rattle.plain_streams.specs.Division.{IsUnbroken, IsWhole, request_bytes, request_of}
use Rattle.plain_streams.specs.Runs.{Answers}
use Rattle.mm_catalog.specs.Seen.{database_of}
use Rattle.mm_session.specs.Buffers.{kept_of}
use Rattle.mm_session.specs.Kept.{Keeps, KeepsLine, KeepsRequest, nothing}
use Rattle.mm_session.specs.declared.stream.pending_block.PendingBlock.{PendingBlock}
use Rattle.mm_session.specs.declared.stream.kept.KeptInput.{KeptInput}
use Rattle.mm_session.specs.declared.stream.responder.Responder.{Responder}

-- That answers the request, from the tables before to those after.
abbrev pub Responds : Responder → Responder → Request → Type 0
Responds old new request =
    Answers old.executor.tables.catalog.limits (database_of old.executor.tables.catalog) request new.answer (database_of new.executor.tables.catalog)

-- ---- which rest there may be

-- a rest of which the responder keeps what it does
abbrev pub IsRest : Responder → List ℕ → Type 0
IsRest r rest = Keeps r.executor.tables.catalog.limits rest r.kept

-- a rest that ends in a block of which that is kept
abbrev pub IsRestWith : Responder → PendingBlock → List ℕ → Type 0
IsRestWith r block rest = KeepsRequest r.executor.tables.catalog.limits rest r.kept.line block

-- the line that is kept, with its line feed; it asks for a block of this many bytes
abbrev pub IsLoadLine : Responder → ℕ → List ℕ → Type 0
IsLoadLine r length rest =
    (line : List ℕ) × (rest ≡ line ++ 10 ∷ []) × IsUnbroken line × Asks line length × (r.kept.line ≡ kept_of line)

-- a line with its line feed, of which the front is kept and that is the end
abbrev pub IsLineWith : Responder → List ℕ → List ℕ → Type 0
IsLineWith r tail rest = (front : List ℕ) × KeepsLine front r.kept.line × (rest ≡ front ++ (tail ++ 10 ∷ []))

-- ---- what becomes of it

-- The bytes complete no request. Whichever rest there was, with them it is the rest; and nothing was done.
abbrev pub GoesOn : (List ℕ → Type 0) → Responder → Responder → List ℕ → Type 0
GoesOn before old new bytes =
    (database_of new.executor.tables.catalog ≡ database_of old.executor.tables.catalog)
    × ((rest : List ℕ) → before rest → Keeps old.executor.tables.catalog.limits (rest ++ bytes) new.kept)

-- The bytes complete a request, and nothing is kept. Whichever rest there was, with them it is one whole request, which is
-- answered so.
abbrev pub Completes : (List ℕ → Type 0) → Responder → Responder → List ℕ → Type 0
Completes before old new bytes =
    (new.kept ≡ nothing)
    × ((rest : List ℕ) → before rest
    → (request : Request) × IsWhole request × (rest ++ bytes ≡ request_bytes request) × Responds old new request)

-- The bytes complete no request; or a front of them does, and the others are given.
abbrev pub Takes : (List ℕ → Type 0) → Responder → Responder → List ℕ → Option (List ℕ) → Type 0
Takes before old new bytes others =
    MatchOption others (GoesOn before old new bytes)
    (λ behind. (front : List ℕ) × (bytes ≡ front ++ behind) × Completes before old new front)

-- one where a block has begun, and else none
abbrev pub waits : KeptInput → ℕ
waits kept = if is_some kept.block then 1 else 0

-- The stream has ended. Whichever rest there was, if it isn't empty it is the last request, which is answered so.
abbrev pub Ends : Responder → Responder → Type 0
Ends old new = (rest : List ℕ) → IsRest old rest → rest ≢ [] → Responds old new (request_of rest)
