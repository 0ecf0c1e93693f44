-- Division: the one way in which a stream of bytes is requests.
use Rattle.std.specs.Prelude.{◌≡◌, ℕ, ◌<◌, ◌+◌, ◌==◌, List, [], ◌∷◌, ◌++◌, Bool, true, false, length, take, drop}
use Rattle.std.specs.List.{flat_map, AllByRecursion, Contains, position_or_len}
use Rattle.plain_streams.specs.Requests.{Request, Asks, Takes}

-- Bytes with no line feed among them: a line, or the front of one.
abbrev pub IsUnbroken : List ℕ → Type 0
IsUnbroken bytes = ¬ (Contains bytes 10)

-- the bytes of a request: its line with a line feed, and its block
abbrev pub request_bytes : Request → List ℕ
request_bytes request = request.line ++ 10 ∷ request.block

-- A line, and behind it as many bytes as it takes.
pub record IsWhole (request : Request) : Type 0 where
  pub line : IsUnbroken request.line
  pub block : Takes request.line (length request.block)

-- What has not come to its end: the front of a line, or a line and the front of the block that it asks for.
pub data IsUnfinished (rest : List ℕ) : Type 0 where
  in_line : IsUnbroken rest → IsUnfinished rest
  in_block : (request : Request) (n : ℕ) → IsUnbroken request.line → Asks request.line n → length request.block < n
      → rest ≡ request_bytes request → IsUnfinished rest

-- The stream is these requests, each whole, and then a rest that has not come to its end yet.
pub record Divides (stream : List ℕ) (requests : List Request) (rest : List ℕ) : Type 0 where
  pub whole : stream ≡ flat_map request_bytes requests ++ rest
  pub each : AllByRecursion IsWhole requests
  pub unfinished : IsUnfinished rest

-- the request that begins with these bytes: the line before the first line feed, and what stands behind that
abbrev pub request_of : List ℕ → Request
request_of bytes = let n = position_or_len (λ b. b == 10) bytes in record { line = take n bytes; block = drop (n + 1) bytes }

-- Once the stream is finished a rest that isn't empty is its last request.
abbrev pub last_request : Bool → List ℕ → List Request
last_request false rest = []
last_request true [] = []
last_request true (b ∷ rest) = request_of (b ∷ rest) ∷ []

-- ---- laws

-- every stream divides
abbrev pub EveryStreamDivides : Type 0
EveryStreamDivides = (stream : List ℕ) → (requests : List Request) × (rest : List ℕ) × Divides stream requests rest

-- the requests of a stream are the first requests of the stream however it goes on
abbrev pub RequestsStayFirst : Type 0
RequestsStayFirst =
    (stream more : List ℕ) (requests : List Request) (rest : List ℕ) (all : List Request) (last : List ℕ)
    → Divides stream requests rest → Divides (stream ++ more) all last → (others : List Request) × (all ≡ requests ++ others)

-- a stream divides in one way
abbrev pub DividesInOneWay : Type 0
DividesInOneWay =
    (stream : List ℕ) (requests : List Request) (rest : List ℕ) (others : List Request) (last : List ℕ)
    → Divides stream requests rest → Divides stream others last → (requests ≡ others) × (rest ≡ last)
