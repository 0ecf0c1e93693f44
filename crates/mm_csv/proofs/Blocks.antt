-- Lemmas on a block that grows record by record.
use Rattle.std.proofs.Common.{◌≡◌, ◌+◌, ◌<◌, [], ℕ, List, Option, Some, length, take, get_or, append-nil}
use Rattle.std.proofs.lemmas.List.{flat_map_more, take_more}
use Rattle.std.specs.Io.KnownBytes.{Appends, Keeps}
use Rattle.std.proofs.KnownBytes.{Appends-kept, Appends-nil, Appends-trans}
use Rattle.plain_tables.specs.Csv.{block_text, record_text, row_record}
use Rattle.plain_tables.specs.Tables.{Row}

pub block_begun : (none first : Option (List ℕ)) (names : List (List ℕ)) → Keeps (Some []) none → Appends none first (record_text names)
    → Appends (Some []) first (block_text names [])
block_begun none first names k a =
    let base : Option (List ℕ) = Some [] in
    rw (append-nil (record_text names)) (Appends-trans base none first [] (record_text names) (Appends-kept base base none [] (Appends-nil base) k) a)

pub block_more : (old new : Option (List ℕ)) (names : List (List ℕ)) (rows : List Row) (i : ℕ) (d : Row) → i < length rows
    → Appends (Some []) old (block_text names (take i rows)) → Appends old new (row_record (get_or rows i d))
    → Appends (Some []) new (block_text names (take (i + 1) rows))
block_more old new names rows i d lt a b =
    rw (take_more rows i d lt, ← flat_map_more row_record (record_text names) (take i rows) (get_or rows i d)) (Appends-trans (Some []) old new (block_text names (take i rows)) (row_record (get_or rows i d)) a b)

pub block_done : (last : Option (List ℕ)) (bytes text : List ℕ) → Appends (Some []) last text → Keeps last (Some bytes) → bytes ≡ text
block_done last bytes text a k = Appends-kept (Some []) last (Some bytes) text a k
