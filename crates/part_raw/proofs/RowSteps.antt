-- The rows of a partition's places, as those of one slot change.
use Rattle.std.proofs.Common.{◌≡◌, ℕ, ◌+◌, ◌*◌, ◌<◌, List, length, get_or, set, Option, Some, None, is_some, sym, ap, subst}
use Rattle.part_raw.specs.Rows.{rows_in, put_run, clear_run, IsLaid}
use Rattle.part_raw.proofs.Rows.{put-changes, clear-changes, exchange-changes, rows-changed, laid-changed, slot_within}

pub rows-cleared : {T : Type 0} (width : ℕ) (places : List (Option T)) (slot : ℕ) → 0 < width → slot < 256 → IsLaid width places
    → IsLaid width (clear_run places (slot * width) width) × (rows_in width (clear_run places (slot * width) width) ≡ set (rows_in width places) slot None)
rows-cleared width places slot wide in_range laid =
    let c = clear-changes width slot places wide in_range laid in (laid-changed width slot places _ None in_range laid c, rows-changed width slot places _ None in_range laid c)

pub rows-exchanged : {T : Type 0} (width : ℕ) (places : List (Option T)) (slot column : ℕ) (cells : List T) (x : T) → column < width → IsLaid width places → get_or (rows_in width places) slot None ≡ Some cells
    → IsLaid width (set (set places (slot * width + column) None) (slot * width + column) (Some x))
    × (rows_in width (set (set places (slot * width + column) None) (slot * width + column) (Some x)) ≡ set (rows_in width places) slot (Some (set cells column x)))
rows-exchanged width places slot column cells x small laid held =
    let in_range = slot_within width slot places (ap is_some held) in
    let c = exchange-changes width slot column places cells x in_range small laid held in (laid-changed width slot places _ _ in_range laid c, rows-changed width slot places _ _ in_range laid c)

pub rows-put : {T : Type 0} (places : List (Option T)) (slot : ℕ) (cells : List T) → slot < 256 → IsLaid (length cells) places
    → IsLaid (length cells) (put_run places (slot * length cells) cells) × (rows_in (length cells) (put_run places (slot * length cells) cells) ≡ set (rows_in (length cells) places) slot (Some cells))
rows-put places slot cells in_range laid =
    let c = put-changes slot places cells in_range laid in (laid-changed (length cells) slot places _ _ in_range laid c, rows-changed (length cells) slot places _ _ in_range laid c)

pub rows-put_wide : {T : Type 0} (width : ℕ) (places : List (Option T)) (slot : ℕ) (cells : List T) → length cells ≡ width → slot < 256 → IsLaid width places
    → IsLaid width (put_run places (slot * width) cells) × (rows_in width (put_run places (slot * width) cells) ≡ set (rows_in width places) slot (Some cells))
rows-put_wide width places slot cells wide in_range laid =
    subst (λ (n : ℕ). IsLaid n (put_run places (slot * n) cells) × (rows_in n (put_run places (slot * n) cells) ≡ set (rows_in n places) slot (Some cells))) wide
    (rows-put places slot cells in_range (subst (λ (n : ℕ). IsLaid n places) (sym wide) laid))
