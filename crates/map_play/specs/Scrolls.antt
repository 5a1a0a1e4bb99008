-- Walls that scroll. The engine has room for 64 of them (MAXLINEANIMS), and overwrites what lies behind with more.
use Rattle.std.specs.Prelude.{ℕ, Bool, false, ◌==◌, List, length, filter, slice_get}
use Rattle.std.specs.List.{range_with_len}
use Rattle.std.specs.Option.{option_map_or}
use Rattle.map_tables.specs.Tables.{Tables}
use Rattle.map_play.specs.Specials.{scrolls, has_special}

-- there is a line n, and it scrolls
abbrev pub scrolls_at : Tables → ℕ → Bool
scrolls_at m n = option_map_or (has_special scrolls) (slice_get m.lines n) false

-- the numbers of the lines that scroll
abbrev pub scrolling : Tables → List ℕ
scrolling m = filter (scrolls_at m) (range_with_len 0 (length m.lines))

-- line n is the 65th that scrolls
abbrev pub is_scroll_too_many : Tables → ℕ → Bool
is_scroll_too_many m n = option_map_or (λ k. k == n) (slice_get (scrolling m) 64) false
