-- How text that comes from a file or an argument is shown to a person.
use Rattle.std.specs.Prelude.{ℕ, ◌*◌, ◌-◌, ◌==◌, ◌&&◌, ◌++◌, ◌∷◌, Bool, List, [], codes, drop, flat_map, if◌then◌else◌, length, map, nat_le, take}
use Rattle.std.specs.List.{slice_split}

-- a byte as it is shown: `?` where it is neither a visible character nor a space
abbrev pub shown_byte : ℕ → ℕ
shown_byte byte = if nat_le 32 byte && nat_le byte 126 then byte else 63

-- bytes as they are shown, all of them
abbrev pub shown_whole : List ℕ → List ℕ
shown_whole text = map shown_byte text

-- the first and the last bytes of a text, so many of each, with ` .. ` between
abbrev pub shown_ends : ℕ → List ℕ → List ℕ
shown_ends half text =
    shown_whole (take half text) ++ codes " .. " ++ shown_whole (drop (length text - half) text)

-- a text of at most twice so many bytes whole, and of a longer one the ends
abbrev pub shown_within : ℕ → List ℕ → List ℕ
shown_within half text =
    if nat_le (length text) (2 * half) then shown_whole text else shown_ends half text

-- a name or a path as it is shown: 120 bytes whole, and of a longer one 60 at each end
unfoldable pub shown_text : List ℕ → List ℕ
shown_text text = shown_within 60 text

-- a line as it is shown, with its end: 240 bytes whole, and of a longer one 120 at each end; an
-- empty one is left out
abbrev pub shown_line : List ℕ → List ℕ
shown_line line = if length line == 0 then [] else shown_within 120 line ++ 10 ∷ []

-- the byte is LF
abbrev pub is_line_feed : ℕ → Bool
is_line_feed b = b == 10

-- the lines of a text as they are shown
unfoldable pub shown_lines : List ℕ → List ℕ
shown_lines text = flat_map shown_line (slice_split is_line_feed text)
