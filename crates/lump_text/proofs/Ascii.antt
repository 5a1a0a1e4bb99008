-- What is shown of a name is text: its bytes are ASCII.
use Rattle.std.proofs.Common.{ℕ, ◌<◌, ◌-◌, Bool, true, false, if◌then◌else◌, nat_le, List, [], ◌∷◌, ◌++◌, codes, drop, length, take, arith}
use Rattle.std.specs.Str.{IsAscii, IsUtf8}
use Rattle.std.proofs.lemmas.Str.{IsAscii-append, IsUtf8-from_ascii}
use Rattle.std.proofs.lemmas.Str.Ascii.{IsAscii-cons, IsAscii-nil}
use Rattle.lump_text.specs.Shown.{shown_byte, shown_ends, shown_text, shown_whole}

shown_byte_small : (b : ℕ) → shown_byte b < 128
shown_byte_small b = grind arith

whole_is_ascii : (text : List ℕ) → IsAscii (shown_whole text)
whole_is_ascii [] = IsAscii-nil
whole_is_ascii (b ∷ bs) = IsAscii-cons (shown_byte b) (shown_whole bs) (shown_byte_small b) (whole_is_ascii bs)

gap_is_ascii : IsAscii (codes " .. ")
gap_is_ascii =
    IsAscii-cons 32 (46 ∷ 46 ∷ 32 ∷ []) (omega arith) (IsAscii-cons 46 (46 ∷ 32 ∷ []) (omega arith)
    (IsAscii-cons 46 (32 ∷ []) (omega arith) (IsAscii-cons 32 [] (omega arith) IsAscii-nil)))

ends_are_ascii : (half : ℕ) (text : List ℕ) → IsAscii (shown_ends half text)
ends_are_ascii half text =
    IsAscii-append (shown_whole (take half text) ++ codes " .. ") (shown_whole (drop (length text - half) text))
    (IsAscii-append (shown_whole (take half text)) (codes " .. ") (whole_is_ascii (take half text)) gap_is_ascii)
    (whole_is_ascii (drop (length text - half) text))

-- whether it is whole or not
either_is_ascii : (half : ℕ) (whole : Bool) (text : List ℕ) → IsAscii (if whole then shown_whole text else shown_ends half text)
either_is_ascii half true text = whole_is_ascii text
either_is_ascii half false text = ends_are_ascii half text

pub shown_text_utf8 : (text : List ℕ) → IsUtf8 (shown_text text)
unfolding shown_text
shown_text_utf8 text = IsUtf8-from_ascii (shown_text text) (either_is_ascii 60 (nat_le (length text) 120) text)
