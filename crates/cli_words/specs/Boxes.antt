-- The box of `picture --crop`: X1,Y1,X2,Y2.
use Rattle.std.specs.Prelude.{◌≡◌, ◌≢◌, ℕ, ℤ, Bool, ◌==◌, Option, None, Some, List, true, FitsSigned, codes, string_bytes}
use Rattle.std.specs.Int.{int_max, int_min, w16}
use Rattle.std.specs.List.{after_first, before_first, list_any}
use Rattle.std.specs.Str.Parse.{IsNumeral, signed_digits_value, without_leading_sign}
use Rattle.clap.specs.Words.{Row, Text, first_of}
use Rattle.lump_records.specs.declared.records.Bounds.{Bounds}
use Rattle.lump_records.specs.declared.records.Vertex.{Vertex}
use Rattle.cli_words.specs.declared.asked.RequestError.{RequestError}
use Rattle.cli_words.specs.declared.asked.RequestError.TheVariants.{Memory, NotABox}

-- the text writes the number of 16 bits: digits, after a sign or none
pub record WritesNumber (text : Text) (n : ℤ) : Type 0 where
  pub numeral : IsNumeral 10 (without_leading_sign text)
  pub fits : FitsSigned w16 (signed_digits_value 10 text)
  pub is : n ≡ signed_digits_value 10 text

-- whether the byte is a comma
abbrev pub is_comma : ℕ → Bool
is_comma byte = byte == 44

-- the text writes the number before its first comma, and behind the comma is this
pub record HasFirstNumber (text : Text) (n : ℤ) (behind : Text) : Type 0 where
  pub comma : list_any is_comma text ≡ true
  pub number : WritesNumber (before_first is_comma text) n
  pub is : behind ≡ after_first is_comma text

-- the box with these two corners
abbrev pub box_between : Vertex → Vertex → Bounds
box_between a c =
    record {
      top = int_max a.y c.y;
      bottom = int_min a.y c.y;
      left = int_min a.x c.x;
      right = int_max a.x c.x;
    }

-- the text writes two opposite corners of the box, which isn't empty
pub record WritesBox (text : Text) (b : Bounds) : Type 0 where
  pub a : Vertex
  pub c : Vertex
  pub behind_x1 : Text
  pub behind_y1 : Text
  pub behind_x2 : Text
  pub x1 : HasFirstNumber text a.x behind_x1
  pub y1 : HasFirstNumber behind_x1 a.y behind_y1
  pub x2 : HasFirstNumber behind_y1 c.x behind_x2
  pub y2 : WritesNumber behind_x2 c.y
  pub wide : a.x ≢ c.x
  pub high : a.y ≢ c.y
  pub is : b ≡ box_between a c

-- the text of `--crop` writes the box; without a text there is none
abbrev pub IsCropAsked : Option Text → Option Bounds → Type 0
IsCropAsked (Some text) (Some b) = WritesBox text b
IsCropAsked None None = Unit {0}
IsCropAsked _ _ = ⊥

-- the text writes no box
abbrev pub WritesNoBox : Text → Type 0
WritesNoBox text = (b : Bounds) → ¬ WritesBox text b

-- why the box of `--crop` can't be had: its text writes none, or there is no memory
abbrev pub RefusesCrop : Option Text → RequestError → Type 0
RefusesCrop given (NotABox text) =
    (given ≡ Some (string_bytes text)) × WritesNoBox (string_bytes text)
RefusesCrop given Memory = Unit {0}
RefusesCrop given _ = ⊥

-- `picture` is given a `--crop` of this text, which writes no box
abbrev pub HasNoBox : Text → Text × List Row → Type 0
HasNoBox text asked =
    (asked.0 ≡ codes "picture") × (first_of (codes "crop") asked.1 ≡ Some text) × WritesNoBox text
