-- Which numbers of a picture are shown, and where: each at the first of its places where it lies on no other number.
use Rattle.std.specs.Prelude.{◌≡◌, Contains, ℕ, ◌+◌, ◌-◌, ◌*◌, ◌/◌, Bool, false, not, ◌&&◌, ◌==◌, if◌then◌else◌, List, [], ◌∷◌, ◌++◌, length, fold, find, Option, None, Some, decimal, pos, ◌+ℤ◌, ◌-ℤ◌, int_le, int_lt}
use Rattle.std.specs.List.{list_any}
use Rattle.std.specs.Option.{option_map_or}
use Rattle.map_tables.specs.Tables.{Tables}
use Rattle.map_svg.specs.declared.places.Shift.{Shift}
use Rattle.map_svg.specs.declared.places.Spot.{Spot}
use Rattle.map_picture.specs.Labels.{all_labels, number_size}
use Rattle.map_picture.specs.declared.labels.Label.{Label}
use Rattle.map_picture.specs.declared.labels.Numbered.{Numbered}
use Rattle.map_picture.specs.declared.labels.Numbered.TheVariants.{Sector}
use Rattle.map_picture.specs.declared.placing.NumberBox.{NumberBox}
use Rattle.map_picture.specs.declared.placing.Placed.{Placed}
use Rattle.map_picture.specs.declared.placing.Room.{Room}
use Rattle.map_picture.specs.declared.view.View.{View}

-- two boxes have more in common than an edge, from left to right
abbrev pub overlap_across : NumberBox → NumberBox → Bool
overlap_across a b = int_lt a.left b.right && int_lt b.left a.right

-- the same from top to bottom
abbrev pub overlap_down : NumberBox → NumberBox → Bool
overlap_down a b = int_lt a.top b.bottom && int_lt b.top a.bottom

-- two boxes have more in common than an edge
abbrev pub overlaps : NumberBox → NumberBox → Bool
overlaps a b = overlap_across a b && overlap_down a b

-- the first box is within the second one, from left to right
abbrev pub fits_across : NumberBox → NumberBox → Bool
fits_across a b = int_le b.left a.left && int_le a.right b.right

-- the same from top to bottom
abbrev pub fits_down : NumberBox → NumberBox → Bool
fits_down a b = int_le b.top a.top && int_le a.bottom b.bottom

-- the first box lies within the second one
abbrev pub lies_within : NumberBox → NumberBox → Bool
lies_within a b = fits_across a b && fits_down a b

-- Half the width of a number of so many digits, rounded up: a digit is at most 2/3 as wide as its text is high. A
-- sector's number is written half as large again.
abbrev pub half_width : Numbered → ℕ → ℕ → ℕ
half_width Sector size count = (size * count + 1) / 2
half_width _ size count = (size * count + 2) / 3

-- half the height of a number, rounded up
abbrev pub half_height : Numbered → ℕ → ℕ
half_height Sector size = (3 * size + 3) / 4
half_height _ size = (size + 1) / 2

-- the box with half this width and half this height, whose middle is at this vector from a place
abbrev pub number_box : Spot → Shift → ℕ → ℕ → NumberBox
number_box p s width height =
    let x = p.x +ℤ s.dx in
    let y = p.y +ℤ s.dy in
    record {
      left = x -ℤ pos width;
      right = x +ℤ pos width;
      top = y -ℤ pos height;
      bottom = y +ℤ pos height;
    }

-- the box is on the page, and meets neither what is kept free there nor a number that is placed
abbrev pub is_free : Room → List Placed → NumberBox → Bool
is_free room placed b =
    lies_within b room.page && not (option_map_or (overlaps b) room.kept false)
    && not (list_any (λ other. overlaps b other.space) placed)

-- half the width of a number
abbrev pub label_width : ℕ → Label → ℕ
label_width size l = half_width l.item size (length (decimal l.n))

-- the number at a place
abbrev pub placed_at : ℕ → ℕ → Label → Shift → Placed
placed_at width height l s =
    record {
      item = l.item;
      n = l.n;
      place = l.place;
      shift = s;
      space = number_box l.place s width height;
    }

-- the number is one of these, at one of the places beside its item
abbrev pub IsBeside : ℕ → List Label → Placed → Type 0
IsBeside size labels p =
    (l : Label) × Contains labels l × Contains l.shifts p.shift
    × (p ≡ placed_at (label_width size l) (half_height l.item size) l p.shift)

-- the first of a number's places where it is free
abbrev pub first_free : ℕ → Room → List Placed → Label → Option Shift
first_free size room placed l =
    find (λ s. is_free room placed
    (number_box l.place s (label_width size l) (half_height l.item size))) l.shifts

-- the numbers that are placed, and one more at the first of its places where it is free, unless there is none
abbrev pub placed_with : ℕ → Room → List Placed → Label → List Placed
placed_with size room placed l =
    option_map_or
    (λ s. placed ++ placed_at (label_width size l) (half_height l.item size) l s ∷ [])
    (first_free size room placed l) placed

-- the numbers that are placed of these, one after the other
abbrev pub place_all : ℕ → Room → List Label → List Placed
place_all size room labels = fold (placed_with size room) [] labels

-- the box of the page
abbrev pub page_box : View → NumberBox
page_box v =
    record {
      left = v.left;
      right = v.left +ℤ pos v.width;
      top = v.top;
      bottom = v.top +ℤ pos v.height;
    }

-- the box of the note that tells how many numbers are left out, in the page's lower left corner
abbrev pub note_box : View → NumberBox
note_box v =
    let low = v.top +ℤ pos v.height in
    record {
      left = v.left;
      right = v.left +ℤ pos (40 * v.step);
      top = low -ℤ pos (2 * v.step);
      bottom = low;
    }

-- the numbers that are placed: all of them if none has to be left out; otherwise the note's box is kept free
abbrev pub place_fitting : ℕ → View → List Label → List Placed
place_fitting size v labels =
    let all = place_all size (record { page = page_box v; kept = None }) labels in
    if length all == length labels then all
    else place_all size (record { page = page_box v; kept = Some (note_box v) }) labels

-- the numbers that are placed on a page of the map
abbrev pub placed_numbers : Tables → View → List Placed
placed_numbers m v = place_fitting (number_size m v) v (all_labels m v)

-- how many are left out
abbrev pub left_out : Tables → View → ℕ
left_out m v = length (all_labels m v) - length (placed_numbers m v)
