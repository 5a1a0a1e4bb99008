-- A room that is flat.
use Rattle.std.proofs.Common.{◌≡◌, ℕ, true, cond, ◌&&◌, List, [], ◌∷◌, refl, ◌∙◌, ap, arith, ℤ, pos, negsuc, Option, Some, None, FitsSigned}
use Rattle.std.specs.Prelude.{◌<ℤ◌, int_lt}
use Rattle.std.specs.Int.{w16}
use Rattle.std.proofs.lemmas.Int.{ints}
use Rattle.lump_records.specs.Drawing.{IsCoordinate}
use Rattle.map_commands.specs.declared.command.RoomPlan.{RoomPlan}
use Rattle.map_commands.specs.Step.{IsPlan, IsRoom}
use Rattle.map_tables.specs.Ranges.{last_of}
use Rattle.map_commands.specs.Rooms.{room_fault, or_else, flat_fault, room_words}
use Rattle.map_commands.specs.Spelling.{kind_of, kind_fault, drop_fault}
use Rattle.map_commands.specs.Places.{Number, places_fault, room_places}
use Rattle.map_words.proofs.NumeralWords.{value-back}
use Rattle.map_tables.specs.declared.kind.Kind.{Kind}

fits : (z : ℤ) → IsCoordinate z → FitsSigned w16 z
fits (pos n) h = let a = h.at_most in record { sfits = omega (arith, ints, a) }
fits (negsuc n) h = let a = h.at_least in record { sfits = omega (arith, ints, a) }

pub room-fault-is : (r : RoomPlan) (ws : List (List ℕ)) → ws ≡ room_words r → IsPlan r → places_fault room_places ws
    ≡ None → room_fault ws ≡ cond (int_lt r.west r.east && int_lt r.south r.north) None (Some 2)
room-fault-is r ws e h f =
    ap (λ x. or_else x (flat_fault ws)) f ∙ ap flat_fault e
    ∙ (λ i. cond {A = Option ℕ} (int_lt (value-back r.west (fits r.west h.west) i) (value-back r.east (fits r.east h.east) i)
    && int_lt (value-back r.south (fits r.south h.south) i) (value-back r.north (fits r.north h.north) i)) None (Some 2))

tells-lt : (a b : ℤ) → a <ℤ b → int_lt a b ≡ true
tells-lt a b h = grind (arith, ints)

-- the words of a room in range have no fault
pub room-fits : (r : RoomPlan) → IsRoom r → places_fault room_places (room_words r) ≡ None → room_fault (room_words r) ≡ None
room-fits r h none =
    let wide = tells-lt r.west r.east h.wide in
    let high = tells-lt r.south r.north h.high in
    room-fault-is r (room_words r) refl h.plan none
    ∙ (λ i. cond {A = Option ℕ} (wide i && high i) None (Some 2))

pub drop-is : (ws us : List (List ℕ)) (w : List ℕ) (k : Kind) → ws ≡ w ∷ us → kind_of w ≡ Some k → drop_fault ws ≡ places_fault (Number (pos 0) (pos (last_of k)) ∷ []) us
drop-is ws us w k e f = ap drop_fault e ∙ ap (λ x. kind_fault x us) f
