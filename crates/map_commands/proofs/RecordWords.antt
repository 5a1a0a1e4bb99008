-- Each record's words: what they are like, that none has a fault, and the record back from them.
use Rattle.std.proofs.Common.{◌≡◌, ℕ, List, [], ◌∷◌, sym, arith, pos, negsuc, lit≤}
use Rattle.lump_records.specs.declared.records.Line.{Line}
use Rattle.lump_records.specs.declared.records.Sector.{Sector}
use Rattle.lump_records.specs.declared.records.Side.{Side}
use Rattle.lump_records.specs.declared.records.Thing.{Thing}
use Rattle.lump_records.specs.declared.records.Vertex.{Vertex}
use Rattle.lump_records.specs.Names.{name_of}
use Rattle.map_tables.specs.Ranges.{IsLine, IsSector, IsSide, IsThing, IsVertex}
use Rattle.map_commands.specs.declared.command.RoomPlan.{RoomPlan}
use Rattle.map_commands.specs.Step.{IsPlan}
use Rattle.map_commands.specs.Places.{line_places, room_places, sector_places, side_places, thing_places, vertex_places}
use Rattle.map_commands.specs.Spelling.{line_words, sector_words, side_words, thing_words, vertex_words}
use Rattle.map_commands.specs.Rooms.{room_words}
use Rattle.map_words.specs.Words.{numeral_value}
use Rattle.lump_records.proofs.DrawingLemmas.{drawable_x, drawable_y}
use Rattle.map_commands.proofs.Accepted.{AllFit, all-read, item-ok, left-ok, name-ok, next, number-ok}
use Rattle.map_words.proofs.NumeralWords.{value-back}
use Rattle.map_commands.proofs.Wordings.{AreTexts, decimal-text, name-is-text, signed-text}
use Rattle.map_commands.proofs.SixteenBits.{coordinate-fits, short-fits, code-fits, light-fits, angle-fits}
use Rattle.map_commands.proofs.NumbersBack.{natural_of, natural-back, left_of, left-back, left-text}

pub vertex-texts : (v : Vertex) → IsVertex v → AreTexts (vertex_words v)
vertex-texts v h = (
  signed-text v.x (coordinate-fits v.x (drawable_x v h)),
  (
    signed-text v.y (coordinate-fits v.y (drawable_y v h)),
    tt,
  ),
)

pub vertex-ok : (v : Vertex) → IsVertex v → AllFit vertex_places (vertex_words v)
vertex-ok v h =
    next _ _ _ _ (number-ok (negsuc 16383) (pos 16383) v.x (coordinate-fits v.x (drawable_x v h)) (drawable_x v h))
    (next _ _ _ _ (number-ok (negsuc 16383) (pos 16383) v.y (coordinate-fits v.y (drawable_y v h)) (drawable_y v h))
    all-read)

abbrev pub vertex_of : List (List ℕ) → Vertex
vertex_of (w0 ∷ w1 ∷ ws) = record { x = numeral_value w0; y = numeral_value w1 }
vertex_of _ = record { x = pos 0; y = pos 0 }

pub vertex-back : (v : Vertex) → IsVertex v → vertex_of (vertex_words v) ≡ v
vertex-back v h = λ i. record { x = value-back v.x (coordinate-fits v.x (drawable_x v h)) i; y = value-back v.y (coordinate-fits v.y (drawable_y v h)) i }

pub sector-texts : (s : Sector) → IsSector s → AreTexts (sector_words s)
sector-texts s h = (
  signed-text s.floor (short-fits s.floor h.floor),
  (
    signed-text s.ceiling (short-fits s.ceiling h.ceiling),
    (
      name-is-text s.floor_name h.floor_name,
      (
        name-is-text s.ceiling_name h.ceiling_name,
        (
          signed-text s.light (light-fits s.light h.light),
          (
            signed-text s.special (code-fits s.special h.special),
            (
              signed-text s.tag (code-fits s.tag h.tag),
              tt,
            ),
          ),
        ),
      ),
    ),
  ),
)

pub sector-ok : (s : Sector) → IsSector s → AllFit sector_places (sector_words s)
sector-ok s h =
    next _ _ _ _ (number-ok (negsuc 32767) (pos 32767) s.floor (short-fits s.floor h.floor) h.floor)
    (next _ _ _ _ (number-ok (negsuc 32767) (pos 32767) s.ceiling (short-fits s.ceiling h.ceiling) h.ceiling)
    (next _ _ _ _ (name-ok s.floor_name h.floor_name)
    (next _ _ _ _ (name-ok s.ceiling_name h.ceiling_name)
    (next _ _ _ _ (number-ok (pos 0) (pos 255) s.light (light-fits s.light h.light) h.light)
    (next _ _ _ _ (number-ok (pos 0) (pos 32767) s.special (code-fits s.special h.special) h.special)
    (next _ _ _ _ (number-ok (pos 0) (pos 32767) s.tag (code-fits s.tag h.tag) h.tag)
    all-read))))))

abbrev pub sector_of : List (List ℕ) → Sector
sector_of (w0 ∷ w1 ∷ w2 ∷ w3 ∷ w4 ∷ w5 ∷ w6 ∷ ws) =
    record {
      floor = numeral_value w0;
      ceiling = numeral_value w1;
      floor_name = name_of w2;
      ceiling_name = name_of w3;
      light = numeral_value w4;
      special = numeral_value w5;
      tag = numeral_value w6;
    }
sector_of _ = record { floor = pos 0; ceiling = pos 0; floor_name = name_of []; ceiling_name = name_of []; light = pos 0; special = pos 0; tag = pos 0 }

pub sector-back : (s : Sector) → IsSector s → sector_of (sector_words s) ≡ s
sector-back s h =
    λ i. record {
      floor = value-back s.floor (short-fits s.floor h.floor) i;
      ceiling =
          value-back s.ceiling (short-fits s.ceiling h.ceiling) i;
      floor_name = sym h.floor_name.padded i;
      ceiling_name =
          sym h.ceiling_name.padded i;
      light = value-back s.light (light-fits s.light h.light) i;
      special =
          value-back s.special (code-fits s.special h.special) i;
      tag = value-back s.tag (code-fits s.tag h.tag) i;
    }

pub side-texts : (s : Side) → IsSide s → AreTexts (side_words s)
side-texts s h = (
  signed-text s.x_offset (short-fits s.x_offset h.x_offset),
  (
    signed-text s.y_offset (short-fits s.y_offset h.y_offset),
    (
      name-is-text s.upper h.upper,
      (
        name-is-text s.lower h.lower,
        (
          name-is-text s.middle h.middle,
          (
            let b = h.sector in decimal-text s.sector (omega arith),
            tt,
          ),
        ),
      ),
    ),
  ),
)

pub side-ok : (s : Side) → IsSide s → AllFit side_places (side_words s)
side-ok s h =
    next _ _ _ _ (number-ok (negsuc 32767) (pos 32767) s.x_offset (short-fits s.x_offset h.x_offset) h.x_offset)
    (next _ _ _ _ (number-ok (negsuc 32767) (pos 32767) s.y_offset (short-fits s.y_offset h.y_offset) h.y_offset)
    (next _ _ _ _ (name-ok s.upper h.upper)
    (next _ _ _ _ (name-ok s.lower h.lower)
    (next _ _ _ _ (name-ok s.middle h.middle)
    (next _ _ _ _ (item-ok s.sector 4095 h.sector (lit≤ tt))
    all-read)))))

abbrev pub side_of : List (List ℕ) → Side
side_of (w0 ∷ w1 ∷ w2 ∷ w3 ∷ w4 ∷ w5 ∷ ws) = record { x_offset = numeral_value w0; y_offset = numeral_value w1; upper = name_of w2; lower = name_of w3; middle = name_of w4; sector = natural_of w5 }
side_of _ = record { x_offset = pos 0; y_offset = pos 0; upper = name_of []; lower = name_of []; middle = name_of []; sector = 0 }

pub side-back : (s : Side) → IsSide s → side_of (side_words s) ≡ s
side-back s h = λ i. record {
  x_offset = value-back s.x_offset (short-fits s.x_offset h.x_offset) i;
  y_offset =
      value-back s.y_offset (short-fits s.y_offset h.y_offset) i;
  upper = sym h.upper.padded i;
  lower =
      sym h.lower.padded i;
  middle = sym h.middle.padded i;
  sector =
      natural-back s.sector (let b = h.sector in omega arith) i;
}

pub line-texts : (l : Line) → IsLine l → AreTexts (line_words l)
line-texts l h = (
  let b = h.v1 in decimal-text l.v1 (omega arith),
  (
    let b = h.v2 in decimal-text l.v2 (omega arith),
    (
      let b = h.flags in decimal-text l.flags (omega arith),
      (
        let b = h.special in decimal-text l.special (omega arith),
        (
          let b = h.tag in decimal-text l.tag (omega arith),
          (
            let b = h.right in decimal-text l.right (omega arith),
            (
              left-text l.left h.left,
              tt,
            ),
          ),
        ),
      ),
    ),
  ),
)

pub line-ok : (l : Line) → IsLine l → AllFit line_places (line_words l)
line-ok l h =
    next _ _ _ _ (item-ok l.v1 32766 h.v1 (lit≤ tt))
    (next _ _ _ _ (item-ok l.v2 32766 h.v2 (lit≤ tt))
    (next _ _ _ _ (item-ok l.flags 32767 h.flags (lit≤ tt))
    (next _ _ _ _ (item-ok l.special 32767 h.special (lit≤ tt))
    (next _ _ _ _ (item-ok l.tag 32767 h.tag (lit≤ tt))
    (next _ _ _ _ (item-ok l.right 32766 h.right (lit≤ tt))
    (next _ _ _ _ (left-ok l.left h.left)
    all-read))))))

abbrev pub line_of : List (List ℕ) → Line
line_of (w0 ∷ w1 ∷ w2 ∷ w3 ∷ w4 ∷ w5 ∷ w6 ∷ ws) =
    record {
      v1 = natural_of w0;
      v2 = natural_of w1;
      flags = natural_of w2;
      special = natural_of w3;
      tag =
          natural_of w4;
      right = natural_of w5;
      left = left_of w6;
    }
line_of _ = record { v1 = 0; v2 = 0; flags = 0; special = 0; tag = 0; right = 0; left = 0 }

pub line-back : (l : Line) → IsLine l → line_of (line_words l) ≡ l
line-back l h = λ i. record {
  v1 = natural-back l.v1 (let b = h.v1 in omega arith) i;
  v2 =
      natural-back l.v2 (let b = h.v2 in omega arith) i;
  flags = natural-back l.flags h.flags i;
  special =
      natural-back l.special h.special i;
  tag = natural-back l.tag h.tag i;
  right =
      natural-back l.right (let b = h.right in omega arith) i;
  left = left-back l.left h.left i;
}

pub thing-texts : (t : Thing) → IsThing t → AreTexts (thing_words t)
thing-texts t h = (
  signed-text t.x (coordinate-fits t.x h.x),
  (
    signed-text t.y (coordinate-fits t.y h.y),
    (
      signed-text t.angle (angle-fits t.angle h.angle),
      (
        signed-text t.kind (code-fits t.kind h.kind),
        (
          signed-text t.options (code-fits t.options h.options),
          tt,
        ),
      ),
    ),
  ),
)

pub thing-ok : (t : Thing) → IsThing t → AllFit thing_places (thing_words t)
thing-ok t h =
    next _ _ _ _ (number-ok (negsuc 16383) (pos 16383) t.x (coordinate-fits t.x h.x) h.x)
    (next _ _ _ _ (number-ok (negsuc 16383) (pos 16383) t.y (coordinate-fits t.y h.y) h.y)
    (next _ _ _ _ (number-ok (pos 0) (pos 359) t.angle (angle-fits t.angle h.angle) h.angle)
    (next _ _ _ _ (number-ok (pos 0) (pos 32767) t.kind (code-fits t.kind h.kind) h.kind)
    (next _ _ _ _ (number-ok (pos 0) (pos 32767) t.options (code-fits t.options h.options) h.options)
    all-read))))

abbrev pub thing_of : List (List ℕ) → Thing
thing_of (w0 ∷ w1 ∷ w2 ∷ w3 ∷ w4 ∷ ws) = record { x = numeral_value w0; y = numeral_value w1; angle = numeral_value w2; kind = numeral_value w3; options = numeral_value w4 }
thing_of _ = record { x = pos 0; y = pos 0; angle = pos 0; kind = pos 0; options = pos 0 }

pub thing-back : (t : Thing) → IsThing t → thing_of (thing_words t) ≡ t
thing-back t h = λ i. record {
  x = value-back t.x (coordinate-fits t.x h.x) i;
  y =
      value-back t.y (coordinate-fits t.y h.y) i;
  angle = value-back t.angle (angle-fits t.angle h.angle) i;
  kind =
      value-back t.kind (code-fits t.kind h.kind) i;
  options = value-back t.options (code-fits t.options h.options) i;
}

pub room-texts : (r : RoomPlan) → IsPlan r → AreTexts (room_words r)
room-texts r h = (
  signed-text r.west (coordinate-fits r.west h.west),
  (
    signed-text r.south (coordinate-fits r.south h.south),
    (
      signed-text r.east (coordinate-fits r.east h.east),
      (
        signed-text r.north (coordinate-fits r.north h.north),
        (
          signed-text r.floor (short-fits r.floor h.floor),
          (
            signed-text r.ceiling (short-fits r.ceiling h.ceiling),
            (
              name-is-text r.floor_name h.floor_name,
              (
                name-is-text r.ceiling_name h.ceiling_name,
                (
                  name-is-text r.wall h.wall,
                  (
                    signed-text r.light (light-fits r.light h.light),
                    tt,
                  ),
                ),
              ),
            ),
          ),
        ),
      ),
    ),
  ),
)

pub room-ok : (r : RoomPlan) → IsPlan r → AllFit room_places (room_words r)
room-ok r h =
    next _ _ _ _ (number-ok (negsuc 16383) (pos 16383) r.west (coordinate-fits r.west h.west) h.west)
    (next _ _ _ _ (number-ok (negsuc 16383) (pos 16383) r.south (coordinate-fits r.south h.south) h.south)
    (next _ _ _ _ (number-ok (negsuc 16383) (pos 16383) r.east (coordinate-fits r.east h.east) h.east)
    (next _ _ _ _ (number-ok (negsuc 16383) (pos 16383) r.north (coordinate-fits r.north h.north) h.north)
    (next _ _ _ _ (number-ok (negsuc 32767) (pos 32767) r.floor (short-fits r.floor h.floor) h.floor)
    (next _ _ _ _ (number-ok (negsuc 32767) (pos 32767) r.ceiling (short-fits r.ceiling h.ceiling) h.ceiling)
    (next _ _ _ _ (name-ok r.floor_name h.floor_name)
    (next _ _ _ _ (name-ok r.ceiling_name h.ceiling_name)
    (next _ _ _ _ (name-ok r.wall h.wall)
    (next _ _ _ _ (number-ok (pos 0) (pos 255) r.light (light-fits r.light h.light) h.light)
    all-read)))))))))

abbrev pub room_of : List (List ℕ) → RoomPlan
room_of (w0 ∷ w1 ∷ w2 ∷ w3 ∷ w4 ∷ w5 ∷ w6 ∷ w7 ∷ w8 ∷ w9 ∷ ws) =
    record {
      west = numeral_value w0;
      south = numeral_value w1;
      east = numeral_value w2;
      north = numeral_value w3;
      floor = numeral_value w4;
      ceiling = numeral_value w5;
      floor_name = name_of w6;
      ceiling_name = name_of w7;
      wall =
          name_of w8;
      light = numeral_value w9;
    }
room_of _ = record { west = pos 0; south = pos 0; east = pos 0; north = pos 0; floor = pos 0; ceiling = pos 0; floor_name = name_of []; ceiling_name = name_of []; wall = name_of []; light = pos 0 }

pub room-back : (r : RoomPlan) → IsPlan r → room_of (room_words r) ≡ r
room-back r h = λ i. record {
  west = value-back r.west (coordinate-fits r.west h.west) i;
  south =
      value-back r.south (coordinate-fits r.south h.south) i;
  east = value-back r.east (coordinate-fits r.east h.east) i;
  north = value-back r.north (coordinate-fits r.north h.north) i;
  floor =
      value-back r.floor (short-fits r.floor h.floor) i;
  ceiling =
      value-back r.ceiling (short-fits r.ceiling h.ceiling) i;
  floor_name = sym h.floor_name.padded i;
  ceiling_name =
      sym h.ceiling_name.padded i;
  wall = sym h.wall.padded i;
  light = value-back r.light (light-fits r.light h.light) i;
}
