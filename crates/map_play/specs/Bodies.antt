-- How wide and high the solid things of Doom are, and which of them move, as the table of things of the engine has it
-- (`mobjinfo`, info.c). A solid thing has MF_SOLID there, and one that moves has a speed, or is a player. The speed of
-- a monster is how far it steps at a time.
use Rattle.std.specs.Prelude.{Bool, true, false, ◌&&◌, Option, List, [], ◌∷◌, find, pos, int_le}
use Rattle.lump_records.specs.declared.records.Thing.{Thing}
use Rattle.map_play.specs.declared.bodies.Body.{Body}

-- the solid things, from the first type to the last: players at their starts and monsters, then what stays where it is
abbrev pub bodies : List Body
bodies =
    (record { first = pos 1; last = pos 4; radius = 16; height = 56; moves = true; step = 0 })
    ∷ (record { first = pos 7; last = pos 7; radius = 128; height = 100; moves = true; step = 12 })
    ∷ (record { first = pos 9; last = pos 9; radius = 20; height = 56; moves = true; step = 8 })
    ∷ (record { first = pos 11; last = pos 11; radius = 16; height = 56; moves = true; step = 0 })
    ∷ (record { first = pos 16; last = pos 16; radius = 40; height = 110; moves = true; step = 16 })
    ∷ (record { first = pos 58; last = pos 58; radius = 30; height = 56; moves = true; step = 10 })
    ∷ (record { first = pos 64; last = pos 64; radius = 20; height = 56; moves = true; step = 15 })
    ∷ (record { first = pos 65; last = pos 65; radius = 20; height = 56; moves = true; step = 8 })
    ∷ (record { first = pos 66; last = pos 66; radius = 20; height = 56; moves = true; step = 10 })
    ∷ (record { first = pos 67; last = pos 67; radius = 48; height = 64; moves = true; step = 8 })
    ∷ (record { first = pos 68; last = pos 68; radius = 64; height = 64; moves = true; step = 12 })
    ∷ (record { first = pos 69; last = pos 69; radius = 24; height = 64; moves = true; step = 8 })
    ∷ (record { first = pos 71; last = pos 71; radius = 31; height = 56; moves = true; step = 8 })
    ∷ (record { first = pos 84; last = pos 84; radius = 20; height = 56; moves = true; step = 8 })
    ∷ (record {
      first = pos 3001;
      last = pos 3001;
      radius = 20;
      height = 56;
      moves = true;
      step = 8;
    })
    ∷ (record {
      first = pos 3002;
      last = pos 3002;
      radius = 30;
      height = 56;
      moves = true;
      step = 10;
    })
    ∷ (record {
      first = pos 3003;
      last = pos 3003;
      radius = 24;
      height = 64;
      moves = true;
      step = 8;
    })
    ∷ (record {
      first = pos 3004;
      last = pos 3004;
      radius = 20;
      height = 56;
      moves = true;
      step = 8;
    })
    ∷ (record {
      first = pos 3005;
      last = pos 3005;
      radius = 31;
      height = 56;
      moves = true;
      step = 8;
    })
    ∷ (record {
      first = pos 3006;
      last = pos 3006;
      radius = 16;
      height = 56;
      moves = true;
      step = 8;
    })
    ∷ (record { first = pos 25; last = pos 33; radius = 16; height = 16; moves = false; step = 0 })
    ∷ (record { first = pos 35; last = pos 37; radius = 16; height = 16; moves = false; step = 0 })
    ∷ (record { first = pos 41; last = pos 48; radius = 16; height = 16; moves = false; step = 0 })
    ∷ (record { first = pos 49; last = pos 49; radius = 16; height = 68; moves = false; step = 0 })
    ∷ (record { first = pos 50; last = pos 51; radius = 16; height = 84; moves = false; step = 0 })
    ∷ (record { first = pos 52; last = pos 52; radius = 16; height = 68; moves = false; step = 0 })
    ∷ (record { first = pos 53; last = pos 53; radius = 16; height = 52; moves = false; step = 0 })
    ∷ (record { first = pos 54; last = pos 54; radius = 32; height = 16; moves = false; step = 0 })
    ∷ (record { first = pos 55; last = pos 57; radius = 16; height = 16; moves = false; step = 0 })
    ∷ (record { first = pos 70; last = pos 70; radius = 16; height = 16; moves = false; step = 0 })
    ∷ (record { first = pos 72; last = pos 72; radius = 16; height = 72; moves = false; step = 0 })
    ∷ (record { first = pos 73; last = pos 74; radius = 16; height = 88; moves = false; step = 0 })
    ∷ (record { first = pos 75; last = pos 78; radius = 16; height = 64; moves = false; step = 0 })
    ∷ (record { first = pos 85; last = pos 86; radius = 16; height = 16; moves = false; step = 0 })
    ∷ (record { first = pos 88; last = pos 88; radius = 16; height = 16; moves = false; step = 0 })
    ∷ (record {
      first = pos 2028;
      last = pos 2028;
      radius = 16;
      height = 16;
      moves = false;
      step = 0;
    })
    ∷ (record {
      first = pos 2035;
      last = pos 2035;
      radius = 10;
      height = 42;
      moves = false;
      step = 0;
    })
    ∷ []

-- the thing's type is one of these
abbrev pub is_body_of : Thing → Body → Bool
is_body_of t b = int_le b.first t.kind && int_le t.kind b.last

-- what the table says of a thing: nothing if it isn't solid
abbrev pub body_of : Thing → Option Body
body_of t = find (is_body_of t) bodies
