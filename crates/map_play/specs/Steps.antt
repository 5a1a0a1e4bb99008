-- The steps of a monster. Once awake it moves by its speed at a time, in one of eight directions (`P_Move`, p_enemy.c).
use Rattle.std.specs.Prelude.{ℕ, ◌*◌, ◌/◌, List, [], ◌∷◌, ℤ, pos, neg_ℤ, ◌+ℤ◌}
use Rattle.std.specs.Int.{int_min, int_max}
use Rattle.lump_records.specs.declared.records.Thing.{Thing}
use Rattle.map_play.specs.declared.bodies.Body.{Body}

-- how far a slanting step leads along each axis, in whole units: 47000 of 65536 of a straight one (`xspeed`)
abbrev pub slant : Body → ℕ
slant b = b.step * 47000 / 65536

-- how far the eight steps lead to the east and to the north
abbrev pub steps : Body → List (ℤ × ℤ)
steps b =
    let s = pos b.step in
    let d = pos (slant b) in
    (s, pos 0) ∷ (d, d) ∷ (pos 0, s) ∷ (neg_ℤ d, d)
    ∷ (neg_ℤ s, pos 0) ∷ (neg_ℤ d, neg_ℤ d) ∷ (pos 0, neg_ℤ s) ∷ (d, neg_ℤ d) ∷ []

-- the coordinate so much further on, or the last one
unfoldable pub further : ℤ → ℤ → ℤ
further at by = int_max (neg_ℤ (pos 16384)) (int_min (at +ℤ by) (pos 16383))

-- the thing so far away from its place
abbrev pub moved : Thing → ℤ × ℤ → Thing
moved t step = record {
  x = further t.x step.0;
  y = further t.y step.1;
  angle = t.angle;
  kind = t.kind;
  options = t.options;
}
