-- A vertex is drawable if both its coordinates are in range.
use Rattle.std.proofs.Common.{arith}
use Rattle.std.proofs.lemmas.Int.{ints}
use Rattle.lump_records.specs.declared.records.Vertex.{Vertex}
use Rattle.lump_records.specs.Drawing.{IsCoordinate, IsDrawable}

pub drawable : (v : Vertex) → IsCoordinate v.x → IsCoordinate v.y → IsDrawable v
drawable v x y = record { x_low = omega (arith, ints, x.at_least); x_high = x.at_most; y_low = omega (arith, ints, y.at_least); y_high = y.at_most }

pub drawable_x : (v : Vertex) → IsDrawable v → IsCoordinate v.x
drawable_x v h = record { at_least = omega (arith, ints, h.x_low); at_most = h.x_high }

pub drawable_y : (v : Vertex) → IsDrawable v → IsCoordinate v.y
drawable_y v h = record { at_least = omega (arith, ints, h.y_low); at_most = h.y_high }
