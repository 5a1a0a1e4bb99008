-- Boxes of the plane.
use Rattle.std.specs.Int.{int_max, int_min}
use Rattle.lump_records.specs.declared.records.Bounds.{Bounds}

-- the least box round two boxes
abbrev pub box_round : Bounds → Bounds → Bounds
box_round a b =
    record {
      top = int_max a.top b.top;
      bottom = int_min a.bottom b.bottom;
      left = int_min a.left b.left;
      right = int_max a.right b.right;
    }
