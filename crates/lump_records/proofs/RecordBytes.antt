-- Encoding a record and decoding its bytes are inverse.
use Rattle.std.proofs.Common.{◌≡◌, ℕ, ◌+◌, ◌≤◌, ◌<◌, ◌^◌, List, [], ◌++◌, length, get_or, take, drop, refl, sym, ◌∙◌, ap, arith, FitsSigned, append_assoc}
use Rattle.std.specs.Int.{w16}
use Rattle.lump_records.proofs.FieldBytes.{unsigned-back, signed-back, signed-then, unsigned-part, signed-part, after, next, name-here, unsigned-here, signed-here, whole}
use Rattle.lump_records.specs.declared.records.Thing.{Thing}
use Rattle.lump_records.specs.declared.records.Line.{Line}
use Rattle.lump_records.specs.declared.records.Seg.{Seg}
use Rattle.lump_records.specs.declared.records.Sub.{Sub}
use Rattle.lump_records.specs.declared.records.Side.{Side}
use Rattle.lump_records.specs.declared.records.Vertex.{Vertex}
use Rattle.lump_records.specs.declared.records.Sector.{Sector}
use Rattle.lump_records.specs.declared.records.Node.{Node}
use Rattle.lump_records.specs.Fields.{unsigned, signed}
use Rattle.lump_records.specs.Records.{vertex_record, vertex_at, thing_record, thing_at, line_record, line_at, seg_record, seg_at, sub_record, sub_at, side_record, side_at, sector_record, sector_at, node_record, node_at, bounds_record, bounds_at}

-- the bytes of the box at i
bounds-part : (i : ℕ) (bs : List ℕ) → ((k : ℕ) → get_or bs k 0 < 256) → i + 8 ≤ length bs → bounds_record (bounds_at i bs) ≡ take 8 (drop i bs)
bounds-part i bs fits le =
    let last : drop (i + 8) bs ≡ drop (i + 6 + 2) bs = ap (λ m. drop m bs) (omega arith) in
    let three = signed-then (i + 4) bs _ fits (omega arith) (signed-then (i + 6) bs _ fits (omega arith) last ∙ ap (λ m. drop m bs) (omega arith)) in
    ap (take 8) (signed-then i bs _ fits (omega arith) (signed-then (i + 2) bs _ fits (omega arith) (three ∙ ap (λ m. drop m bs) (omega arith))))

-- parts put together from the left are those put together from the right
nested_4 : (a b c d : List ℕ) → ((a ++ b) ++ c) ++ d ≡ a ++ (b ++ (c ++ d))
nested_4 a b c d = simp append_assoc

nested_5 : (a b c d e : List ℕ) → (((a ++ b) ++ c) ++ d) ++ e ≡ a ++ (b ++ (c ++ (d ++ e)))
nested_5 a b c d e = simp append_assoc

-- ---- for each record: the bytes of a decoded record, and what its bytes decode to
pub vertex_record-at : (bs : List ℕ) → ((k : ℕ) → get_or bs k 0 < 256) → length bs ≡ 4 → vertex_record (vertex_at bs) ≡ bs
vertex_record-at bs fits size =
    after 2 2 bs _ _ (after 0 2 bs [] _ refl (signed-part 0 bs fits (omega arith))) (signed-part 2 bs fits (omega arith))
    ∙ sym (whole 4 bs size)

pub vertex_at-record : (v : Vertex) → FitsSigned w16 v.x → FitsSigned w16 v.y → vertex_at (vertex_record v) ≡ v
vertex_at-record v f0 f1 =
    λ i. record { x = signed-back v.x f0 i; y = signed-back v.y f1 i }

pub thing_record-at : (bs : List ℕ) → ((k : ℕ) → get_or bs k 0 < 256) → length bs ≡ 10 → thing_record (thing_at bs) ≡ bs
thing_record-at bs fits size =
    after 8 2 bs _ _ (after 6 2 bs _ _ (after 4 2 bs _ _
    (after 2 2 bs _ _ (after 0 2 bs [] _ refl (signed-part 0 bs fits (omega arith)))
    (signed-part 2 bs fits (omega arith))) (signed-part 4 bs fits (omega arith)))
    (signed-part 6 bs fits (omega arith))) (signed-part 8 bs fits (omega arith))
    ∙ sym (whole 10 bs size)

pub thing_at-record : (t : Thing) → FitsSigned w16 t.x → FitsSigned w16 t.y → FitsSigned w16 t.angle → FitsSigned w16 t.kind → FitsSigned w16 t.options → thing_at (thing_record t) ≡ t
thing_at-record t f0 f1 f2 f3 f4 =
    λ i. record { x = signed-back t.x f0 i; y = signed-back t.y f1 i; angle = signed-back t.angle f2 i; kind = signed-back t.kind f3 i; options = signed-back t.options f4 i }

pub side_record-at : (bs : List ℕ) → ((k : ℕ) → get_or bs k 0 < 256) → length bs ≡ 30 → side_record (side_at bs) ≡ bs
side_record-at bs fits size =
    after 28 2 bs _ _ (after 20 8 bs _ _ (after 12 8 bs _ _
    (after 4 8 bs _ _ (after 2 2 bs _ _ (after 0 2 bs [] _ refl (signed-part 0 bs fits (omega arith)))
    (signed-part 2 bs fits (omega arith))) refl) refl) refl) (unsigned-part 28 bs fits (omega arith))
    ∙ sym (whole 30 bs size)

pub side_at-record : (s : Side) → FitsSigned w16 s.x_offset → FitsSigned w16 s.y_offset → length s.upper.bytes ≡ 8
    → length s.lower.bytes ≡ 8 → length s.middle.bytes ≡ 8 → s.sector < 2 ^ 16 → side_at (side_record s) ≡ s
side_at-record s f0 f1 f2 f3 f4 f5 =
    let at4 : drop 4 (side_record s) ≡ s.upper.bytes ++ (s.lower.bytes ++ (s.middle.bytes ++ (unsigned s.sector ++ []))) = nested_4 s.upper.bytes s.lower.bytes s.middle.bytes (unsigned s.sector) in
    let at12 : drop 12 (side_record s) ≡ s.lower.bytes ++ (s.middle.bytes ++ (unsigned s.sector ++ [])) =
    next 4 8 (side_record s) (s.upper.bytes) (s.lower.bytes
    ++ (s.middle.bytes ++ (unsigned s.sector ++ []))) at4 f2 in
    let at20 : drop 20 (side_record s) ≡ s.middle.bytes ++ (unsigned s.sector ++ []) = next 12 8 (side_record s) (s.lower.bytes) (s.middle.bytes ++ (unsigned s.sector ++ [])) at12 f3 in
    let at28 : drop 28 (side_record s) ≡ unsigned s.sector ++ [] = next 20 8 (side_record s) (s.middle.bytes) (unsigned s.sector ++ []) at20 f4 in
    λ i. record {
      x_offset = signed-back s.x_offset f0 i;
      y_offset = signed-back s.y_offset f1 i;
      upper =
          record {
            bytes = name-here 4 (side_record s) s.upper.bytes
                (s.lower.bytes ++ (s.middle.bytes ++ (unsigned s.sector ++ []))) at4 f2 i;
          };
      lower =
          record {
            bytes = name-here 12 (side_record s) s.lower.bytes
                (s.middle.bytes ++ (unsigned s.sector ++ [])) at12 f3 i;
          };
      middle =
          record { bytes = name-here 20 (side_record s) s.middle.bytes (unsigned s.sector ++ []) at20 f4 i };
      sector =
          unsigned-here 28 (side_record s) s.sector ([]) at28 f5 i;
    }

pub sector_record-at : (bs : List ℕ) → ((k : ℕ) → get_or bs k 0 < 256) → length bs ≡ 26 → sector_record (sector_at bs) ≡ bs
sector_record-at bs fits size =
    after 24 2 bs _ _ (after 22 2 bs _ _ (after 20 2 bs _ _
    (after 12 8 bs _ _ (after 4 8 bs _ _ (after 2 2 bs _ _
    (after 0 2 bs [] _ refl (signed-part 0 bs fits (omega arith)))
    (signed-part 2 bs fits (omega arith))) refl) refl) (signed-part 20 bs fits (omega arith)))
    (signed-part 22 bs fits (omega arith))) (signed-part 24 bs fits (omega arith))
    ∙ sym (whole 26 bs size)

pub sector_at-record : (s : Sector) → FitsSigned w16 s.floor → FitsSigned w16 s.ceiling → length s.floor_name.bytes ≡ 8
    → length s.ceiling_name.bytes ≡ 8 → FitsSigned w16 s.light → FitsSigned w16 s.special → FitsSigned w16 s.tag
    → sector_at (sector_record s) ≡ s
sector_at-record s f0 f1 f2 f3 f4 f5 f6 =
    let at4 : drop 4 (sector_record s) ≡ s.floor_name.bytes
    ++ (s.ceiling_name.bytes ++ (signed s.light ++ (signed s.special ++ (signed s.tag ++ [])))) =
    nested_5 s.floor_name.bytes s.ceiling_name.bytes (signed s.light) (signed s.special) (signed s.tag) in
    let at12 : drop 12 (sector_record s) ≡ s.ceiling_name.bytes
    ++ (signed s.light ++ (signed s.special ++ (signed s.tag ++ []))) =
    next 4 8 (sector_record s) (s.floor_name.bytes)
    (s.ceiling_name.bytes ++ (signed s.light ++ (signed s.special ++ (signed s.tag ++ [])))) at4 f2 in
    let at20 : drop 20 (sector_record s) ≡ signed s.light ++ (signed s.special ++ (signed s.tag ++ [])) =
    next 12 8 (sector_record s) (s.ceiling_name.bytes)
    (signed s.light ++ (signed s.special ++ (signed s.tag ++ []))) at12 f3 in
    let at22 : drop 22 (sector_record s) ≡ signed s.special ++ (signed s.tag ++ []) = next 20 2 (sector_record s) (signed s.light) (signed s.special ++ (signed s.tag ++ [])) at20 refl in
    let at24 : drop 24 (sector_record s) ≡ signed s.tag ++ [] = next 22 2 (sector_record s) (signed s.special) (signed s.tag ++ []) at22 refl in
    λ i. record {
      floor = signed-back s.floor f0 i;
      ceiling = signed-back s.ceiling f1 i;
      floor_name =
          record {
            bytes = name-here 4 (sector_record s) s.floor_name.bytes
                (s.ceiling_name.bytes ++ (signed s.light ++ (signed s.special ++ (signed s.tag ++ [])))) at4 f2 i;
          };
      ceiling_name = record {
        bytes =
            name-here 12 (sector_record s) s.ceiling_name.bytes
            (signed s.light ++ (signed s.special ++ (signed s.tag ++ []))) at12 f3 i;
      };
      light =
          signed-here 20 (sector_record s) s.light (signed s.special ++ (signed s.tag ++ [])) at20 f4 i;
      special =
          signed-here 22 (sector_record s) s.special (signed s.tag ++ []) at22 f5 i;
      tag =
          signed-here 24 (sector_record s) s.tag ([]) at24 f6 i;
    }

pub node_record-at : (bs : List ℕ) → ((k : ℕ) → get_or bs k 0 < 256) → length bs ≡ 28 → node_record (node_at bs) ≡ bs
node_record-at bs fits size =
    after 26 2 bs _ _ (after 24 2 bs _ _ (after 16 8 bs _ _
    (after 8 8 bs _ _ (after 6 2 bs _ _ (after 4 2 bs _ _
    (after 2 2 bs _ _ (after 0 2 bs [] _ refl (signed-part 0 bs fits (omega arith)))
    (signed-part 2 bs fits (omega arith))) (signed-part 4 bs fits (omega arith)))
    (signed-part 6 bs fits (omega arith))) (bounds-part 8 bs fits (omega arith)))
    (bounds-part 16 bs fits (omega arith))) (unsigned-part 24 bs fits (omega arith)))
    (unsigned-part 26 bs fits (omega arith))
    ∙ sym (whole 28 bs size)

pub node_at-record : (n : Node) → FitsSigned w16 n.x → FitsSigned w16 n.y → FitsSigned w16 n.dx → FitsSigned w16 n.dy
    → FitsSigned w16 n.right_box.top → FitsSigned w16 n.right_box.bottom → FitsSigned w16 n.right_box.left
    → FitsSigned w16 n.right_box.right → FitsSigned w16 n.left_box.top → FitsSigned w16 n.left_box.bottom
    → FitsSigned w16 n.left_box.left → FitsSigned w16 n.left_box.right → n.right < 2 ^ 16 → n.left < 2 ^ 16
    → node_at (node_record n) ≡ n
node_at-record n f0 f1 f2 f3 f4 f5 f6 f7 f8 f9 f10 f11 f12 f13 =
    λ i. record {
      x = signed-back n.x f0 i;
      y = signed-back n.y f1 i;
      dx = signed-back n.dx f2 i;
      dy =
          signed-back n.dy f3 i;
      right_box =
          record {
            top = signed-back n.right_box.top f4 i;
            bottom = signed-back n.right_box.bottom f5 i;
            left =
                signed-back n.right_box.left f6 i;
            right = signed-back n.right_box.right f7 i;
          };
      left_box =
          record {
            top = signed-back n.left_box.top f8 i;
            bottom = signed-back n.left_box.bottom f9 i;
            left =
                signed-back n.left_box.left f10 i;
            right = signed-back n.left_box.right f11 i;
          };
      right =
          unsigned-back n.right f12 i;
      left = unsigned-back n.left f13 i;
    }

pub line_record-at : (bs : List ℕ) → ((k : ℕ) → get_or bs k 0 < 256) → length bs ≡ 14 → line_record (line_at bs) ≡ bs
line_record-at bs fits size =
    after 12 2 bs _ _ (after 10 2 bs _ _ (after 8 2 bs _ _
    (after 6 2 bs _ _ (after 4 2 bs _ _ (after 2 2 bs _ _
    (after 0 2 bs [] _ refl (unsigned-part 0 bs fits (omega arith))) (unsigned-part 2 bs fits (omega arith)))
    (unsigned-part 4 bs fits (omega arith))) (unsigned-part 6 bs fits (omega arith)))
    (unsigned-part 8 bs fits (omega arith))) (unsigned-part 10 bs fits (omega arith)))
    (unsigned-part 12 bs fits (omega arith))
    ∙ sym (whole 14 bs size)

pub line_at-record : (l : Line) → l.v1 < 2 ^ 16 → l.v2 < 2 ^ 16 → l.flags < 2 ^ 16 → l.special < 2 ^ 16 → l.tag < 2 ^ 16 → l.right < 2 ^ 16 → l.left < 2 ^ 16 → line_at (line_record l) ≡ l
line_at-record l f0 f1 f2 f3 f4 f5 f6 =
    λ i. record {
      v1 = unsigned-back l.v1 f0 i;
      v2 = unsigned-back l.v2 f1 i;
      flags = unsigned-back l.flags f2 i;
      special = unsigned-back l.special f3 i;
      tag = unsigned-back l.tag f4 i;
      right = unsigned-back l.right f5 i;
      left = unsigned-back l.left f6 i;
    }

pub seg_record-at : (bs : List ℕ) → ((k : ℕ) → get_or bs k 0 < 256) → length bs ≡ 12 → seg_record (seg_at bs) ≡ bs
seg_record-at bs fits size =
    after 10 2 bs _ _ (after 8 2 bs _ _ (after 6 2 bs _ _
    (after 4 2 bs _ _ (after 2 2 bs _ _ (after 0 2 bs [] _ refl (unsigned-part 0 bs fits (omega arith)))
    (unsigned-part 2 bs fits (omega arith))) (unsigned-part 4 bs fits (omega arith)))
    (unsigned-part 6 bs fits (omega arith))) (unsigned-part 8 bs fits (omega arith)))
    (unsigned-part 10 bs fits (omega arith))
    ∙ sym (whole 12 bs size)

pub seg_at-record : (s : Seg) → s.first < 2 ^ 16 → s.second < 2 ^ 16 → s.angle < 2 ^ 16 → s.line < 2 ^ 16 → s.side < 2 ^ 16 → s.offset < 2 ^ 16 → seg_at (seg_record s) ≡ s
seg_at-record s f0 f1 f2 f3 f4 f5 =
    λ i. record {
      first = unsigned-back s.first f0 i;
      second = unsigned-back s.second f1 i;
      angle =
          unsigned-back s.angle f2 i;
      line = unsigned-back s.line f3 i;
      side = unsigned-back s.side f4 i;
      offset =
          unsigned-back s.offset f5 i;
    }

pub sub_record-at : (bs : List ℕ) → ((k : ℕ) → get_or bs k 0 < 256) → length bs ≡ 4 → sub_record (sub_at bs) ≡ bs
sub_record-at bs fits size =
    after 2 2 bs _ _ (after 0 2 bs [] _ refl (unsigned-part 0 bs fits (omega arith))) (unsigned-part 2 bs fits (omega arith))
    ∙ sym (whole 4 bs size)

pub sub_at-record : (s : Sub) → s.count < 2 ^ 16 → s.first < 2 ^ 16 → sub_at (sub_record s) ≡ s
sub_at-record s f0 f1 =
    λ i. record { count = unsigned-back s.count f0 i; first = unsigned-back s.first f1 i }
