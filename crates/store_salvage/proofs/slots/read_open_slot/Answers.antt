use Rattle.std.proofs.Common.{◌≡◌, ◌+◌, ◌<◌, ◌≤◌, ◌^◌, ℕ, List, [], ◌∷◌, length, sym, subst, arith}
use Rattle.std.specs.Int.{to_le_bytes, w32, w64}
use Rattle.store_disk.specs.Files.{HasAt}
use Rattle.store_disk.specs.declared.area.Area.{Area}
use Rattle.store_disk.proofs.Bytes.{has_both}
use Rattle.store_slots.specs.Bodies.{IsOpen}
use Rattle.store_salvage.proofs.slots.read_open_slot.Goals as goal

-- an open slot from its parts
whole : (slot : Area) (g n : ℕ) (body file : List ℕ) → length body ≡ n → g < 2 ^ 64 → n < 2 ^ 32 → 13 + n ≤ slot.length
    → HasAt slot.base (165 ∷ []) file → HasAt (slot.base + 1) (to_le_bytes w64 g) file → HasAt (slot.base + 9) (to_le_bytes w32 n) file
    → HasAt (slot.base + 13) body file → IsOpen slot g body file
whole slot g n body file is_long g_fits n_fits room has_gate has_g has_n has_body =
    let at : slot.base + 9 ≡ slot.base + 1 + 8 = omega arith in
    let len : HasAt (slot.base + 9) (to_le_bytes w32 (length body)) file = subst (λ (k : ℕ). HasAt (slot.base + 9) (to_le_bytes w32 k) file) (sym is_long) has_n in
    record {
      gate = has_gate;
      content = record {
        head = record {
          head = has_both (slot.base + 1) (to_le_bytes w64 g) (to_le_bytes w32 (length body)) file has_g (subst (λ (k : ℕ). HasAt k (to_le_bytes w32 (length body)) file) at len);
          room = omega (arith, room, is_long);
          within = has_body.within;
          number = g_fits;
          count = omega (arith, n_fits, is_long);
        };
        stands = has_body;
      };
    }

pub returns-clause-is_open : goal.returns-clause-is_open
returns-clause-is_open c =
    whole c.args.slot c.generation_at-generation.result c.length_at-len.result c.part-body.result.now c.args.file.now c.part-body.ensures.len (omega arith) (omega arith)
    (omega (arith, c.if-whole-slot.false)) c.requires c.generation_at-generation.ensures c.length_at-len.ensures c.part-body.ensures.has
