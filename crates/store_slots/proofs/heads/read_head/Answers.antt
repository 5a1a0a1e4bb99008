use Rattle.std.proofs.Common.{◌≡◌, ◌+◌, ◌<◌, ◌≤◌, ◌^◌, ℕ, List, [], ◌∷◌, length, subst, arith}
use Rattle.std.specs.Int.{to_le_bytes, w32, w64}
use Rattle.store_disk.specs.Files.{HasAt}
use Rattle.store_disk.specs.declared.area.Area.{Area}
use Rattle.store_slots.specs.Bodies.{IsOpenWith}
use Rattle.store_disk.proofs.Bytes.{has_both}
use Rattle.store_slots.proofs.heads.read_head.Goals as goal

-- an open slot from its parts
whole : (slot : Area) (gate g n : ℕ) (file : List ℕ) → gate ≡ 165 → g < 2 ^ 64 → n < 2 ^ 32 → 13 + n ≤ slot.length → slot.base + 13 + n ≤ length file
    → HasAt slot.base (gate ∷ []) file → HasAt (slot.base + 1) (to_le_bytes w64 g) file → HasAt (slot.base + 9) (to_le_bytes w32 n) file → IsOpenWith slot g n file
whole slot gate g n file is_open g_fits n_fits room within has_gate has_g has_n =
    let at : slot.base + 9 ≡ slot.base + 1 + 8 = omega arith in
    record {
      gate = subst (λ (k : ℕ). HasAt slot.base (k ∷ []) file) is_open has_gate;
      head = record {
        head = has_both (slot.base + 1) (to_le_bytes w64 g) (to_le_bytes w32 n) file has_g (subst (λ (k : ℕ). HasAt k (to_le_bytes w32 n) file) at has_n);
        room = room;
        within = within;
        number = g_fits;
        count = n_fits;
      };
    }

pub returns-clause-shows : goal.returns-clause-shows
returns-clause-shows g c = λ file is.
    let after_gate = c.in_ok-read_gate.ensures.reads.still file is in
    let after_generation = c.in_ok-generation.ensures.reads.still file after_gate in
    whole c.args.slot c.in_ok-read_gate.field-0 c.in_ok-generation.generation c.in_ok-len.len file (omega (arith, c.if-branch.false)) (omega arith) (omega arith)
    (omega (arith, c.if-whole-slot.false)) (omega (arith, c.if-whole-behind.false, c.requires.ends file is, c.if-end-place.false))
    (c.in_ok-read_gate.ensures.told file is) (c.in_ok-generation.ensures.told file after_gate) (c.in_ok-len.ensures.told file after_generation)
