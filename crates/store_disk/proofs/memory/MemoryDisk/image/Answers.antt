use Rattle.std.proofs.Common.{◌≡◌, ◌+◌, ◌++◌, ◌∷◌, [], List, ℕ, length, get_or, map, true, false, sym, ◌∙◌, ap, arith}
use Rattle.std.proofs.lemmas.List.FromFn.{length-map-range_with_len}
use Rattle.std.specs.List.{range_with_len}
use Rattle.store_disk.specs.Medium.{is_unsynced}
use Rattle.store_disk.specs.Fill.{filled, left_at}
use Rattle.store_disk.specs.FixedFile.{bytes_of, most_of}
use Rattle.store_disk.specs.Memory.{medium_of}
use Rattle.store_disk.proofs.Filling.{count_synced, count_unsynced, push_synced, push_unsynced}
use Rattle.store_disk.proofs.memory.MemoryDisk.image.Goals as goal
use Rattle.store_disk.proofs.memory.MemoryDisk.image.Goals.{then-is_unsynced, else-is_unsynced}

pub push-requires : goal.push-requires
push-requires c =
    let size = length-map-range_with_len (left_at (medium_of c.args.self.now) c.args.fill) 0 c.loop-place.place in
    omega (arith, ap length c.loop-place.invariant.bytes, size, c.loop-place.invariant.most, c.requires)

pub push-requires-else-is_unsynced : goal.push-requires-else-is_unsynced
push-requires-else-is_unsynced c =
    let size = length-map-range_with_len (left_at (medium_of c.args.self.now) c.args.fill) 0 c.loop-place.place in
    omega (arith, ap length c.loop-place.invariant.bytes, size, c.loop-place.invariant.most, c.requires)

pub loop-place-preserved : goal.loop-place-preserved
loop-place-preserved c =
    let m = medium_of c.args.self.now in
    let fill = c.args.fill in
    let i = c.loop-place.place in
    let so_far = c.loop-place.invariant in
    elim c.if-is_unsynced.branch [
      | then-is_unsynced w ↦
          let un : is_unsynced m i ≡ true = sym c.is_unsynced.ensures ∙ w.if-is_unsynced.true in
          record {
            bytes =
                let here : bytes_of w.push.new.self ≡ map (left_at m fill) (range_with_len 0 i) ++ filled m fill i ∷ [] = w.push.ensures.bytes ∙ cc in
                ap bytes_of w.image-is ∙ here ∙ push_unsynced m fill i un;
            before = w.before-is ∙ ap (λ (n : ℕ). n + 1) so_far.before ∙ sym (count_unsynced m fill i un);
            few = omega (arith, w.before-is, so_far.few);
            most = ap most_of w.image-is ∙ w.push.ensures.most ∙ so_far.most;
          }
      | else-is_unsynced w ↦
          let synced : is_unsynced m i ≡ false = sym c.is_unsynced.ensures ∙ w.if-is_unsynced.false in
          record {
            bytes =
                let stable : w.byte.result ≡ get_or m.synced i 0 = w.byte.ensures ∙ ap (λ (l : List ℕ). get_or l i 0) (sym c.args.self.now.shows.synced_is) in
                let here : bytes_of w.push-else-is_unsynced.new.self ≡ map (left_at m fill) (range_with_len 0 i) ++ get_or m.synced i 0 ∷ [] = w.push-else-is_unsynced.ensures.bytes ∙ cc in
                ap bytes_of w.image-is ∙ here ∙ push_synced m fill i synced;
            before = w.before-is ∙ so_far.before ∙ sym (count_synced m fill i synced);
            few = omega (arith, w.before-is, so_far.few);
            most = ap most_of w.image-is ∙ w.push-else-is_unsynced.ensures.most ∙ so_far.most;
          }
    ]
