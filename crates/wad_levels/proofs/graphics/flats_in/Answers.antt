use Rattle.std.proofs.Common.{◌≡◌, ◌∙◌, ◌++◌, ◌∷◌, [], ap, sym, refl, ◌&&◌, true, false, arith, filter, map, ◌+◌}
use Rattle.std.specs.Prelude.{nat_lt}
use Rattle.std.specs.List.{range_with_len}
use Rattle.std.proofs.lemmas.Bool.Decides.{nat_tests}
use Rattle.std.proofs.lemmas.List.{append-nil}
use Rattle.lump_records.specs.declared.records.Name8.{Name8}
use Rattle.wad_levels.specs.Graphics.{capital_name, flat_name, is_flat}
use Rattle.wad_levels.proofs.GraphicLemmas.{flat_at, listed_more}
use Rattle.wad_levels.proofs.graphics.flats_in.Goals as goal
use Rattle.wad_levels.proofs.graphics.flats_in.Goals.{then-among_flats+then-entry-gt0+in_ok-push, else-among_flats, else-among_flats-via-then-among_flats+else-entry-gt0, else-among_flats-via-else-among_flats}

pub loop-k-preserved : goal.loop-k-preserved
loop-k-preserved c =
    let wad = c.args.wad.now in
    let k = c.loop-k.k in
    let more = listed_more (flat_name wad) (is_flat wad) k c.loop-k.names.items c.loop-k.invariant.0 in
    let e = c.entry-entry.result in
    let at = flat_at wad k c.loop-k.among_flats e c.loop-k.invariant.1 c.entry-entry.ensures in
    let names : c.if-among_flats.names.items ≡ map (flat_name wad) (filter (is_flat wad) (range_with_len 0 (k + 1))) =
    elim c.if-among_flats.branch [
      | then-among_flats+then-entry-gt0+in_ok-push w ↦
          let some : nat_lt 0 e.size ≡ true = grind (arith, nat_tests, w.if-entry-gt0.true) in
          let flat = at true some ∙ ap (λ b. b && true) w.if-among_flats.true in
          rw w.names-is
          (w.in_ok-push.ensures.items
          ∙ ap (λ (n : Name8). c.loop-k.names.items ++ n ∷ []) (w.capital_name.ensures ∙ ap (λ e. capital_name e.name) c.entry-entry.ensures)
          ∙ more true flat)
      | else-among_flats w ↦
          let none : is_flat wad k ≡ false = elim w.else-among_flats.branch [
            | else-among_flats-via-then-among_flats+else-entry-gt0 v ↦
                let empty : nat_lt 0 e.size ≡ false = grind (arith, nat_tests, v.if-entry-gt0.false) in
                at false empty ∙ ap (λ b. b && false) v.if-among_flats.true
            | else-among_flats-via-else-among_flats v ↦
                at (nat_lt 0 e.size) refl ∙ ap (λ b. b && nat_lt 0 e.size) v.if-among_flats.false
          ] in
          rw w.names-is (sym (append-nil c.loop-k.names.items) ∙ more false none)
    ] in
    (names, c.flats_behind-among_flats.ensures)
