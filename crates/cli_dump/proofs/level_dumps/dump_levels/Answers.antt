use Rattle.std.proofs.Common.{◌≡◌, ◌+◌, ◌∙◌, Bool, List, ap, arith, subst, sym, take}
use Rattle.std.specs.Prelude.{All, ◌&&◌}
use Rattle.std.proofs.lemmas.List.{take_all}
use Rattle.wad_levels.specs.declared.entries.LevelEntries.{LevelEntries}
use Rattle.cli_dump.specs.DumpSteps.{KeepsMap}
use Rattle.cli_dump.proofs.LevelDumps.{HasDumped, dumped_all, dumped_lost, dumped_more, dumped_none, maps_fine}
use Rattle.cli_dump.proofs.level_dumps.dump_levels.Goals as goal
use Rattle.cli_dump.proofs.level_dumps.dump_levels.Goals.{then-are_all, else-are_all}

pub loop-level-init : goal.loop-level-init
loop-level-init g c = dumped_none c.args.is_exact c.args.wad.now (g.W.Write.contents c.args.writer.now) (g.E.Write.contents c.args.errors.now)

pub loop-level-preserved : goal.loop-level-preserved
loop-level-preserved g c =
    let one = c.in-Ok.is_dumped in
    let whole : c.if-are_all.are_all ≡ (c.loop-level.are_all && one) = elim c.if-are_all.branch [
      | then-are_all w ↦ w.are_all-is ∙ sym (ap (λ (b : Bool). b && one) w.if-are_all.true)
      | else-are_all w ↦ w.are_all-is ∙ w.if-are_all.false ∙ sym (ap (λ (b : Bool). b && one) w.if-are_all.false)
    ] in
    let wad = c.args.wad.now in
    let ls = c.args.levels.now in
    let n = c.loop-level.level-index in
    let u = g.W.Write.contents c.args.writer.now in
    let w = g.W.Write.contents c.dump_level.new.writer in
    let d = g.E.Write.contents c.args.errors.now in
    let x = g.E.Write.contents c.dump_level.new.errors in
    let more = dumped_more c.args.is_exact wad ls n _ c.loop-level.are_all one u (g.W.Write.contents c.loop-level.writer) w d (g.E.Write.contents c.loop-level.errors) x
    c.loop-level-test.true c.loop-level.invariant c.in-Ok.ensures.dumped c.in-Ok.ensures.map in
    subst (λ (all : Bool). HasDumped c.args.is_exact wad (take (n + 1) ls) all u w d x) (sym whole) more

pub returns-in-Err-clause-dumped : goal.returns-in-Err-clause-dumped
returns-in-Err-clause-dumped g c =
    dumped_lost c.args.is_exact c.args.wad.now c.args.levels.now c.loop-level.level-index _ c.loop-level.are_all c.in-Err.error (g.W.Write.contents c.args.writer.now)
    (g.W.Write.contents c.loop-level.writer) (g.W.Write.contents c.dump_level.new.writer) (g.E.Write.contents c.args.errors.now) (g.E.Write.contents c.loop-level.errors)
    (g.E.Write.contents c.dump_level.new.errors) c.loop-level-test.true c.loop-level.invariant c.in-Err.ensures.dumped

pub returns-clause-dumped : goal.returns-clause-dumped
returns-clause-dumped g c =
    let wad = c.args.wad.now in
    let ls = c.args.levels.now in
    let n = c.loop-level.level-index in
    let u = g.W.Write.contents c.args.writer.now in
    let w = g.W.Write.contents c.loop-level.writer in
    let d = g.E.Write.contents c.args.errors.now in
    let x = g.E.Write.contents c.loop-level.errors in
    dumped_all c.args.is_exact wad ls c.loop-level.are_all u w d x
    (subst (λ (ks : List LevelEntries). HasDumped c.args.is_exact wad ks c.loop-level.are_all u w d x) (take_all n ls (omega (arith, c.loop-level-test.false))) c.loop-level.invariant)

pub returns-clause-maps : goal.returns-clause-maps
returns-clause-maps g c =
    let wad = c.args.wad.now in
    let ls = c.args.levels.now in
    let n = c.loop-level.level-index in
    maps_fine c.args.is_exact wad ls
    (subst (λ (ks : List LevelEntries). All (KeepsMap c.args.is_exact wad) ks) (take_all n ls (omega (arith, c.loop-level-test.false))) c.loop-level.invariant.maps)
