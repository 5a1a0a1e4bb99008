use Rattle.std.proofs.Common.{◌+◌, length, Ok, sym, subst, ap, arith}
use Rattle.map_tables.specs.Projects.{ProjectMaps, project_of}
use Rattle.store_salvage.proofs.Walking.{Walked, replayed, walked_none, walked_kept, walked_lost}
use Rattle.store_salvage.proofs.replaying.replay.Goals as goal

pub loop-line-init : goal.loop-line-init
loop-line-init c = record {
  walked = walked_none c.args.cap c.args.area (project_of c.args.maps.now) c.args.file.now (omega (arith, c.requires.inside, c.requires.ends));
  inside = c.requires.inside;
  small = omega arith;
  fits = c.requires.fits;
}

pub loop-line-preserved-then-branch : goal.loop-line-preserved-then-branch
loop-line-preserved-then-branch c =
    let kept = c.in_ok-keeps.ensures.kept (ap Ok c.if-branch.true) in
    record {
      walked = walked_kept c.args.cap c.args.area (project_of c.args.maps.now) (project_of c.loop-line.maps) c.args.file.now c.loop-line.kept c.loop-line.behind c.loop-line.kept_to c.loop-line.next c.in-Some.line.now
          (project_of c.keeps.new.maps) c.loop-line.invariant.walked kept.0 c.in-Some.ensures.fits.0 c.in-Some.ensures.found kept.1;
      inside = omega (arith, c.in-Some.ensures.fits.1);
      small = omega (arith, c.loop-line.invariant.small);
      fits = c.keeps.ensures.fits;
    }

pub loop-line-preserved : goal.loop-line-preserved
loop-line-preserved c =
    let is_lost = ap Ok c.if-branch.false in
    record {
      walked = subst (λ (maps : ProjectMaps). Walked c.args.cap c.args.area (project_of c.args.maps.now) maps c.loop-line.kept (c.loop-line.behind + 1) c.loop-line.kept_to (c.loop-line.next + (5 + length c.in-Some.line.now)) c.args.file.now)
          (sym (c.in_ok-keeps.ensures.stays is_lost))
          (walked_lost c.args.cap c.args.area (project_of c.args.maps.now) (project_of c.loop-line.maps) c.args.file.now c.loop-line.kept c.loop-line.behind c.loop-line.kept_to c.loop-line.next c.in-Some.line.now
          c.loop-line.invariant.walked c.in-Some.ensures.fits.0 c.in-Some.ensures.found (c.in_ok-keeps.ensures.lost is_lost));
      inside = omega (arith, c.in-Some.ensures.fits.1);
      small = omega (arith, c.loop-line.invariant.small);
      fits = c.keeps.ensures.fits;
    }

pub returns-clause-replayed : goal.returns-clause-replayed
returns-clause-replayed c =
    let h = c.in_default in
    replayed c.args.cap c.args.area (project_of c.args.maps.now) (project_of c.loop-line.maps) c.args.file.now c.loop-line.kept c.loop-line.behind c.loop-line.kept_to c.loop-line.next
    (omega (arith, c.loop-line.invariant.inside, c.requires.ends)) c.loop-line.invariant.walked h.ensures.none
