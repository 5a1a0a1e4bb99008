use Rattle.wad_rebuild.specs.Held.{directory_of, kept_between, placed_after}
use Rattle.wad_rebuild.proofs.AddLemmas.{add_both, refuse_behind, refuse_front}
use Rattle.wad_rebuild.proofs.parts.put_up_to.Goals as goal

pub returns-in-Ok-put_level : goal.returns-in-Ok-put_level
returns-in-Ok-put_level c =
    let l = c.args.level.now in
    let held = directory_of c.args.held.now in
    add_both c.args.to.now c.put_between.new.to c.put_level.new.to (kept_between c.args.wad.now held c.args.k l.entries.marker) (placed_after c.args.wad.now held l.entries l.fate) c.in-Ok.ensures
    c.in-Ok-put_level.ensures

pub returns-in-Err-put_level : goal.returns-in-Err-put_level
returns-in-Err-put_level c =
    let l = c.args.level.now in
    let held = directory_of c.args.held.now in
    refuse_behind c.args.to.now c.put_between.new.to (kept_between c.args.wad.now held c.args.k l.entries.marker) (placed_after c.args.wad.now held l.entries l.fate) c.in-Err-put_level.error
    c.in-Ok.ensures c.in-Err-put_level.ensures

pub returns-in-Err : goal.returns-in-Err
returns-in-Err c =
    let l = c.args.level.now in
    let held = directory_of c.args.held.now in
    refuse_front c.args.to.now (kept_between c.args.wad.now held c.args.k l.entries.marker) (placed_after c.args.wad.now held l.entries l.fate) c.in-Err.error c.in-Err.ensures
