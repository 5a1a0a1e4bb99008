use Rattle.std.proofs.Common.{[], ◌∷◌, map}
use Rattle.wad_rebuild.specs.Held.{directory_of, at_hand, kept_at}
use Rattle.wad_rebuild.specs.Rebuilt.{ten_lumps}
use Rattle.wad_rebuild.proofs.AddLemmas.{add_both, refuse_behind}
use Rattle.wad_rebuild.proofs.parts.put_made.Goals as goal

pub returns-in-Ok-put_ten : goal.returns-in-Ok-put_ten
returns-in-Ok-put_ten c =
    add_both c.args.to.now c.put_kept.new.to c.put_ten.new.to (kept_at c.args.wad.now (directory_of c.args.held.now) c.args.level.marker ∷ []) (map at_hand (ten_lumps c.args.wad.now c.args.level c.args.made.now))
    c.in-Ok.ensures c.in-Ok-put_ten.ensures

pub returns-in-Err-put_ten : goal.returns-in-Err-put_ten
returns-in-Err-put_ten c =
    refuse_behind c.args.to.now c.put_kept.new.to (kept_at c.args.wad.now (directory_of c.args.held.now) c.args.level.marker ∷ []) (map at_hand (ten_lumps c.args.wad.now c.args.level c.args.made.now))
    c.in-Err-put_ten.error c.in-Ok.ensures c.in-Err-put_ten.ensures
