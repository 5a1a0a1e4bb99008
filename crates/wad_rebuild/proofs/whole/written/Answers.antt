use Rattle.std.proofs.Common.{List, ℕ, ap, length}
use Rattle.wad_rebuild.proofs.Given.{hand_refused, short_wad}
use Rattle.wad_rebuild.proofs.whole.written.Goals as goal

pub returns-in-Ok-write_to : goal.returns-in-Ok-write_to
returns-in-Ok-write_to c =
    let len = ap (λ (b : List ℕ). length b) c.bytes-source.ensures in
    short_wad c.bytes-source.result.now c.args.wad.now c.kind.result.now c.args.levels.now c.in-Ok.lumps _ c.in-Ok-with_capacity.bytes.items c.write_to.new.writer.items len
    c.kind.ensures.bytes c.in-Ok-with_capacity.ensures.items c.in-Ok.ensures c.in-Ok-write_to.ensures

pub returns-in-Err : goal.returns-in-Err
returns-in-Err c =
    let len = ap (λ (b : List ℕ). length b) c.bytes-source.ensures in
    hand_refused c.args.wad.now c.args.levels.now _ c.in-Err.error len c.in-Err.ensures
