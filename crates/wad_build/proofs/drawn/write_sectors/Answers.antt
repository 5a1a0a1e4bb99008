use Rattle.std.proofs.Common.{◌≡◌, ◌∙◌, sym, ◌<◌, ◌≤◌, length, arith, rules}
use Rattle.std.specs.Io.KnownBytes.{append_known}
use Rattle.lump_records.specs.Records.{sector_at, sector_record}
use Rattle.wad_build.proofs.CopyLemmas.{encoded_back, encoded_more, encoded_none, encoded_sent, no_gap}
use Rattle.wad_build.proofs.drawn.write_sectors.Goals.{in-Some+in_ok-put, in_default}
use Rattle.wad_build.proofs.drawn.write_sectors.Goals as goal

pub loop-n-init : goal.loop-n-init
loop-n-init g c = encoded_none sector_at sector_record 26 c.args.map.now.tables.sectors (g.W.Write.contents c.args.writer.now) c.new-buffer.result c.new-buffer.ensures

pub loop-n-preserved : goal.loop-n-preserved
loop-n-preserved g c =
    let xs = c.args.map.now.tables.sectors in
    let u = g.W.Write.contents c.args.writer.now in
    let v = append_known (g.W.Write.contents c.loop-n.writer) c.loop-n.buffer in
    elim c.match-sector.branch [
      | in-Some+in_ok-put w ↦
          rw (w.writer-is, w.buffer-is)
          (encoded_more sector_at sector_record 26 xs c.loop-n.n u v (append_known (g.W.Write.contents w.put.new.writer) w.put.new.self) w.sector_bytes.result w.in-Some.sector (sym c.sector.ensures.item ∙ w.in-Some.is) c.loop-n.invariant w.in_ok-put.ensures
          w.sector_bytes.ensures.record w.sector_bytes.ensures.inverse (search rules))
      | in_default w ↦
          (let below : c.loop-n.n < length xs = omega (arith, c.count-n-end.ensures.number, c.loop-n-test.true) in
          absurd (no_gap xs c.loop-n.n below (λ x e. w.in_default.not-Some x (c.sector.ensures.item ∙ e))))
    ]

pub returns-clause-lump : goal.returns-clause-lump
returns-clause-lump g c =
    let xs = c.args.map.now.tables.sectors in
    let whole : length xs ≤ c.loop-n.n = omega (arith, c.count-n-end.ensures.number, c.loop-n-test.false) in
    encoded_sent sector_at sector_record 26 xs c.loop-n.n (g.W.Write.contents c.args.writer.now) (g.W.Write.contents c.loop-n.writer) (g.W.Write.contents c.send.new.writer) c.loop-n.buffer whole
    c.loop-n.invariant c.in_ok-send.ensures.sent

pub returns-clause-inverse : goal.returns-clause-inverse
returns-clause-inverse g c =
    let xs = c.args.map.now.tables.sectors in
    let whole : length xs ≤ c.loop-n.n = omega (arith, c.count-n-end.ensures.number, c.loop-n-test.false) in
    encoded_back sector_at sector_record 26 xs c.loop-n.n (g.W.Write.contents c.args.writer.now) _ whole (omega arith) c.loop-n.invariant
