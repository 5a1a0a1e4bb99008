use Rattle.std.proofs.Common.{◌≡◌, ◌∙◌, ◌+◌, ◌<◌, ap, arith, length, subst}
use Rattle.map_tables.specs.Tables.{count_of}
use Rattle.map_picture.specs.Labels.{numbered_kind}
use Rattle.map_picture.specs.Numbers.{longest_line}
use Rattle.map_picture.specs.declared.labels.Numbered.{Numbered}
use Rattle.map_picture.proofs.labels.label_of.Goals as goal

pub sector_label-requires-clause-longest : goal.sector_label-requires-clause-longest
sector_label-requires-clause-longest c =
    let m = c.args.map.now.tables in
    let n = c.args.n in
    let among : n < length m.sectors = subst (λ (item : Numbered). n < count_of m (numbered_kind item)) c.in-Sector.is c.requires.among in
    let within : n < length c.args.longest.now = omega (arith, among, c.requires.all) in
    let same : 0 + n ≡ n = omega arith in
    c.requires.longest n within ∙ ap (longest_line m) same
