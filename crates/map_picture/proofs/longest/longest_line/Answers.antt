use Rattle.std.proofs.Common.{◌≡◌, ◌<◌, ◌+◌, ◌∙◌, ap, arith, length}
use Rattle.map_picture.specs.Numbers.{longest_line}
use Rattle.map_picture.proofs.longest.longest_line.Goals as goal

pub returns : goal.returns
returns c =
    let m = c.args.map.now.tables in
    let there : 0 < length c.find_longest.new.longest = omega (arith, c.find_longest.auto.longest) in
    let same : c.args.sector + 0 ≡ c.args.sector = omega arith in
    c.find_longest.ensures 0 there ∙ ap (longest_line m) same
