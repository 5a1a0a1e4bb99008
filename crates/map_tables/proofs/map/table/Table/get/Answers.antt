use Rattle.std.proofs.Common.{◌≡◌, ◌∙◌, ◌<◌, sym, ap, length, get_or, arith}
use Rattle.std.specs.Prelude.{slice_get}
use Rattle.slab.specs.Slab.{get as key_value}
use Rattle.std.proofs.lemmas.List.{get_or_default}
use Rattle.std.proofs.lemmas.Option.{slice_get_past}
use Rattle.map_tables.specs.Keys.{items_under}
use Rattle.map_tables.proofs.TableLemmas.{count_of_items}
use Rattle.map_tables.proofs.KeyLemmas.{given_at}
use Rattle.map_tables.proofs.map.table.Table.get.Goals as goal

pub returns-then-len-n : goal.returns-then-len-n
returns-then-len-n g c =
    let count = count_of_items c.self.inside.items c.self.inside.order.items c.self.invariant in
    let past = slice_get_past (items_under c.self.inside.items c.self.inside.order.items) c.args.n (omega (arith, count)) in
    sym past ∙ ap (λ v. slice_get v.items c.args.n) c.self.view_is

pub returns : goal.returns
returns g c =
    let n : c.args.n < length c.self.inside.order.items = omega arith in
    let key : c.index.result.now ≡ get_or c.self.inside.order.items c.args.n 0 = c.index.ensures ∙ get_or_default c.self.inside.order.items c.args.n _ 0 n in
    let here = given_at (key_value c.self.inside.items) c.self.inside.order.items c.args.n 0 c.self.invariant.held_each n in
    c.copied.ensures ∙ c.get.ensures ∙ ap (key_value c.self.inside.items) key ∙ sym here ∙ ap (λ v. slice_get v.items c.args.n) c.self.view_is
