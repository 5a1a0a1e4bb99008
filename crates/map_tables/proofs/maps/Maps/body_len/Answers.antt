use Rattle.std.proofs.Common.{◌≡◌, ◌+◌, ap, sym, ◌∙◌, take, take_all, arith}
use Rattle.std.specs.Prelude.{sum_by}
use Rattle.std.proofs.lemmas.List.Sums.{sum_by_more}
use Rattle.map_tables.specs.Tables.{part_len}
use Rattle.map_tables.specs.Projects.{body_len, project_of}
use Rattle.map_tables.specs.MapsFields.{maps_view}
use Rattle.map_tables.proofs.ProjectLemmas.{len_of_part, sum_of_parts}
use Rattle.map_tables.proofs.maps.Maps.body_len.Goals as goal

pub overflow_add-len-in-loop-other : goal.overflow_add-len-in-loop-other
overflow_add-len-in-loop-other c =
    omega (arith, c.loop-other.invariant.bound, c.part_len-len-in-loop-other.ensures.bound, c.as_slice-other-items.ensures.fits, c.loop-other-test.true)

pub loop-other-preserved : goal.loop-other-preserved
loop-other-preserved c =
    let more = sum_by_more len_of_part c.as_slice-other-items.result.now c.loop-other.other-index c.other-item.result c.loop-other-test.true in
    let is = ap len_of_part (sym c.other-item.is) in
    record {
      length = omega (arith, c.loop-other.invariant.length, c.part_len-len-in-loop-other.ensures.value, more, is);
      bound = omega (arith, c.loop-other.invariant.bound, c.part_len-len-in-loop-other.ensures.bound);
    }

pub returns : goal.returns
returns c =
    let inside = c.self.inside in
    let others : sum_by len_of_part (take c.loop-other.other-index c.as_slice-other-items.result.now) ≡ sum_by len_of_part inside.others.items =
    ap (sum_by len_of_part) (take_all c.loop-other.other-index c.as_slice-other-items.result.now c.loop-other-test.false ∙ c.as_slice-other-items.ensures.value) in
    let all : body_len (project_of (maps_view inside)) ≡ 2 + (part_len inside.map.tables + sum_by len_of_part inside.others.items) =
    ap (λ n. 2 + n) (sum_of_parts inside.others.items inside.number inside.map.tables) in
    let view : body_len (project_of (maps_view inside)) ≡ body_len (project_of c.args.self.now) = ap (λ v. body_len (project_of v)) c.self.view_is in
    let own : part_len inside.map.tables ≡ part_len c.args.self.now.tables = ap (λ v. part_len v.tables) c.self.view_is in
    omega (arith, c.loop-other.invariant.length, others, all, own) ∙ view
