use Rattle.std.proofs.Common.{◌≡◌, ◌||◌, sym, subst, ◌∙◌, arith, ap, length, get_or, take, drop, ◌++◌, [], false, Bool, List, ℕ}
use Rattle.std.proofs.lemmas.List.{append-nil, drop_all, take_all}
use Rattle.map_plane.specs.declared.places.PlacedLine.{PlacedLine}
use Rattle.map_plane.specs.Crossed.{MarksCrossed, MarksMeeting, meets_within}
use Rattle.map_plane.specs.Places.{placed_lines}
use Rattle.map_plane.proofs.Marks.{by_number}
use Rattle.map_plane.proofs.crossed.crossed_lines.Goals as goal

pub returns : goal.returns
returns c =
    let m = c.args.map.now.tables in
    let new = c.mark.new.marks in
    let before = c.in_ok-marks.marks.items in
    let unset = c.in_ok-marks.ensures in
    let lines : c.deref.result.now ≡ placed_lines m = c.deref.ensures.value ∙ c.in_ok-lines.ensures in
    let marked : MarksMeeting (placed_lines m) before new =
    subst (λ (bs : List Bool). MarksMeeting (placed_lines m) bs new) c.deref_mut.ensures.value
    (subst (λ (ls : List PlacedLine). MarksMeeting ls c.deref_mut.result.now new) lines c.in_ok-mark.ensures) in
    let count : length new ≡ length (placed_lines m) =
    marked.count ∙ unset.count_is ∙ omega (arith, c.len.ensures, c.in_ok-lines.lines.ok.0) ∙ ap length c.in_ok-lines.ensures in
    let all : take c.in_ok-marks.marks.len (new ++ drop (length new) before) ≡ new =
    ap (λ bs. take c.in_ok-marks.marks.len (new ++ bs)) (drop_all (length new) before (omega (arith, marked.count)))
    ∙ ap (take c.in_ok-marks.marks.len) (append-nil new)
    ∙ take_all c.in_ok-marks.marks.len new (omega (arith, marked.count, c.in_ok-marks.marks.ok.0)) in
    subst (MarksCrossed m) (sym all) (record {
      count = count;
      each = λ n h. marked.each n (omega (arith, h, marked.count)) ∙ ap (λ b. b || meets_within (placed_lines m) n) (unset.each n) ∙ by_number m n;
    })
