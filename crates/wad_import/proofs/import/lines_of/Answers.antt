use Rattle.std.proofs.Common.{◌≡◌, ℕ, All, List, length, get_or, map, ap, subst, sym, ◌∙◌, arith}
use Rattle.std.specs.Prelude.{slice_index}
use Rattle.std.proofs.lemmas.List.FromFn.{get_or-map-range_with_len, length-map-range_with_len}
use Rattle.wad_levels.specs.Drawn.{drawn_view}
use Rattle.wad_import.specs.Added.{IsBetweenSome}
use Rattle.wad_import.specs.Imported.{kept_lines, reached_vertices}
use Rattle.wad_import.specs.Mended.{linked_line}
use Rattle.wad_import.specs.Once.{kept_number}
use Rattle.wad_import.proofs.OnceLemmas.{lines_agree}
use Rattle.wad_import.proofs.import.lines_of.Goals as goal

pub linked_lines-requires : goal.linked_lines-requires
linked_lines-requires c =
    let vs = reached_vertices (drawn_view c.args.drawn.now) in
    let count : length c.args.numbers.now ≡ length vs = ap length c.requires.numbers ∙ length-map-range_with_len (kept_number vs) 0 (length vs) in
    let kept = kept_lines (drawn_view c.args.drawn.now) in
    subst (All (IsBetweenSome (length c.args.numbers.now))) (sym (c.deref.ensures.value ∙ c.in_ok-kept.ensures.list))
    (λ k d h. subst (λ n. IsBetweenSome n (get_or kept k d)) (sym count) (c.requires.fine.reached k d h))

pub returns-clause-list : goal.returns-clause-list
returns-clause-list c =
    let vs = reached_vertices (drawn_view c.args.drawn.now) in
    c.in_ok-list.ensures.list ∙ ap (map (linked_line (slice_index c.args.numbers.now))) (c.deref.ensures.value ∙ c.in_ok-kept.ensures.list)
    ∙ lines_agree (slice_index c.args.numbers.now) (kept_number vs) (length vs) (kept_lines (drawn_view c.args.drawn.now)) c.requires.fine.reached
    (λ k h. ap (λ (ns : List ℕ). get_or ns k 0) c.requires.numbers ∙ get_or-map-range_with_len (kept_number vs) 0 (length vs) k k 0 h (omega arith))
