use Rattle.std.proofs.Common.{◌∙◌, ◌++◌, ◌∷◌, [], ap, sym, true, false}
use Rattle.std.proofs.lemmas.List.{append-nil}
use Rattle.wad_levels.specs.Listing.{entry_name, is_level_marker}
use Rattle.wad_levels.proofs.GraphicLemmas.{listed_more}
use Rattle.wad_levels.proofs.listing.names_in.Goals as goal
use Rattle.wad_levels.proofs.listing.names_in.Goals.{then-is_marker+in_ok-push, else-is_marker}

pub loop-k-preserved : goal.loop-k-preserved
loop-k-preserved c =
    let more = listed_more (entry_name c.args.wad.now) (is_level_marker c.args.wad.now) c.loop-k.k c.loop-k.names.items c.loop-k.invariant in
    elim c.if-is_marker.branch [
      | then-is_marker+in_ok-push w ↦
          rw w.names-is
          (w.in_ok-push.ensures.items ∙ ap (λ n. c.loop-k.names.items ++ n ∷ []) w.name.ensures
          ∙ more true (sym c.is_marker.ensures ∙ w.if-is_marker.true))
      | else-is_marker w ↦
          rw w.names-is
          (sym (append-nil c.loop-k.names.items) ∙ more false (sym c.is_marker.ensures ∙ w.if-is_marker.false))
    ]
