use Rattle.std.proofs.Common.{◌≡◌, ◌<◌, ◌++◌, ◌∷◌, [], List, ℕ, length, drop, sym, ◌∙◌, ap, subst, arith, rules}
use Rattle.std.specs.Prelude.{All}
use Rattle.std.proofs.lemmas.List.Elements.{All-push}
use Rattle.lump_records.specs.declared.records.Vertex.{Vertex}
use Rattle.map_commands.specs.Reading.{fault_with}
use Rattle.map_commands.specs.Spelling.{vertex_words}
use Rattle.map_commands.specs.Views.{reading}
use Rattle.map_tables.specs.Ranges.{IsVertex}
use Rattle.map_shapes.specs.Shapes.{corner_places, corner_words}
use Rattle.map_shapes.proofs.Corners.{corner_places-more, corner_words-more, shorter}
use Rattle.map_shapes.proofs.reading.corners.Goals as goal

pub loop-words-preserved : goal.loop-words-preserved
loop-words-preserved c =
    let old = reading c.loop-words.words in
    let new = reading c.corner-corner.new.words in
    let some : 0 < length old.words = search rules in
    let left = drop 1 (drop 1 old.words) in
    let corners = c.loop-words.corners.items in
    let v = c.corner-corner.result in
    let items : c.push.new.self.items ≡ corners ++ v ∷ [] = c.in_ok-push.ensures.items in
    let same : fault_with old (corner_places old.words) ≡ fault_with new (corner_places new.words) =
    ap (fault_with old) (corner_places-more old.words some)
    ∙ c.corner-corner.ensures.fault (corner_places left)
    ∙ ap (λ ws. fault_with new (corner_places ws)) (sym c.corner-corner.ensures.rest) in
    record {
      fault = c.loop-words.invariant.fault ∙ same;
      text = λ h.
          let x = c.corner-corner.ensures.text h in
          let i = c.loop-words.invariant.text x.0 in (
            i.0,
            i.1
                ∙ ap (λ ws. corner_words corners ++ ws) x.1
                ∙ sym (corner_words-more corners v new.words)
                ∙ ap (λ vs. corner_words vs ++ new.words) (sym items),
          );
      range = subst (All IsVertex) (sym items) (All-push IsVertex corners v c.loop-words.invariant.range c.corner-corner.ensures.range);
    }

pub loop-words-smaller : goal.loop-words-smaller
loop-words-smaller c =
    let old = reading c.loop-words.words in
    let some : 0 < length old.words = search rules in
    subst (λ ws. length ws < length old.words) (sym c.corner-corner.ensures.rest) (shorter old.words some)
