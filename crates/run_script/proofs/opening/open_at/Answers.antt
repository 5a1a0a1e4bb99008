use Rattle.std.proofs.Common.{◌≡◌, ◌∙◌, ◌+◌, ◌≤◌, inl, List, ℕ, None, Ok, ap, arith, refl, sym}
use Rattle.map_script.specs.Ats.{at_placing}
use Rattle.map_script.specs.Known.{scope_of}
use Rattle.map_script.specs.Words.{text_words}
use Rattle.map_tables.specs.Projects.{current_map}
use Rattle.map_tables.specs.Tables.{Tables}
use Rattle.map_blocks.specs.Blocks.{lines_between, with_places}
use Rattle.run_script.specs.Places.{turns_of}
use Rattle.run_script.proofs.Currents.{current_is}
use Rattle.run_script.proofs.Positions.{at_met, entered, next_block}
use Rattle.run_script.proofs.opening.open_at.Goals as goal

pub returns-in-Ok-open_next-clause-opened : goal.returns-in-Ok-open_next-clause-opened
returns-in-Ok-open_next-clause-opened g c =
    let all : List (ℕ × (ℕ × List ℕ)) = with_places c.args.lines.now in
    let r = c.args.reading.now in
    let s = c.open_next.new.reading in
    let words = text_words c.args.words.now in
    let names = scope_of c.args.names.now in
    let named = scope_of c.open_next.new.names in
    let placing = c.in-Ok.placing in
    let same = c.current.ensures.tables ∙ current_is c.maps.result.now ∙ ap current_map c.maps.ensures in
    let is = ap (λ (m : Tables). at_placing names m words) (sym same) ∙ c.in-Ok.ensures.ok in
    let (b, next, enters) = c.in-Ok-open_next.ensures.ok in
    let block = next_block all (r.place + 1 + c.block_len.result) c.block_len.result names None r b next
    c.block_len.ensures.len c.block_len.ensures.within refl in
    at_met names r.place (lines_between all (r.place + 1) r.until) (turns_of all r.blocks.items) _ placing _ is
    (entered all names named placing r.blocks.items b s _ enters block)
