use Rattle.std.proofs.Common.{◌≡◌, ◌∙◌, ◌+◌, ◌≤◌, inl, List, ℕ, Ok, Some, ap, arith, refl, sym}
use Rattle.map_script.specs.Known.{scope_of}
use Rattle.map_script.specs.Loops.{loop_range}
use Rattle.map_script.specs.Words.{text_words}
use Rattle.map_tables.specs.Projects.{current_map}
use Rattle.map_tables.specs.Tables.{Tables}
use Rattle.map_blocks.specs.Blocks.{lines_between, with_places}
use Rattle.run_script.specs.Places.{turns_of}
use Rattle.run_script.specs.Turns.{first_count}
use Rattle.run_script.proofs.Currents.{current_is}
use Rattle.run_script.proofs.Positions.{entered, loop_met, next_block}
use Rattle.run_script.proofs.opening.open_loop.Goals as goal

pub returns-in-Ok-open_first-clause-opened : goal.returns-in-Ok-open_first-clause-opened
returns-in-Ok-open_first-clause-opened g c =
    let all : List (ℕ × (ℕ × List ℕ)) = with_places c.args.lines.now in
    let r = c.args.reading.now in
    let s = c.open_first.new.reading in
    let words = text_words c.args.words.now in
    let names = scope_of c.args.names.now in
    let named = scope_of c.open_first.new.names in
    let range = c.in-Ok.range in
    let same = c.current.ensures.tables ∙ current_is c.maps.result.now ∙ ap current_map c.maps.ensures in
    let is = ap (λ (m : Tables). loop_range names m words) (sym same) ∙ c.in-Ok.ensures.ok in
    let (b, next, enters) = c.in-Ok-open_first.ensures.ok in
    let block = next_block all (r.place + 1 + c.block_len.result) c.block_len.result names (Some (first_count words range)) r b next c.block_len.ensures.len c.block_len.ensures.within refl in
    loop_met names r.place (lines_between all (r.place + 1) r.until) (turns_of all r.blocks.items) words _ range _ is
    (sym c.has_turn.ensures ∙ c.if-not-has_turn.false) (entered all names named names.placing r.blocks.items b s _ enters block)
