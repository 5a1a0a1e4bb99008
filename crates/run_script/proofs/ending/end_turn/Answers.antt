use Rattle.std.proofs.Common.{◌≡◌, ◌⊎◌, ◌∙◌, ◌+◌, ◌++◌, ◌∷◌, [], List, ℕ, Option, None, Some, Ok, Err, ap, arith, inl, inr, length, refl, sym, subst}
use Rattle.std.proofs.lemmas.List.Elements.{All-pop}
use Rattle.map_script.specs.Errors.{code_of}
use Rattle.map_script.specs.Known.{scope_of}
use Rattle.map_script.specs.Scopes.{Scope, released}
use Rattle.map_script.specs.declared.error.DrawError.{DrawError}
use Rattle.map_script.specs.declared.error.DrawError.TheVariants.{OutOfMemory}
use Rattle.map_tables.specs.Projects.{current_map}
use Rattle.map_tables.specs.Tables.{Tables}
use Rattle.map_blocks.specs.Blocks.{lines_between, with_places}
use Rattle.run_script.specs.Turns.{EndsTurn, with_naming}
use Rattle.run_script.specs.Places.{Enters, IsBlockWithin, naming_in, position_of, turns_of}
use Rattle.run_script.specs.declared.reading.Block.{Block}
use Rattle.run_script.proofs.Currents.{current_is}
use Rattle.run_script.proofs.Positions.{entered_within, enters_from, given_from, left, not-named, not-turned, turned}
use Rattle.run_script.proofs.ending.end_turn.Goals as goal

pub returns-in-Err-clause-ended : goal.returns-in-Err-clause-ended
returns-in-Err-clause-ended g c =
    let all : List (ℕ × (ℕ × List ℕ)) = with_places c.args.lines.now in
    let b : Block = c.leave-block.result in
    let e : DrawError = c.in-Err.error in
    let names : Scope = scope_of c.args.names.now in
    let m : Tables = current_map (g.C.Canvas.maps_in c.args.canvas.now) in
    let same = c.current.ensures.tables ∙ current_is c.maps.result.now ∙ ap current_map c.maps.ensures in
    let why : (e ≡ OutOfMemory) ⊎ (with_naming (released names b.before) m names.answered (naming_in b.naming) ≡ Err e) =
    elim c.in-Err.ensures.fault [
      | inl memory ↦ inl memory
      | inr is ↦ inr (given_from _ names _ m _ b (Err e) c.release.ensures same c.answered-answered.ensures is)
    ] in
    rw c.code.ensures (not-named all names m c.args.reading.now.blocks.items c.leave-block.new.reading.blocks.items b e _ c.leave-block.ensures.blocks why)

pub returns-in_default-clause-ended : goal.returns-in_default-clause-ended
returns-in_default-clause-ended g c =
    let all : List (ℕ × (ℕ × List ℕ)) = with_places c.args.lines.now in
    let b : Block = c.leave-block.result in
    let names : Scope = scope_of c.args.names.now in
    let m : Tables = current_map (g.C.Canvas.maps_in c.args.canvas.now) in
    let same = c.current.ensures.tables ∙ current_is c.maps.result.now ∙ ap current_map c.maps.ensures in
    left all names (scope_of c.give_name.new.names) m c.args.reading.now.blocks.items c.leave-block.new.reading.blocks.items b c.leave-block.ensures.blocks
    (given_from _ names _ m _ b _ c.release.ensures same c.answered-answered.ensures c.in-Ok.ensures.ok) c.in_default.ensures

pub returns-in_default-clause-within : goal.returns-in_default-clause-within
returns-in_default-clause-within g c =
    let (outer, b) = All-pop (IsBlockWithin (length c.args.lines.now)) c.args.reading.now.blocks.items c.leave-block.new.reading.blocks.items (Some c.leave-block.result)
    c.leave-block.ensures.blocks c.requires.within.blocks in
    record { few = c.requires.within.few; until = b.until; blocks = outer; told = c.leave-block.ensures.told }

pub returns-in-Ok-enter-clause-ended : goal.returns-in-Ok-enter-clause-ended
returns-in-Ok-enter-clause-ended g c =
    let all : List (ℕ × (ℕ × List ℕ)) = with_places c.args.lines.now in
    let b : Block = c.leave-block.result in
    let names : Scope = scope_of c.args.names.now in
    let mid : Scope = scope_of c.give_name.new.names in
    let m : Tables = current_map (g.C.Canvas.maps_in c.args.canvas.now) in
    let same = c.current.ensures.tables ∙ current_is c.maps.result.now ∙ ap current_map c.maps.ensures in
    turned all names mid (scope_of c.enter.new.names) m c.args.reading.now.blocks.items c.leave-block.new.reading.blocks.items b _ c.in-Some.count _ c.enter.new.reading
    c.leave-block.ensures.blocks (given_from _ names _ m _ b _ c.release.ensures same c.answered-answered.ensures c.in-Ok.ensures.ok) refl c.in-Some.ensures refl
    (enters_from mid mid _ _ _ _ _ refl c.placing-placing.ensures c.in-Ok-enter.ensures.ok)

pub returns-in-Ok-enter-clause-within : goal.returns-in-Ok-enter-clause-within
returns-in-Ok-enter-clause-within g c =
    let (outer, b) = All-pop (IsBlockWithin (length c.args.lines.now)) c.args.reading.now.blocks.items c.leave-block.new.reading.blocks.items (Some c.leave-block.result)
    c.leave-block.ensures.blocks c.requires.within.blocks in
    entered_within (length c.args.lines.now) c.requires.within.few (scope_of c.give_name.new.names) (scope_of c.enter.new.names) _ c.leave-block.new.reading.blocks.items _ c.enter.new.reading c.in-Ok-enter.ensures.ok outer
    (record { place = b.place; end = b.end; until = b.until }) c.in-Ok-enter.ensures.told

pub returns-in-Err-enter-clause-ended : goal.returns-in-Err-enter-clause-ended
returns-in-Err-enter-clause-ended g c =
    let all : List (ℕ × (ℕ × List ℕ)) = with_places c.args.lines.now in
    not-turned all (scope_of c.args.names.now) (current_map (g.C.Canvas.maps_in c.args.canvas.now)) c.args.reading.now.blocks.items c.leave-block.new.reading.blocks.items c.leave-block.result c.code-in-Err-enter.result _ c.leave-block.ensures.blocks
    (c.code-in-Err-enter.ensures ∙ ap code_of c.in-Err-enter.ensures.memory)
