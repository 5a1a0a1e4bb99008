use Rattle.std.proofs.Common.{◌≡◌, ◌∙◌, ℕ, List, Option, Some, None, inl, inr, map, refl, subst, ap, ap₂}
use Rattle.std.specs.Prelude.{vec_items}
use Rattle.map_commands.specs.declared.command.Command.{Command}
use Rattle.map_script.specs.Firsts.{counts_of, firsts_since}
use Rattle.map_script.specs.declared.firsts.ItemCounts.{ItemCounts}
use Rattle.map_tables.specs.Projects.{ProjectMaps, current_map, project_of}
use Rattle.map_tables.specs.Tables.{Tables}
use Rattle.run_canvas.specs.declared.canvas.Canvas.{Ghosts}
use Rattle.run_script.specs.Shaped.{DoesAll, IsPlanned, RefusesWhole, StopsAmong}
use Rattle.run_script.proofs.Currents.{current_is}
use Rattle.run_script.proofs.shaping.draw_shape.Goals as goal

-- a plan over the maps of a canvas
planned_on : {S : Type 0} (facts : Ghosts S) (old : S) (p : ProjectMaps) (cap : ℕ) (line : List ℕ) (commands : List Command) (answer : ℕ)
    → p ≡ facts.maps_in old → cap ≡ facts.cap_in old → IsPlanned p cap line commands answer → IsPlanned (facts.maps_in old) (facts.cap_in old) line commands answer
planned_on facts old p cap line commands answer maps caps planned =
    subst (λ (q : ProjectMaps). IsPlanned q (facts.cap_in old) line commands answer) maps (subst (λ (k : ℕ). IsPlanned p k line commands answer) caps planned)

pub returns-in-Err : goal.returns-in-Err
returns-in-Err g c =
    let old = c.args.canvas.now in
    let refused =
    subst (λ (p : ProjectMaps). RefusesWhole p (g.C.Canvas.cap_in old) c.args.text.now c.in-Err.code) c.maps.ensures
    (subst (λ (cap : ℕ). RefusesWhole (project_of c.maps.result.now) cap c.args.text.now c.in-Err.code) c.cap.ensures c.in-Err.ensures.refused) in
    inl (refused, refl)

pub returns-in-Some : goal.returns-in-Some
returns-in-Some g c =
    let old = c.args.canvas.now in
    let plan = c.in-Ok.plan in
    let (commands, planned, lines) = c.in-Ok.ensures.planned in
    let on = planned_on g.C.Canvas old (project_of c.maps.result.now) c.cap.result c.args.text.now commands plan.answer c.maps.ensures c.cap.ensures planned in
    let room = c.in-Some.ensures in
    inr (
      commands,
      plan.answer,
      on,
      inl (subst (λ (ls : List (List ℕ)). g.C.Canvas.makes_room old ls (Some c.in-Some.code) c.make_room.new.self)
          (ap (λ (vs : List _). map vec_items vs) c.deref.ensures.value ∙ lines) room),
    )

pub returns-in-Ok-change_all : goal.returns-in-Ok-change_all
returns-in-Ok-change_all g c =
    let old = c.args.canvas.now in
    let mid = c.make_room.new.self in
    let new = c.change_all.new.canvas in
    let plan = c.in-Ok.plan in
    let (commands, planned, lines) = c.in-Ok.ensures.planned in
    let on = planned_on g.C.Canvas old (project_of c.maps.result.now) c.cap.result c.args.text.now commands plan.answer c.maps.ensures c.cap.ensures planned in
    let room = subst (λ (ls : List (List ℕ)). g.C.Canvas.makes_room old ls None mid) (ap (λ (vs : List _). map vec_items vs) c.deref.ensures.value ∙ lines)
    (subst (λ (o : Option ℕ). g.C.Canvas.makes_room old (map vec_items c.deref.result.now) o mid) c.in_default.is c.make_room.ensures) in
    let done = subst (λ (ls : List (List ℕ)). DoesAll g.C.Canvas ls mid new) (ap (λ (vs : List _). map vec_items vs) c.deref-2.ensures.value ∙ lines)
    c.in-Ok-change_all.ensures in
    let before = c.current.ensures.tables ∙ current_is c.maps-2.result.now ∙ ap current_map c.maps-2.ensures in
    let after = c.current-in-Ok-change_all.ensures.tables ∙ current_is c.maps-in-Ok-change_all.result.now ∙ ap current_map c.maps-in-Ok-change_all.ensures in (
      (commands, on, mid, room, done),
      c.firsts_since-firsts.ensures ∙ ap₂ (λ (n : ItemCounts) (m : Tables). firsts_since n m) (c.counts_of-before.ensures ∙ ap counts_of before) after,
    )

pub returns : goal.returns
returns g c =
    let old = c.args.canvas.now in
    let mid = c.make_room.new.self in
    let plan = c.in-Ok.plan in
    let (commands, planned, lines) = c.in-Ok.ensures.planned in
    let on = planned_on g.C.Canvas old (project_of c.maps.result.now) c.cap.result c.args.text.now commands plan.answer c.maps.ensures c.cap.ensures planned in
    let room = subst (λ (ls : List (List ℕ)). g.C.Canvas.makes_room old ls None mid) (ap (λ (vs : List _). map vec_items vs) c.deref.ensures.value ∙ lines)
    (subst (λ (o : Option ℕ). g.C.Canvas.makes_room old (map vec_items c.deref.result.now) o mid) c.in_default.is c.make_room.ensures) in
    inr (
      commands,
      plan.answer,
      on,
      inr (
        mid,
        room,
        subst (λ (ls : List (List ℕ)). StopsAmong g.C.Canvas ls mid c.in-Err-change_all.code c.change_all.new.canvas)
            (ap (λ (vs : List _). map vec_items vs) c.deref-2.ensures.value ∙ lines) c.in-Err-change_all.ensures,
      ),
    )
