use Rattle.std.proofs.Common.{◌≡◌, ◌<◌, rules, ◌∙◌, ◌∷◌, [], List, ℕ, drop, length, ap, sym}
use Rattle.map_commands.proofs.Readings.{done, fresh}
use Rattle.map_commands.specs.Places.{flags, name, places_fault, sector_item}
use Rattle.map_commands.specs.Reading.{Reading, fault_with}
use Rattle.map_commands.specs.Views.{reading}
use Rattle.map_shapes.specs.Shapes.{door_places}
use Rattle.map_shapes.proofs.Corners.{door_places-long, door_places-short}
use Rattle.map_shapes.proofs.reading.door.Goals as goal

pub returns-in_err-finish-clause-fault : goal.returns-in_err-finish-clause-fault
returns-in_err-finish-clause-fault c =
    let r = reading c.args.words in
    let left : drop 1 (drop 1 (drop 1 r.words)) ≡ (reading c.name-track.new.self).words =
    sym (c.name-track.ensures.rest ∙ ap (drop 1) (c.name-face.ensures.rest ∙ ap (drop 1) c.item-sector.ensures.rest)) in
    let none : (reading c.name-track.new.self).words ≡ [] = search rules in
    let e =
    ap (λ ps. places_fault ps r.words) (door_places-short r.words (left ∙ none))
    ∙ sym (fresh r (sector_item ∷ name ∷ name ∷ []) c.requires)
    ∙ c.item-sector.ensures.reads.fault (name ∷ name ∷ [])
    ∙ c.name-face.ensures.reads.fault (name ∷ [])
    ∙ c.name-track.ensures.reads.fault [] in
    rw e (search rules)

pub returns-then-is_empty-clause-fault : goal.returns-then-is_empty-clause-fault
returns-then-is_empty-clause-fault c =
    let r = reading c.args.words in
    let left : drop 1 (drop 1 (drop 1 r.words)) ≡ (reading c.name-track.new.self).words =
    sym (c.name-track.ensures.rest ∙ ap (drop 1) (c.name-face.ensures.rest ∙ ap (drop 1) c.item-sector.ensures.rest)) in
    let none : (reading c.name-track.new.self).words ≡ [] = search rules in
    ap (λ ps. places_fault ps r.words) (door_places-short r.words (left ∙ none))
    ∙ sym (fresh r (sector_item ∷ name ∷ name ∷ []) c.requires)
    ∙ c.item-sector.ensures.reads.fault (name ∷ name ∷ [])
    ∙ c.name-face.ensures.reads.fault (name ∷ [])
    ∙ c.name-track.ensures.reads.fault [] ∙ done _ c.in_ok-finish.ensures.ok

pub returns-in_err-finish-2-clause-fault : goal.returns-in_err-finish-2-clause-fault
returns-in_err-finish-2-clause-fault c =
    let r = reading c.args.words in
    let left : (reading c.name-track.new.self).words ≡ drop 1 (drop 1 (drop 1 r.words)) =
    c.name-track.ensures.rest ∙ ap (drop 1) (c.name-face.ensures.rest ∙ ap (drop 1) c.item-sector.ensures.rest) in
    let some : 0 < length (reading c.name-track.new.self).words = search rules in
    let some_left : 0 < length (drop 1 (drop 1 (drop 1 r.words))) = rw left at some in
    let e =
    ap (λ ps. places_fault ps r.words) (door_places-long r.words some_left)
    ∙ sym (fresh r (sector_item ∷ name ∷ name ∷ flags ∷ []) c.requires)
    ∙ c.item-sector.ensures.reads.fault (name ∷ name ∷ flags ∷ [])
    ∙ c.name-face.ensures.reads.fault (name ∷ flags ∷ [])
    ∙ c.name-track.ensures.reads.fault (flags ∷ [])
    ∙ c.item-special.ensures.reads.fault [] in
    rw e (search rules)

pub returns-clause-fault : goal.returns-clause-fault
returns-clause-fault c =
    let r = reading c.args.words in
    let left : (reading c.name-track.new.self).words ≡ drop 1 (drop 1 (drop 1 r.words)) =
    c.name-track.ensures.rest ∙ ap (drop 1) (c.name-face.ensures.rest ∙ ap (drop 1) c.item-sector.ensures.rest) in
    let some : 0 < length (reading c.name-track.new.self).words = search rules in
    let some_left : 0 < length (drop 1 (drop 1 (drop 1 r.words))) = rw left at some in
    ap (λ ps. places_fault ps r.words) (door_places-long r.words some_left)
    ∙ sym (fresh r (sector_item ∷ name ∷ name ∷ flags ∷ []) c.requires)
    ∙ c.item-sector.ensures.reads.fault (name ∷ name ∷ flags ∷ [])
    ∙ c.name-face.ensures.reads.fault (name ∷ flags ∷ [])
    ∙ c.name-track.ensures.reads.fault (flags ∷ [])
    ∙ c.item-special.ensures.reads.fault [] ∙ done _ c.in_ok-finish-2.ensures.ok
