use Rattle.std.proofs.Common.{◌≡◌, ◌∷◌, ◌++◌, [], List, ℕ, drop, sym, ◌∙◌, ap, subst, rules, append-nil, pos, arith}
use Rattle.std.specs.Fmt.{signed_decimal}
use Rattle.std.specs.Prelude.{FitsSigned}
use Rattle.std.specs.Int.{w16}
use Rattle.std.proofs.lemmas.Int.{ints, to_z-of_z}
use Rattle.map_tables.specs.Ranges.{IsCode, IsSector}
use Rattle.lump_records.specs.Names.{name_text}
use Rattle.lump_records.specs.declared.records.Sector.{Sector}
use Rattle.map_commands.proofs.Readings.{done, fresh, took}
use Rattle.map_commands.specs.Places.{height, light, name}
use Rattle.map_commands.specs.Reading.{fault_with}
use Rattle.map_commands.specs.Views.{reading}
use Rattle.map_shapes.specs.Shapes.{area_places, corner_places, corner_words, plain_sector}
use Rattle.map_shapes.proofs.Corners.{six_less}
use Rattle.map_shapes.proofs.reading.area.Goals as goal

-- no special, no tag
no_code : IsCode (pos 0)
no_code = record { at_least = omega (arith, ints); at_most = omega (arith, ints) }

pub returns-clause-fault : goal.returns-clause-fault
returns-clause-fault c =
    let r = reading c.args.words in
    let left : (reading c.number-light.new.self).words ≡ drop 6 r.words =
    c.number-light.ensures.rest
    ∙ ap (drop 1) (c.name-wall.ensures.rest ∙ ap (drop 1) (c.name-ceiling_name.ensures.rest ∙ ap (drop 1) (c.name-floor_name.ensures.rest ∙ ap (drop 1) (c.number-ceiling.ensures.rest ∙ ap (drop 1) c.number-floor.ensures.rest))))
    ∙ sym (six_less r.words) in
    let ends = corner_places (drop 6 r.words) in
    let e =
    sym (fresh r (area_places r.words) c.requires)
    ∙ c.number-floor.ensures.reads.fault (height ∷ name ∷ name ∷ name ∷ light ∷ ends)
    ∙ c.number-ceiling.ensures.reads.fault (name ∷ name ∷ name ∷ light ∷ ends)
    ∙ c.name-floor_name.ensures.reads.fault (name ∷ name ∷ light ∷ ends)
    ∙ c.name-ceiling_name.ensures.reads.fault (name ∷ light ∷ ends)
    ∙ c.name-wall.ensures.reads.fault (light ∷ ends)
    ∙ c.number-light.ensures.reads.fault ends
    ∙ ap (λ ws. fault_with (reading c.number-light.new.self) (corner_places ws)) (sym left)
    ∙ c.in_ok-corners.ensures.fault in
    e ∙ done _ c.in_ok-finish.ensures.ok

pub returns-in_err-finish-clause-fault : goal.returns-in_err-finish-clause-fault
returns-in_err-finish-clause-fault c =
    let r = reading c.args.words in
    let left : (reading c.number-light.new.self).words ≡ drop 6 r.words =
    c.number-light.ensures.rest
    ∙ ap (drop 1) (c.name-wall.ensures.rest ∙ ap (drop 1) (c.name-ceiling_name.ensures.rest ∙ ap (drop 1) (c.name-floor_name.ensures.rest ∙ ap (drop 1) (c.number-ceiling.ensures.rest ∙ ap (drop 1) c.number-floor.ensures.rest))))
    ∙ sym (six_less r.words) in
    let ends = corner_places (drop 6 r.words) in
    let e =
    sym (fresh r (area_places r.words) c.requires)
    ∙ c.number-floor.ensures.reads.fault (height ∷ name ∷ name ∷ name ∷ light ∷ ends)
    ∙ c.number-ceiling.ensures.reads.fault (name ∷ name ∷ name ∷ light ∷ ends)
    ∙ c.name-floor_name.ensures.reads.fault (name ∷ name ∷ light ∷ ends)
    ∙ c.name-ceiling_name.ensures.reads.fault (name ∷ light ∷ ends)
    ∙ c.name-wall.ensures.reads.fault (light ∷ ends)
    ∙ c.number-light.ensures.reads.fault ends
    ∙ ap (λ ws. fault_with (reading c.number-light.new.self) (corner_places ws)) (sym left)
    ∙ c.in_ok-corners.ensures.fault in
    rw e (search rules)

pub returns-clause-ok : goal.returns-clause-ok
returns-clause-ok c =
    let items = c.in_ok-corners.corners.items in
    let done = c.in_ok-finish.ensures.ok in
    let last = c.in_ok-corners.ensures.words done.0 in
    let ends : (reading c.number-light.new.self).words ≡ corner_words items = last.1 ∙ ap (λ ws. corner_words items ++ ws) done.1 ∙ append-nil (corner_words items) in
    let t =
    took _ _ _ _ _ c.number-floor.ensures.reads (took _ _ _ _ _ c.number-ceiling.ensures.reads (took _ _ _ _ _ c.name-floor_name.ensures.reads
    (took _ _ _ _ _ c.name-ceiling_name.ensures.reads (took _ _ _ _ _ c.name-wall.ensures.reads (took _ _ _ _ _ c.number-light.ensures.reads (last.0, ends)))))) in
    let fits_floor : FitsSigned w16 c.number-floor.result = search rules in
    let fits_ceiling : FitsSigned w16 c.number-ceiling.result = search rules in
    let fits_light : FitsSigned w16 c.number-light.result = search rules in
    let s : c.plain_sector-sector.result ≡ plain_sector c.number-floor.result c.number-ceiling.result c.name-floor_name.result c.name-ceiling_name.result c.number-light.result =
    c.plain_sector-sector.ensures
    ∙ (λ i. plain_sector (to_z-of_z w16 c.number-floor.result fits_floor i) (to_z-of_z w16 c.number-ceiling.result fits_ceiling i) c.name-floor_name.result
    c.name-ceiling_name.result (to_z-of_z w16 c.number-light.result fits_light i)) in (
      t.1
          ∙ ap (λ (s : Sector). signed_decimal s.floor ∷ signed_decimal s.ceiling ∷ name_text s.floor_name ∷ name_text s.ceiling_name ∷ name_text c.name-wall.result
          ∷ signed_decimal s.light ∷ corner_words items) (sym s),
      record {
        sector = subst IsSector (sym s) (record {
          floor = c.number-floor.ensures.range;
          ceiling = c.number-ceiling.ensures.range;
          floor_name = c.name-floor_name.ensures.range;
          ceiling_name = c.name-ceiling_name.ensures.range;
          light = c.number-light.ensures.range;
          special = no_code;
          tag = no_code;
        });
        special = ap (λ (s : Sector). s.special) s;
        tag = ap (λ (s : Sector). s.tag) s;
        wall = c.name-wall.ensures.range;
        corners = c.in_ok-corners.ensures.range;
      },
    )
