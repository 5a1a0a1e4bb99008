-- One more part is appended to those before it.
use Rattle.std.proofs.Common.{◌≡◌, ◌∷◌, ◌++◌, ap, ◌∙◌, length, take, take_all, arith}
use Rattle.std.specs.Prelude.{flat_map}
use Rattle.map_tables.specs.Parts.{part}
use Rattle.map_tables.specs.Projects.{project_of}
use Rattle.map_tables.proofs.PartsLemmas.{put_nth, parts_size}
use Rattle.map_tables.proofs.maps.Maps.encode_body.Goals as goal

pub loop-n-preserved : goal.loop-n-preserved
loop-n-preserved c =
    let p = project_of c.args.self.now in
    let m = c.nth.result.now.tables in
    c.in_ok-put_part.ensures.bytes ∙ ap (λ x. x ++ part m) c.loop-n.invariant
    ∙ ap (λ x. 2 ∷ p.current ∷ x) (put_nth p.maps c.loop-n.n m (omega (arith, c.len-n-end.ensures.value)) c.nth.ensures)

pub returns-clause-length : goal.returns-clause-length
returns-clause-length c =
    let p = project_of c.args.self.now in
    let all : take c.loop-n.n p.maps ≡ p.maps = take_all c.loop-n.n p.maps (omega (arith, c.len-n-end.ensures.value)) in
    omega (arith, ap length (c.loop-n.invariant ∙ ap (λ ms. 2 ∷ p.current ∷ flat_map part ms) all), parts_size p.maps c.head.ensures.well_formed.maps)

pub returns-clause-bytes : goal.returns-clause-bytes
returns-clause-bytes c =
    let p = project_of c.args.self.now in
    let all : take c.loop-n.n p.maps ≡ p.maps = take_all c.loop-n.n p.maps (omega (arith, c.len-n-end.ensures.value)) in
    c.loop-n.invariant ∙ ap (λ ms. 2 ∷ p.current ∷ flat_map part ms) all

pub returns-clause-well_formed : goal.returns-clause-well_formed
returns-clause-well_formed c = c.head.ensures.well_formed
