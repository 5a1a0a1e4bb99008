use Rattle.std.proofs.Common.{◌≡◌, ◌∙◌, ◌+◌, ap, refl, sym, subst, List, length, take, ◌<◌, ◌≤◌, arith, rules}
use Rattle.std.specs.Prelude.{slice_get, None}
use Rattle.std.proofs.lemmas.Option.{slice_get_within}
use Rattle.map_tables.specs.Tables.{Tables}
use Rattle.map_tables.specs.Projects.{project_of}
use Rattle.wad_build.specs.Errors.{blamed}
use Rattle.wad_build.specs.declared.error.Unbuilt.{Unbuilt}
use Rattle.wad_build.specs.declared.levels.NamedLevel.{NamedLevel}
use Rattle.wad_build.specs.Projects.{AreLevelsOf, Blames}
use Rattle.wad_build.proofs.CopyLemmas.{no_gap, all_items}
use Rattle.wad_build.proofs.ProjectLemmas.{first_blamed, first_is, first_map, none_there, levels_more, first_refused}
use Rattle.wad_build.proofs.projects.levels_of.Goals.{in-Some+in-Ok+in_ok-push, in_default}
use Rattle.wad_build.proofs.projects.levels_of.Goals as goal

pub loop-n-init : goal.loop-n-init
loop-n-init c = record { levels = search rules; first = λ m at empty. refl }

pub loop-n-preserved : goal.loop-n-preserved
loop-n-preserved c =
    let ms : List Tables = (project_of c.args.maps.now).maps in
    elim c.match-at.branch [
      | in-Some+in-Ok+in_ok-push w ↦
          record {
            levels = rw w.levels-is
                (subst (λ (xs : List NamedLevel). AreLevelsOf (take (c.loop-n.n + 1) (project_of c.args.maps.now).maps) xs) (sym w.in_ok-push.ensures.items)
                (levels_more (project_of c.args.maps.now).maps c.loop-n.n w.in-Some.map.now.tables c.loop-n.levels.items w.in-Ok.level w.in-Some.ensures c.loop-n.invariant.levels
                w.in-Ok.ensures.level));
            first = λ m at empty.
                let e = w.in-Ok.ensures.nothing.1 (first_is ms c.loop-n.n w.in-Some.map.now.tables m c.loop-n.invariant.first w.in-Some.ensures at empty) in
                cc;
          }
      | in_default w ↦
          (let below : c.loop-n.n < length ms = omega (arith, c.len-n-end.ensures.value, c.loop-n-test.true) in
          let gone : slice_get ms c.loop-n.n ≡ None = none_there _ _ c.at.result c.at.ensures w.in_default.not-Some in
          absurd (no_gap ms c.loop-n.n below (λ m e. cc)))
    ]

pub returns-clause-levels : goal.returns-clause-levels
returns-clause-levels c =
    let whole : length (project_of c.args.maps.now).maps ≤ c.loop-n.n = omega (arith, c.len-n-end.ensures.value, c.loop-n-test.false) in
    subst (λ (ms : List Tables). AreLevelsOf ms c.loop-n.levels.items)
    (all_items (project_of c.args.maps.now).maps (take c.loop-n.n (project_of c.args.maps.now).maps) c.loop-n.n whole refl) c.loop-n.invariant.levels

pub returns-clause-nothing : goal.returns-clause-nothing
returns-clause-nothing c = λ m at empty.
    let whole : length (project_of c.args.maps.now).maps ≤ c.loop-n.n = omega (arith, c.len-n-end.ensures.value, c.loop-n-test.false) in
    let none : c.loop-n.n ≡ 0 = c.loop-n.invariant.first m at empty in
    let some : 0 < length (project_of c.args.maps.now).maps = slice_get_within (project_of c.args.maps.now).maps 0 m at in
    absurd (omega (arith, whole, none, some))

pub returns-in-Err-clause-refused : goal.returns-in-Err-clause-refused
returns-in-Err-clause-refused c =
    let ms : List Tables = (project_of c.args.maps.now).maps in
    let name : c.name.result ≡ c.in-Some.map.now.tables.name = c.name.ensures in
    subst (λ (u : Unbuilt). Blames ms u.error u.map) (sym (c.blamed.ensures ∙ ap (blamed c.in-Err.error) name))
    (first_refused ms c.loop-n.n c.in-Some.map.now.tables c.loop-n.levels.items c.in-Err.error c.in-Some.ensures c.loop-n.invariant.levels c.in-Err.ensures.refused)

pub returns-in-Err-clause-nothing : goal.returns-in-Err-clause-nothing
returns-in-Err-clause-nothing c = λ m at empty.
    let ms : List Tables = (project_of c.args.maps.now).maps in
    let k : Tables = c.in-Some.map.now.tables in
    first_blamed c.in-Err.error k m c.blamed.result (c.blamed.ensures ∙ ap (blamed c.in-Err.error) c.name.ensures)
    (first_map ms c.loop-n.n k m c.loop-n.invariant.first c.in-Some.ensures at empty)
    (c.in-Err.ensures.nothing.1 (first_is ms c.loop-n.n k m c.loop-n.invariant.first c.in-Some.ensures at empty))

pub returns-in_err-push-clause-nothing : goal.returns-in_err-push-clause-nothing
returns-in_err-push-clause-nothing c = λ m at empty.
    let e = c.in-Ok.ensures.nothing.1 (first_is (project_of c.args.maps.now).maps c.loop-n.n c.in-Some.map.now.tables m c.loop-n.invariant.first c.in-Some.ensures at empty) in
    cc
