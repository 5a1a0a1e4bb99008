use Rattle.std.proofs.Common.{◌∙◌, sym}
use Rattle.wad_levels.specs.Views.{view}
use Rattle.wad_build.proofs.FirstLemmas.{in_lists, in_once, in_lumps, sound_by}
use Rattle.wad_build.proofs.auditing.audit.Goals as goal

pub returns-in-Some-clause-sound : goal.returns-in-Some-clause-sound
returns-in-Some-clause-sound c =
    sound_by (view c.args.level.now) _ (in_lists (view c.args.level.now) c.in-Some.fault (sym c.list_fault.ensures ∙ c.in-Some.is))

pub returns-in-Ok-Some-clause-sound : goal.returns-in-Ok-Some-clause-sound
returns-in-Ok-Some-clause-sound c =
    let l = view c.args.level.now in
    sound_by l _ (in_once l c.in-Ok-Some.fault (sym c.list_fault.ensures ∙ c.in_default.is) (sym c.in-Ok-Some.ensures.fault ∙ c.in-Ok-Some.field-0-is))

pub returns-in-Ok-clause-sound : goal.returns-in-Ok-clause-sound
returns-in-Ok-clause-sound c =
    let l = view c.args.level.now in
    sound_by l c.in-Ok.fault (in_lumps l c.in-Ok.fault (sym c.list_fault.ensures ∙ c.in_default.is) (sym c.in-Ok-None.ensures.fault ∙ c.in-Ok-None.field-0-is) c.in-Ok.ensures.fault)
