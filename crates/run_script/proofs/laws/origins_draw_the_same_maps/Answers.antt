use Rattle.run_script.proofs.SameMaps.{drawn_same}
use Rattle.run_script.proofs.laws.origins_draw_the_same_maps.Goals as goal

pub returns : goal.returns
returns c = λ verbose lines result old new u w drawn. drawn_same verbose lines result old u new w drawn
