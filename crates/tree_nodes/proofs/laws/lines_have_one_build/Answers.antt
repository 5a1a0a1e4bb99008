use Rattle.tree_nodes.proofs.OneBuild.{one_build}
use Rattle.tree_nodes.proofs.laws.lines_have_one_build.Goals as goal

pub returns : goal.returns
returns c = one_build
