use Rattle.std.proofs.Common.{sym, subst}
use Rattle.wad_build.specs.Sound.{IsBuildRefusal}
use Rattle.wad_build.specs.declared.error.BuildError.TheVariants as build
use Rattle.wad_build.proofs.SoundLemmas.{tree_cause, blockmap_cause, same_error, tree_nothing, blockmap_nothing, built_some}
use Rattle.wad_build.proofs.build.level_of_map.Goals as goal

pub returns-clause-level : goal.returns-clause-level
returns-clause-level c =
    record {
      well_formed = c.level_of.ensures.well_formed;
      tree = c.in-Ok.tree;
      built = c.in-Ok.ensures.built;
      blockmap = c.in-Ok-blockmap.bytes.items;
      is_blockmap = c.in-Ok-blockmap.ensures;
      is_over = c.level_of.ensures.level;
    }

pub returns-clause-nothing : goal.returns-clause-nothing
returns-clause-nothing c =
    built_some c.args.map.now.tables c.in-Ok.tree c.level_of.result build.NothingToBuild c.in-Ok.ensures.built

pub returns-in-Err-clause-refused : goal.returns-in-Err-clause-refused
returns-in-Err-clause-refused c =
    subst (λ e. IsBuildRefusal c.args.map.now.tables e) (sym c.tree_refusal.ensures) (tree_cause c.args.map.now.tables c.in-Err.error c.in-Err.ensures.refused)

pub returns-in-Err-clause-nothing : goal.returns-in-Err-clause-nothing
returns-in-Err-clause-nothing c =
    same_error c.tree_refusal.result build.NothingToBuild (tree_nothing c.build_tree.result c.in-Err.error c.tree_refusal.result _ c.in-Err.is c.tree_refusal.ensures c.build_tree.ensures.nothing)

pub returns-in-Err-blockmap-clause-refused : goal.returns-in-Err-blockmap-clause-refused
returns-in-Err-blockmap-clause-refused c =
    subst (λ e. IsBuildRefusal c.args.map.now.tables e) (sym c.blockmap_refusal.ensures)
    (blockmap_cause c.args.map.now.tables c.in-Ok.tree c.in-Err-blockmap.error c.in-Ok.ensures.built c.in-Err-blockmap.ensures)

pub returns-in-Err-blockmap-clause-nothing : goal.returns-in-Err-blockmap-clause-nothing
returns-in-Err-blockmap-clause-nothing c =
    same_error c.blockmap_refusal.result build.NothingToBuild
    (blockmap_nothing c.args.map.now.tables c.in-Ok.tree c.in-Err-blockmap.error c.blockmap_refusal.result c.in-Ok.ensures.built c.in-Err-blockmap.ensures c.blockmap_refusal.ensures)
