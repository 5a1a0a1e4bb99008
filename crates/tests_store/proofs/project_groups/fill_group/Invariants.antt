use Rattle.store_project.specs.Groups.{IsGroupFor}
use Rattle.tests_store.proofs.project_groups.fill_group.Given as goal

abbrev pub invariant-loop-n : goal.invariant-loop-n
invariant-loop-n g l = IsGroupFor l.project l.group
