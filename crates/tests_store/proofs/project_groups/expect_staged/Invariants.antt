use Rattle.store_project.specs.Groups.{IsGroupFor}
use Rattle.tests_store.proofs.project_groups.expect_staged.Given as goal

abbrev pub invariant-loop-line : goal.invariant-loop-line
invariant-loop-line g l = IsGroupFor l.project l.group
