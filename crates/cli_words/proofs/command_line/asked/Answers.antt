use Rattle.cli_words.proofs.command_line.asked.Goals as goal

pub returns-in-create-clause-asked : goal.returns-in-create-clause-asked
returns-in-create-clause-asked c = rw c.in-create.is c.asked_create.ensures.asked

pub returns-in-create-clause-refused : goal.returns-in-create-clause-refused
returns-in-create-clause-refused c = rw c.in-create.is c.asked_create.ensures.refused

pub returns-in-check-clause-asked : goal.returns-in-check-clause-asked
returns-in-check-clause-asked c = rw c.in-check.is c.asked_check.ensures.asked

pub returns-in-check-clause-refused : goal.returns-in-check-clause-refused
returns-in-check-clause-refused c = rw c.in-check.is c.asked_check.ensures.refused

pub returns-in-lint-clause-asked : goal.returns-in-lint-clause-asked
returns-in-lint-clause-asked c = rw c.in-lint.is c.asked_lint.ensures.asked

pub returns-in-lint-clause-refused : goal.returns-in-lint-clause-refused
returns-in-lint-clause-refused c = rw c.in-lint.is c.asked_lint.ensures.refused

pub returns-in-dump-clause-asked : goal.returns-in-dump-clause-asked
returns-in-dump-clause-asked c = rw c.in-dump.is c.asked_dump.ensures.asked

pub returns-in-dump-clause-refused : goal.returns-in-dump-clause-refused
returns-in-dump-clause-refused c = rw c.in-dump.is c.asked_dump.ensures.refused

pub returns-in-draw-clause-asked : goal.returns-in-draw-clause-asked
returns-in-draw-clause-asked c = rw c.in-draw.is c.asked_draw.ensures.asked

pub returns-in-draw-clause-refused : goal.returns-in-draw-clause-refused
returns-in-draw-clause-refused c = rw c.in-draw.is c.asked_draw.ensures.refused

pub returns-in-picture-clause-asked : goal.returns-in-picture-clause-asked
returns-in-picture-clause-asked c = rw c.in-picture.is c.asked_picture.ensures.asked

pub returns-in-picture-clause-refused : goal.returns-in-picture-clause-refused
returns-in-picture-clause-refused c = rw c.in-picture.is c.asked_picture.ensures.refused

pub returns-in-inspect-clause-asked : goal.returns-in-inspect-clause-asked
returns-in-inspect-clause-asked c = rw c.in-inspect.is c.asked_inspect.ensures.asked

pub returns-in-inspect-clause-refused : goal.returns-in-inspect-clause-refused
returns-in-inspect-clause-refused c = rw c.in-inspect.is c.asked_inspect.ensures.refused

pub returns-in-build-clause-asked : goal.returns-in-build-clause-asked
returns-in-build-clause-asked c = rw c.in-build.is c.asked_build.ensures.asked

pub returns-in-build-clause-refused : goal.returns-in-build-clause-refused
returns-in-build-clause-refused c = rw c.in-build.is c.asked_build.ensures.refused

pub returns-in-rebuild-clause-asked : goal.returns-in-rebuild-clause-asked
returns-in-rebuild-clause-asked c = rw c.in-rebuild.is c.asked_rebuild.ensures.asked

pub returns-in-rebuild-clause-refused : goal.returns-in-rebuild-clause-refused
returns-in-rebuild-clause-refused c = rw c.in-rebuild.is c.asked_rebuild.ensures.refused
