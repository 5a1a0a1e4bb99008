use Rattle.store_project.proofs.Excluding.{blank_bad, blank_damaged, blank_foreign, damaged_bad, damaged_foreign, damaged_once, foreign_bad, stands_bad, stands_blank, stands_damaged, stands_foreign}
use Rattle.store_project.proofs.law.exclude_one_another.Goals as goal

pub returns-clause-stands_blank : goal.returns-clause-stands_blank
returns-clause-stands_blank c file cap map g = stands_blank cap map g file

pub returns-clause-stands_damaged : goal.returns-clause-stands_damaged
returns-clause-stands_damaged c file cap map g place = stands_damaged cap map g place file

pub returns-clause-stands_bad : goal.returns-clause-stands_bad
returns-clause-stands_bad c file cap map g = stands_bad cap map g file

pub returns-clause-stands_foreign : goal.returns-clause-stands_foreign
returns-clause-stands_foreign c file cap map g = stands_foreign cap map g file

pub returns-clause-blank_damaged : goal.returns-clause-blank_damaged
returns-clause-blank_damaged c file place = blank_damaged place file

pub returns-clause-blank_bad : goal.returns-clause-blank_bad
returns-clause-blank_bad c file = blank_bad file

pub returns-clause-blank_foreign : goal.returns-clause-blank_foreign
returns-clause-blank_foreign c file = blank_foreign file

pub returns-clause-damaged_once : goal.returns-clause-damaged_once
returns-clause-damaged_once c file p q = damaged_once p q file

pub returns-clause-damaged_bad : goal.returns-clause-damaged_bad
returns-clause-damaged_bad c file place = damaged_bad place file

pub returns-clause-damaged_foreign : goal.returns-clause-damaged_foreign
returns-clause-damaged_foreign c file place = damaged_foreign place file

pub returns-clause-bad_foreign : goal.returns-clause-bad_foreign
returns-clause-bad_foreign c file = foreign_bad file
