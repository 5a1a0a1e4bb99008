use Rattle.std.proofs.Common.{ap, map}
use Rattle.std.specs.Prelude.{string_bytes}
use Rattle.cli_program.proofs.SourceDone.{built_as, checked_as, dumped_as, linted_as, pictured_as}
use Rattle.cli_program.proofs.program.done_with_source.Goals as goal

pub returns-in-Check-clause-done : goal.returns-in-Check-clause-done
returns-in-Check-clause-done g c =
    rw c.in-Check.is (checked_as _ _ _ _ _ _ _ _ _ _ _ c.as_str.ensures.value c.as_deref-map.ensures.value c.check_source.ensures.found)

pub returns-in-Lint-clause-done : goal.returns-in-Lint-clause-done
returns-in-Lint-clause-done g c =
    rw c.in-Lint.is (linted_as _ _ _ _ _ _ _ _ _ _ _ _ _ _ _ c.as_str-path.ensures.value c.as_deref-iwad.ensures.variant
    (λ i. record { only = map string_bytes (c.deref.ensures.value i); except = map string_bytes (c.deref-in-Lint.ensures.value i) })
    c.as_deref-map-in-Lint.ensures.value c.lint_source.ensures.linted)

pub returns-in-Dump-clause-done : goal.returns-in-Dump-clause-done
returns-in-Dump-clause-done g c =
    rw c.in-Dump.is (dumped_as _ _ _ _ _ _ _ _ _ _ _ _ c.as_str-in-Dump.ensures.value (ap (map string_bytes) c.deref-in-Dump.ensures.value) c.dump_source.ensures.dumped)

pub returns-in-Picture-clause-done : goal.returns-in-Picture-clause-done
returns-in-Picture-clause-done g c =
    rw c.in-Picture.is (pictured_as _ _ _ _ _ _ _ _ _ _ _ _ _ _ _ c.as_str-in-Picture.ensures.value c.layers_of-layers.ensures c.as_deref-map-in-Picture.ensures.value c.as_deref-out.ensures.variant c.picture_source.ensures.pictured)

pub returns-in-Build-clause-done : goal.returns-in-Build-clause-done
returns-in-Build-clause-done g c = rw c.in-Build.is (built_as _ _ _ _ _ _ _ _ _ c.as_str-in-Build.ensures.value c.build_source.ensures.built)
