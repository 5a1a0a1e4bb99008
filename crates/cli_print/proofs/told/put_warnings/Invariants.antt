use Rattle.std.specs.Prelude.{◌≡◌, ◌++◌, flat_map, take}
use Rattle.lump_records.specs.Names.{name_text}
use Rattle.map_dump.specs.Texts.{with_lf}
use Rattle.cli_print.specs.Origins.{warning_told}
use Rattle.cli_print.proofs.told.put_warnings.Given as goal

-- the lines of the warnings so far have been put
abbrev pub invariant-loop-warning : goal.invariant-loop-warning
invariant-loop-warning g l =
    l.text.items ≡ l.fn.text.items ++ flat_map (λ x. with_lf (l.front ++ warning_told (g.O.Origin.origin l.origin) (name_text l.map) x)) (take l.warning-index l.warned)
