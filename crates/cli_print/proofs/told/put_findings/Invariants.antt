use Rattle.std.specs.Prelude.{◌≡◌, ◌++◌, flat_map, take}
use Rattle.lump_records.specs.Names.{name_text}
use Rattle.map_dump.specs.Texts.{with_lf}
use Rattle.cli_print.specs.Origins.{finding_told}
use Rattle.cli_print.proofs.told.put_findings.Given as goal

-- the lines of the findings so far have been put
abbrev pub invariant-loop-finding : goal.invariant-loop-finding
invariant-loop-finding g l =
    l.text.items ≡ l.fn.text.items ++ flat_map (λ x. with_lf (l.front ++ finding_told (g.O.Origin.origin l.origin) (name_text l.map) x)) (take l.finding-index l.found)
