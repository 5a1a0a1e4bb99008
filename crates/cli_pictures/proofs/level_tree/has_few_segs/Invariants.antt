use Rattle.std.proofs.Common.{◌≡◌, ◌≤◌, take}
use Rattle.std.specs.List.{sum_by}
use Rattle.lump_records.specs.declared.records.Sub.{Sub}
use Rattle.cli_pictures.proofs.level_tree.has_few_segs.Given as goal

-- the segs of the subsectors so far, which are few
abbrev pub invariant-loop-sub : goal.invariant-loop-sub
invariant-loop-sub l = (l.count ≡ sum_by (λ (s : Sub). s.count) (take l.sub-index l.subs)) × (l.count ≤ 65536)
