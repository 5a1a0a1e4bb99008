use Rattle.std.proofs.Common.{◌≡◌, ◌≤◌, true, length, take}
use Rattle.std.specs.List.{list_all}
use Rattle.lump_records.specs.Names.{is_name_byte}
use Rattle.map_commands.proofs.additions.name_text_before.Given as goal

-- a name may contain the bytes so far
abbrev pub invariant-loop-len : goal.invariant-loop-len
invariant-loop-len l = record {
  within : l.len ≤ length l.text;
  bytes : list_all is_name_byte (take l.len l.text) ≡ true;
}
