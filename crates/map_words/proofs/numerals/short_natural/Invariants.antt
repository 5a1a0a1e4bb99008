use Rattle.std.proofs.Common.{◌≡◌, ◌<◌, ◌≤◌, ◌^◌, true, get_or, length, take}
use Rattle.std.specs.List.{list_all}
use Rattle.std.specs.Str.Parse.{digits_value}
use Rattle.lump_records.specs.Names.{is_digit}
use Rattle.map_words.proofs.numerals.short_natural.Given as goal

-- the digits so far, the number that they write, and that a 0 stands alone
abbrev pub invariant-loop-len : goal.invariant-loop-len
invariant-loop-len l = record {
  some : 0 < l.len;
  within : l.len ≤ length l.text;
  value : l.value ≡ digits_value 10 (take l.len l.text);
  digits : list_all is_digit (take l.len l.text) ≡ true;
  front : get_or l.text 0 0 ≡ 48 → (l.len ≡ 1) × (l.value ≡ 0);
  small : l.value < 10 ^ l.len;
}
