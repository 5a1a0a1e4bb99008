use Rattle.std.proofs.Common.{◌≡◌, true, min, take}
use Rattle.std.specs.List.{list_all}
use Rattle.std.specs.Str.Parse.{digits_value}
use Rattle.lump_records.specs.Names.{is_digit}
use Rattle.map_words.proofs.numerals.digits_in.Given as goal

-- the digits so far, and the number that they write
abbrev pub invariant-loop-byte : goal.invariant-loop-byte
invariant-loop-byte l = record {
  value : l.value ≡ min (digits_value 10 (take l.byte-index l.bytes)) 32769;
  digits : list_all is_digit (take l.byte-index l.bytes) ≡ true;
}
