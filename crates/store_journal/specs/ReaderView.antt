-- What the fields of a reader tell of.
use Rattle.std.specs.Prelude.{◌<◌, ◌≤◌, ◌+◌, take}
use Rattle.store_journal.specs.Reading.{ReaderState}
use Rattle.store_journal.specs.declared.reading.Reader.TheInside.{Inside}

-- the last payload begins the block; the bytes behind it are no part
abbrev pub reader_state : Inside → ReaderState
reader_state fields = record {
  area = fields.area;
  end = fields.end;
  next = fields.next;
  found = fields.found;
  last = take fields.len fields.block;
}

-- the next gate stands before the end, which is at most the area's
pub record IsBeforeEnd (fields : Inside) : Type 0 where
  pub inside : fields.area.base + fields.next < fields.end
  pub within : fields.end ≤ fields.area.base + fields.area.length
  pub len : fields.len ≤ 256
