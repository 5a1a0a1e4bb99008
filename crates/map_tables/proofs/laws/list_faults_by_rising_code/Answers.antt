-- The codes are constants, which rise.
use Rattle.std.proofs.Common.{arith}
use Rattle.map_tables.proofs.laws.list_faults_by_rising_code.Goals as goal

pub returns : goal.returns
returns c = λ m n v s l.
    record {
      vertex = (omega arith, tt);
      set_vertex = (omega arith, (omega arith, tt));
      drop_vertex = (omega arith, tt);
      sector = tt;
      set_sector = tt;
      drop_sector = (omega arith, tt);
      side = (omega arith, tt);
      set_side = (omega arith, tt);
      drop_side = (omega arith, tt);
      line = (omega arith, (omega arith, (omega arith, (omega arith, (omega arith, tt)))));
      set_line = (omega arith, (omega arith, (omega arith, (omega arith, (omega arith, tt)))));
      drop_line = tt;
      thing = tt;
      set_thing = tt;
      drop_thing = tt;
    }
