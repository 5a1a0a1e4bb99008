-- A line has its ends and its sides exactly if no test refuses it.
use Rattle.std.proofs.Common.{◌≡◌, false, ◌&&◌, ◌||◌, not, eqb, List, inl, inr}
use Rattle.std.proofs.lemmas.Bool.{eqb-false, eqb-true, or_parts, and_cases, ltb-false, both_ways, not_from_false, not_from_true, eq-eqb, not-false}
use Rattle.lump_records.specs.declared.records.Line.{Line}
use Rattle.lump_records.specs.declared.records.Side.{Side}
use Rattle.lump_records.specs.declared.records.Vertex.{Vertex}
use Rattle.map_tables.specs.Tables.{no_side}
use Rattle.map_tables.specs.Ranges.{squared_distance, longest_squared}
use Rattle.map_tables.specs.WellFormed.{HasEnds, HasSides, nth_vertex}
use Rattle.map_tables.specs.Faults.{has_left, is_two_sided, lacks, is_too_long}
use Rattle.map_tables.proofs.FaultLemmas.{not_lacking}

pub ends_from : (vs : List Vertex) (l : Line) → (lacks vs l.v1 || lacks vs l.v2) ≡ false → eqb l.v1 l.v2 ≡ false → is_too_long vs l ≡ false → HasEnds vs l
ends_from vs l there apart short =
    let both = or_parts (lacks vs l.v1) (lacks vs l.v2) there in
    record {
      v1 = not_lacking vs l.v1 both.0;
      v2 = not_lacking vs l.v2 both.1;
      differ = eqb-false l.v1 l.v2 apart;
      short = ltb-false longest_squared (squared_distance (nth_vertex vs l.v1) (nth_vertex vs l.v2)) short;
    }

pub sides_from : (sides : List Side) (l : Line) → (lacks sides l.right || (has_left l && lacks sides l.left)) ≡ false → (is_two_sided l && not (has_left l)) ≡ false → HasSides sides l
sides_from sides l there shape =
    let both = or_parts (lacks sides l.right) (has_left l && lacks sides l.left) there in
    record {
      right = not_lacking sides l.right both.0;
      left = λ some. elim (and_cases (has_left l) (lacks sides l.left) both.1) [
        | inl none ↦ absurd (some (eqb-true l.left no_side (not-false (eqb l.left no_side) none)))
        | inr found ↦ not_lacking sides l.left found
      ];
      two_sided = λ two none.
          let missing : has_left l ≡ false = not_from_true (eqb l.left no_side) (eq-eqb l.left no_side none) in
          elim (and_cases (is_two_sided l) (not (has_left l)) shape) [
            | inl single ↦ both_ways (is_two_sided l) single two
            | inr left ↦ both_ways (not (has_left l)) left (not_from_false (has_left l) missing)
          ];
    }
