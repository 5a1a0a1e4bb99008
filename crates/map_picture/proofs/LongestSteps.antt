-- The longest lines of several sectors, one more line at a time.
use Rattle.std.proofs.Common.{◌≡◌, ℕ, ◌+◌, ◌<◌, List, length, get_or, take, sym, ap, ◌∙◌, arith}
use Rattle.std.specs.Prelude.{fold, Option, None}
use Rattle.std.proofs.lemmas.List.Sums.{fold_more}
use Rattle.lump_records.specs.declared.records.Line.{Line}
use Rattle.map_tables.specs.Tables.{Tables}
use Rattle.map_picture.specs.Numbers.{longer}
use Rattle.map_picture.specs.Longest.{AreLongest, LooksAt}

-- after the next line was taken into account
pub looked_more : (m : Tables) (first n : ℕ) (l d : Line) (old new : List (Option Line)) → n < length m.lines → l ≡ get_or m.lines n d
    → AreLongest m first (take n m.lines) old → LooksAt m first l old new → AreLongest m first (take (n + 1) m.lines) new
looked_more m first n l d old new within read so_far looks = λ i among.
    let there : i < length old = omega (arith, looks.count) in
    looks.lines i there ∙ ap (λ (o : Option Line). longer m (first + i) o l) (so_far i there)
    ∙ ap (longer m (first + i) (fold (longer m (first + i)) None (take n m.lines))) read
    ∙ sym (fold_more (longer m (first + i)) None m.lines n d within)
