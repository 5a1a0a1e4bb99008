use Rattle.std.proofs.Common.{◌≡◌, ◌<◌, ◌∷◌, [], ℕ, List, length, get_or, take, subst, arith}
use Rattle.std.proofs.lemmas.List.{take_more}
use Rattle.std.proofs.lemmas.Grind.{common_steps}
use Rattle.std.specs.Io.KnownBytes.{Consumes}
use Rattle.cli_requests.proofs.typing.next_byte.Goals as goal

pub returns-then-count-eq0 : goal.returns-then-count-eq0
returns-then-count-eq0 g c = (
  subst (λ (n : ℕ). Consumes (g.R.Read.remaining c.args.reader.now) (g.R.Read.remaining c.read_retrying.new.reader) (take n c.read_retrying.new.buffer))
      c.if-count-eq0.true c.in-Ok.ensures.bytes.0,
  c.in-Ok.ensures.bytes.1 c.if-count-eq0.true (grind (arith, common_steps)),
)

pub returns-else-count-eq0 : goal.returns-else-count-eq0
returns-else-count-eq0 g c =
    let buffer = c.read_retrying.new.buffer in
    let one : c.in-Ok.count ≡ 1 = grind (arith, common_steps) in
    let some : 0 < length buffer = grind (arith, common_steps) in
    let first : take 1 buffer ≡ get_or buffer 0 0 ∷ [] = take_more buffer 0 0 some in
    subst (λ (bs : List ℕ). Consumes (g.R.Read.remaining c.args.reader.now) (g.R.Read.remaining c.read_retrying.new.reader) bs) first
    (subst (λ (n : ℕ). Consumes (g.R.Read.remaining c.args.reader.now) (g.R.Read.remaining c.read_retrying.new.reader) (take n buffer)) one c.in-Ok.ensures.bytes.0)
