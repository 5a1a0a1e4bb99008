use Rattle.std.proofs.Common.{◌≡◌, ◌⊎◌, [], List, ℕ, IfSome, ◌++◌, subst, length, take}
use Rattle.std.specs.Prelude.{◌↔◌, IsTrue, option_map}
use Rattle.std.specs.Io.Take.{take_remaining}
use Rattle.cli_files.proofs.Replacing.{answered}
use Rattle.cli_files.proofs.replaceable.begins_or_empty.Goals as goal

pub returns : goal.returns
returns g c =
    let limited = take_remaining g.R.Read.remaining c.take.result in
    let is : limited ≡ option_map (take (length c.args.front.now)) (g.R.Read.remaining c.args.reader) = cc in
    let read : IfSome limited (λ xs. c.read_to_end.new.buf.items ≡ xs) =
    subst (λ (old : List ℕ). IfSome limited (λ xs. c.read_to_end.new.buf.items ≡ old ++ xs)) c.new-head.ensures.items c.in_ok-read_to_end.ensures.bytes in
    let told = subst (λ (head : List ℕ). IsTrue c.is_none_or.result ↔ ((head ≡ []) ⊎ (head ≡ c.args.front.now))) c.as_slice.ensures.value c.is_none_or.ensures in
    answered (g.R.Read.remaining c.args.reader) limited c.args.front.now c.read_to_end.new.buf.items c.is_none_or.result is read told
