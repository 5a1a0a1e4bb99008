use Rattle.std.proofs.Common.{◌<◌, ◌+◌, ℕ, List, length, max, take, ◌∙◌, ap, arith}
use Rattle.std.proofs.lemmas.Bool.Decides.{nat_tests}
use Rattle.store_disk.proofs.Overwriting.{put_is_overwritten}
use Rattle.store_disk.proofs.fixed_file.FixedFile.write.Goals as goal

pub returns-then-not-is_empty-clause-bytes : goal.returns-then-not-is_empty-clause-bytes
returns-then-not-is_empty-clause-bytes c =
    let f = c.args.self.now in
    let x = c.args.from.now in
    let some : 0 < length x = grind (arith, nat_tests) in
    ap (λ (n : ℕ). take n c.put.new.bytes.items) c.max-self.ensures ∙ ap (λ (b : List ℕ). take (max f.len (c.args.at + length x)) b) c.put.ensures
    ∙ put_is_overwritten c.args.at x f.bytes.items c.requires f.len f.fits f.zeros some
