use Rattle.std.proofs.Common.{rules, ◌⊎◌, ◌<◌, ◌+◌, ◌^◌, [], ◌∷◌, inl, inr, ℕ, subst, arith}
use Rattle.std.specs.Int.{to_le_bytes, w32}
use Rattle.store_disk.specs.Files.{HasAt}
use Rattle.store_journal.proofs.ReadingLoop.{has_gate, has_length, is_bad}
use Rattle.store_journal.proofs.reading.record_len_at.Goals.{then-len-gt-LONGEST-via-then-len-gt-LONGEST, then-len-gt-LONGEST-via-else-len-gt-LONGEST+then-len-end}
use Rattle.store_journal.proofs.reading.record_len_at.Goals as goal

pub returns-then-len-gt-LONGEST-clause-damaged : goal.returns-then-len-gt-LONGEST-clause-damaged
returns-then-len-gt-LONGEST-clause-damaged g c place is =
    let gate = c.parts_of-gate.result.0 in
    let n = c.parts_of-gate.result.1 in
    let six = c.if-end-place-lt-LEAST.false in
    let small : n < 2 ^ 32 = search rules in
    let bad : (256 < n) ⊎ (c.args.end < c.args.place + 6 + n) =
    elim c.then-len-gt-LONGEST.branch [
      | then-len-gt-LONGEST-via-then-len-gt-LONGEST w ↦ inl w.if-len-gt-LONGEST.true
      | then-len-gt-LONGEST-via-else-len-gt-LONGEST+then-len-end w ↦ inr (omega (arith, w.if-len-end.true, six))
    ] in (
      cc,
      λ file reads.
          let has = c.requires.head (omega (arith, six)) file reads in
          let opened = subst (λ (k : ℕ). HasAt c.args.place (k ∷ []) file) c.if-gate.false
          (has_gate c.args.place gate (to_le_bytes w32 n) c.args.head.now file c.parts_of-gate.ensures has) in
          is_bad c.args.area c.args.place c.args.end n file c.requires.inside (c.requires.ends file reads) opened
          (has_length c.args.place gate (to_le_bytes w32 n) c.args.head.now file c.parts_of-gate.ensures has) small bad,
    )

pub returns-clause-told : goal.returns-clause-told
returns-clause-told g c file reads =
    let six = c.if-end-place-lt-LEAST.false in
    has_length c.args.place c.parts_of-gate.result.0 (to_le_bytes w32 c.parts_of-gate.result.1) c.args.head.now file c.parts_of-gate.ensures
    (c.requires.head (omega (arith, six)) file reads)
