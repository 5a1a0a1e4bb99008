use Rattle.std.proofs.Common.{◌≡◌, ◌-◌, ◌∷◌, ◌++◌, [], ℕ, List, length, set, refl, ap, ◌∙◌}
use Rattle.store_journal.proofs.Groups.{block, group_push}
use Rattle.store_journal.proofs.group.Group.push.Goals as goal

-- the bytes with a block more, and the gate in front of it open
grown : (old bytes front new : List ℕ) (gate n : ℕ) (more : List ℕ) → old ≡ bytes → front ≡ more → new ≡ old ++ front → gate ≡ n → n ≡ length old
    → set new (gate - 1) 165 ≡ set (bytes ++ more) (length bytes - 1) 165
grown old bytes front new gate n more is same items at len =
    ap (λ (k : ℕ). set new (k - 1) 165) (at ∙ len ∙ ap length is)
    ∙ ap (λ (l : List ℕ). set l (length bytes - 1) 165) (items ∙ ap (λ (l : List ℕ). l ++ front) is ∙ ap (λ (l : List ℕ). bytes ++ l) same)

pub returns-clause-pushed : goal.returns-clause-pushed
returns-clause-pushed c payloads is =
    group_push payloads c.args.payload.now c.args.self.now _ c.requires.short is
    (grown _ _ _ _ _ _ (block c.args.payload.now) c.self.view_is c.put_block.ensures c.in_ok-extend_from_slice.ensures.items c.len-gate.ensures c.self.inside.bytes.ok.0)

pub invariant_of-self-2 : goal.invariant_of-self-2
invariant_of-self-2 c =
    let (payloads, is) = c.self.invariant in (
      payloads ++ c.args.payload.now ∷ [],
      group_push payloads c.args.payload.now c.self.inside.bytes.items _ c.requires.short is
          (grown _ _ _ _ _ _ (block c.args.payload.now) refl c.put_block.ensures c.in_ok-extend_from_slice.ensures.items c.len-gate.ensures c.self.inside.bytes.ok.0),
    )
