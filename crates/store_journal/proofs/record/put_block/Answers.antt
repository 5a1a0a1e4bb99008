use Rattle.std.proofs.Common.{◌≡◌, ◌≤◌, ◌<◌, ◌+◌, ◌-◌, ℕ, List, [], ◌∷◌, ◌++◌, length, take, drop, set, arith, ◌∙◌, ap, refl, length-append, length-drop, length-take}
use Rattle.std.specs.Int.{to_le_bytes, w32}
use Rattle.std.proofs.lemmas.List.{take_more_set, take_at}
use Rattle.std.proofs.lemmas.Slice.{take-put_mid}
use borrow.Rule.Slice.PartMut.{put_mid}
use Rattle.store_journal.proofs.record.put_block.Goals as goal

block_is : (old head payload : List ℕ) → length head ≡ 4 → 261 ≤ length old → length payload ≤ 256
    → take (length payload + 5) (set (put_mid 4 (4 + length payload - 4) (head ++ drop 4 old) payload) (4 + length payload) 0) ≡ head ++ payload ++ 0 ∷ []
block_is old head payload four long short =
    let n = length payload in
    let mid = put_mid 4 (4 + n - 4) (head ++ drop 4 old) payload in
    let front : take (n + 4) mid ≡ head ++ payload =
    take-put_mid 4 (4 + n - 4) (head ++ drop 4 old) payload (n + 4) (omega arith)
    (omega (arith, four, length-append head (drop 4 old)))
    ∙ ap (λ (l : List ℕ). l ++ payload) (take_at head (drop 4 old) 4 four) in
    let size : n + 4 < length mid =
    omega (
      arith,
      length-append (take 4 (head ++ drop 4 old))
          (payload ++ drop (4 + n - 4) (drop 4 (head ++ drop 4 old))),
      length-append payload (drop (4 + n - 4) (drop 4 (head ++ drop 4 old))),
      length-drop (4 + n - 4) (drop 4 (head ++ drop 4 old)),
      length-drop 4 (head ++ drop 4 old),
      length-append head (drop 4 old),
      length-drop 4 old,
      length-take 4 (head ++ drop 4 old),
    ) in
    let at : 4 + n ≡ n + 4 = omega arith in
    let last : n + 5 ≡ n + 4 + 1 = omega arith in
    ap (λ (k : ℕ). take (n + 5) (set mid k 0)) at ∙ ap (λ (k : ℕ). take k (set mid (n + 4) 0)) last ∙ take_more_set mid (n + 4) 0 size ∙ ap (λ (l : List ℕ). l ++ 0 ∷ []) front

pub returns : goal.returns
returns c =
    let head = c.write_u32.ensures in
    let body : c.copy_from_slice.new.self ≡ c.args.payload.now = c.copy_from_slice.ensures.after in
    simp (head, body) (block_is c.args.block.now (to_le_bytes w32 (length c.args.payload.now)) c.args.payload.now refl (omega (arith, c.requires.room)) c.requires.short)
