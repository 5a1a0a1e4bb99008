-- The lines about blocks, one after the other.
use Rattle.std.proofs.Common.{◌≡◌, ℕ, ◌+◌, ◌-◌, ◌<◌, List, [], ◌∷◌, ◌++◌, length, take, get_or, ap, sym, subst, ◌∙◌, arith, append-nil, Option}
use Rattle.std.specs.Prelude.{flat_map, reverse}
use Rattle.std.specs.Io.KnownBytes.{Appends}
use Rattle.std.proofs.KnownBytes.{Appends-trans}
use Rattle.std.proofs.lemmas.List.{get_or-reverse, length-reverse, take_more}
use Rattle.std.proofs.lemmas.List.Concat.{flat_map-append}
use Rattle.map_blocks.specs.declared.stop.OpenBlock.{OpenBlock}

-- one block more was written about, from the innermost on
pub block_more : (f : OpenBlock → List ℕ) (bs : List OpenBlock) (i : ℕ) (d b : OpenBlock) (u v w : Option (List ℕ)) → i < length bs → b ≡ get_or bs (length bs - 1 - i) d
    → Appends u v (flat_map f (take i (reverse bs))) → Appends v w (f b) → Appends u w (flat_map f (take (i + 1) (reverse bs)))
block_more f bs i d b u v w below is before next =
    let inside : i < length (reverse bs) = omega (arith, below, length-reverse bs) in
    let here : get_or (reverse bs) i d ≡ b = get_or-reverse bs i d below ∙ sym is in
    let front : List ℕ = flat_map f (take i (reverse bs)) in
    let more : flat_map f (take (i + 1) (reverse bs)) ≡ front ++ f b =
    ap (flat_map f) (take_more (reverse bs) i d inside) ∙ flat_map-append f (take i (reverse bs)) (get_or (reverse bs) i d ∷ [])
    ∙ ap (λ (t : List ℕ). front ++ t) (append-nil (f (get_or (reverse bs) i d)) ∙ ap f here) in
    subst (λ (t : List ℕ). Appends u w t) (sym more) (Appends-trans u v w front (f b) before next)
