-- Lumps that are written one behind another.
use Rattle.std.proofs.Common.{◌≡◌, ◌∙◌, sym, ap, subst, ℕ, ◌+◌, List, [], ◌∷◌, ◌++◌, length, length-append, append-nil, arith, Option}
use Rattle.std.specs.Io.KnownBytes.{Appends}
use Rattle.std.proofs.KnownBytes.{Appends-trans}
use Rattle.wad_file.specs.Lumps.{Lump, all_bytes}
use Rattle.wad_file.proofs.DraftLemmas.{all_bytes-append}

-- the last of several
put_last : (u v : Option (List ℕ)) (x : List ℕ) → Appends u v x → Appends u v (x ++ [])
put_last u v x p = subst (Appends u v) (sym (append-nil x)) p

pub put_three : (a b c d : Option (List ℕ)) (x y z : List ℕ) → Appends a b x → Appends b c y → Appends c d z → Appends a d (x ++ (y ++ (z ++ [])))
put_three a b c d x y z p q r = Appends-trans a b d x (y ++ (z ++ [])) p (Appends-trans b c d y (z ++ []) q (put_last c d z r))

pub put_four : (a b c d e : Option (List ℕ)) (w x y z : List ℕ) → Appends a b w → Appends b c x → Appends c d y → Appends d e z → Appends a e (w ++ (x ++ (y ++ (z ++ []))))
put_four a b c d e w x y z o p q r = Appends-trans a b e w (x ++ (y ++ (z ++ []))) o (put_three b c d e x y z p q r)

-- three runs of lumps
pub put_runs : (a b c d : Option (List ℕ)) (x y z : List Lump) → Appends a b (all_bytes x) → Appends b c (all_bytes y) → Appends c d (all_bytes z) → Appends a d (all_bytes (x ++ (y ++ z)))
put_runs a b c d x y z p q r =
    let same : all_bytes x ++ (all_bytes y ++ all_bytes z) ≡ all_bytes (x ++ (y ++ z)) =
    ap (λ (bs : List ℕ). all_bytes x ++ bs) (sym (all_bytes-append y z)) ∙ sym (all_bytes-append x (y ++ z)) in
    subst (Appends a d) same (Appends-trans a b d (all_bytes x) (all_bytes y ++ all_bytes z) p (Appends-trans b c d (all_bytes y) (all_bytes z) q r))

pub ten_long :
    (b0 b1 b2 b3 b4 b5 b6 b7 b8 b9 : List ℕ)
    → length (b0 ++ (b1 ++ (b2 ++ (b3 ++ (b4 ++ (b5 ++ (b6 ++ (b7 ++ (b8 ++ (b9 ++ []))))))))))
    ≡ length b0 + length b1 + length b2 + length b3 + length b4 + length b5 + length b6 + length b7 + length b8 + length b9
ten_long b0 b1 b2 b3 b4 b5 b6 b7 b8 b9 = simp length-append (omega arith)
