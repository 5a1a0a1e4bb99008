-- Bytes that are written buffer by buffer.
use Rattle.std.proofs.Common.{◌≡◌, ◌∙◌, ap, subst, ℕ, ◌+◌, ◌*◌, ◌≤◌, List, [], ◌++◌, arith, Option, Some, None}
use Rattle.std.specs.Prelude.{◌%◌, replicate, take}
use Rattle.std.specs.Io.KnownBytes.{Appends, append_known}
use Rattle.std.proofs.KnownBytes.{Appends-trans}
use Rattle.std.proofs.lemmas.List.{replicate-append-replicate, take-replicate}

-- ---- held on their way

-- at first nothing is held
pub none_held : (u : Option (List ℕ)) (held : List ℕ) → held ≡ [] → Appends u (append_known u held) []
none_held None held e = tt
none_held (Some x) held e = ap (λ (h : List ℕ). x ++ h) e

-- what was held is written
pub all_sent : (u v w : Option (List ℕ)) (held bytes : List ℕ) → Appends u (append_known v held) bytes → Appends v w held → Appends u w bytes
all_sent None v w held bytes p q = tt
all_sent (Some x) None w held bytes p q = absurd p
all_sent (Some x) (Some y) None held bytes p q = absurd q
all_sent (Some x) (Some y) (Some z) held bytes p q = q ∙ p

-- ---- zeros

pub zeros_more : (u v w : Option (List ℕ)) (k : ℕ) → Appends u v (replicate (8192 * k) 0) → Appends v w (replicate 8192 0) → Appends u w (replicate (8192 * (k + 1)) 0)
zeros_more u v w k p q =
    let more : 8192 * k + 8192 ≡ 8192 * (k + 1) = omega arith in
    subst (Appends u w) (replicate-append-replicate (8192 * k) 8192 0 ∙ ap (λ (n : ℕ). replicate n 0) more)
    (Appends-trans u v w (replicate (8192 * k) 0) (replicate 8192 0) p q)

pub zeros_whole : (u v w : Option (List ℕ)) (k len : ℕ) → 8192 * k + len % 8192 ≡ len → Appends u v (replicate (8192 * k) 0) → Appends v w (take (len % 8192) (replicate 8192 0)) → Appends u w (replicate len 0)
zeros_whole u v w k len e p q =
    let fits : len % 8192 ≤ 8192 = omega arith in
    let rest : Appends v w (replicate (len % 8192) 0) = subst (Appends v w) (take-replicate (len % 8192) 8192 0 fits) q in
    subst (Appends u w) (replicate-append-replicate (8192 * k) (len % 8192) 0 ∙ ap (λ (n : ℕ). replicate n 0) e)
    (Appends-trans u v w (replicate (8192 * k) 0) (replicate (len % 8192) 0) p rest)
