use Rattle.std.proofs.Common.{Result, Ok, Err, IfOk}
use Rattle.store_project.proofs.sessions.creates.Goals as goal

both : {X Y : Type 0} (r : Result X Y) (P Q R : X → Type 0) → ((x : X) → P x → Q x → R x) → IfOk r P → IfOk r Q → IfOk r R
both (Ok x) P Q R f p q = f x p q
both (Err y) P Q R f p q = tt

pub returns-clause-created : goal.returns-clause-created
returns-clause-created g c =
    both c.create.result _ _ _
    (λ p made kept. record { cap_is = search; empty = search; generation = search; reopen = search; kept = kept })
    c.create.ensures.made c.create.ensures.kept
