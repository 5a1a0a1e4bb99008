use Rattle.std.proofs.Common.{◌≡◌, ℕ, ◌+◌, List, [], ◌∷◌, ◌++◌, get_or, subst, sym, ◌∙◌, below_more, length-append, arith}
use Rattle.std.proofs.lemmas.List.{get_or_append_left, get_or_push}
use Rattle.map_tables.specs.Tables.{Tables}
use Rattle.map_lint.specs.Starts.{things_of_type}
use Rattle.map_lint.specs.Tallies.{AreStarts}
use Rattle.map_lint.proofs.starts.starts_of.Goals as goal

-- one more count
counts_more : (m : Tables) (n : ℕ) (starts : List ℕ) (v : ℕ) → AreStarts m n starts → v ≡ things_of_type m n → AreStarts m (n + 1) (starts ++ v ∷ [])
counts_more m n starts v a is = record {
  count = omega (arith, length-append starts (v ∷ []), a.count);
  counted =
      below_more (λ k. get_or (starts ++ v ∷ []) k 0 ≡ things_of_type m k) n
      (λ k lt. get_or_append_left starts (v ∷ []) 0 k (omega (arith, a.count)) ∙ a.counted k lt)
      (get_or_push starts v 0 n a.count ∙ is);
}

pub loop-kind-preserved : goal.loop-kind-preserved
loop-kind-preserved c =
    let m = c.args.map.now.tables in
    subst (λ (xs : List ℕ). AreStarts m (c.loop-kind.kind + 1) xs) (sym c.in_ok-push.ensures.items)
    (counts_more m c.loop-kind.kind c.loop-kind.starts.items c.things_of_type.result c.loop-kind.invariant c.things_of_type.ensures)
