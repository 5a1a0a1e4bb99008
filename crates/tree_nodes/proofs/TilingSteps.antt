-- One more subsector.
use Rattle.std.proofs.Common.{◌≡◌, refl, sym, ap, ◌∙◌, ℕ, ◌+◌, ◌≤◌, ◌<◌, List, [], ◌∷◌, ◌++◌, append_assoc, length, drop, get_or, arith}
use Rattle.std.proofs.lemmas.List.{at_drop_more}
use Rattle.lump_records.specs.declared.records.Sub.{Sub}
use Rattle.tree_nodes.specs.References.{FollowsFrom}
use Rattle.tree_nodes.specs.Tiling.{count_list, total, IsTiledTo}
use Rattle.tree_nodes.proofs.Laying.{total_append}

counts_push : (us : List Sub) (sub : Sub) → count_list (us ++ sub ∷ []) ≡ count_list us ++ sub.count ∷ []
counts_push [] sub = refl
counts_push (u ∷ us) sub = ap (λ (l : List ℕ). u.count ∷ l) (counts_push us sub)

follow_push : (b : ℕ) (us : List Sub) (sub : Sub) → FollowsFrom b us → sub.first ≡ b + total (count_list us) → sub.first ≤ 32767 → 0 < sub.count → FollowsFrom b (us ++ sub ∷ [])
follow_push b [] sub f e l p = (omega arith, omega arith, p, tt)
follow_push b (u ∷ us) sub f e l p = (f.0, f.1, f.2, follow_push (b + u.count) us sub f.3 (omega arith) l p)

-- the next count and those behind it
rest_is : (counts : List ℕ) (i : ℕ) → i < length counts → drop i counts ≡ get_or counts i 0 ∷ drop (i + 1) counts
rest_is counts i l = at_drop_more (λ (xs : List ℕ). xs) counts i 0 l

pub room_left : (counts : List ℕ) (i first : ℕ) (subs : List Sub) → IsTiledTo counts i first subs → i < length counts → first + get_or counts i 0 ≤ total counts
room_left counts i first subs h l =
    let r = h.reach in
    let w = ap total (sym h.written) ∙ total_append (count_list subs) (drop i counts) in
    let d = ap total (rest_is counts i l) in
    omega arith

pub one_more : (counts : List ℕ) (i first : ℕ) (subs : List Sub) (sub : Sub) → IsTiledTo counts i first subs
    → i < length counts → 0 < get_or counts i 0 → total counts ≤ 32767 → sub.first ≡ first → sub.count
    ≡ get_or counts i 0 → IsTiledTo counts (i + 1) (first + sub.count) (subs ++ sub ∷ [])
one_more counts i first subs sub h l p few ef ec =
    let r = h.reach in
    let room = room_left counts i first subs h l in
    let t = ap total (counts_push subs sub) ∙ total_append (count_list subs) (sub.count ∷ []) in
    record {
      written = ap (λ (xs : List ℕ). xs ++ drop (i + 1) counts) (counts_push subs sub)
          ∙ append_assoc (count_list subs) (sub.count ∷ []) (drop (i + 1) counts)
          ∙ ap (λ (n : ℕ). count_list subs ++ (n ∷ drop (i + 1) counts)) ec
          ∙ ap (λ (xs : List ℕ). count_list subs ++ xs) (sym (rest_is counts i l)) ∙ h.written;
      follow = follow_push 0 subs sub h.follow (omega arith) (omega arith) (omega arith);
      reach = omega arith;
    }
