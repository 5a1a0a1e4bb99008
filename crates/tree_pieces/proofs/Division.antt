-- What a division keeps: each part lies in its half-plane, and the parts cover what the piece covered.
use Rattle.std.proofs.Common.{◌≡◌, refl, sym, ap, ◌∙◌, subst, ℕ, ◌+◌, ◌≤◌, ⊎_elim, List, [], ◌∷◌, ◌++◌, Some, None, Bool, true, false, cond, ◌&&◌, arith, nat_le, nat_lt, nat_eq}
use Rattle.std.proofs.lemmas.Bool.Decides.{nat_tests}
use Rattle.std.proofs.lemmas.List.Sums.{sum_by-append}
use Rattle.std.proofs.lemmas.Int.{ints, by_lt_z}
use Rattle.std.specs.Prelude.{ℤ, pos, ◌≤ℤ◌, ◌<ℤ◌, int_lt, if◌then◌else◌, IfSome, option_to_list}
use Rattle.lump_records.specs.declared.records.Vertex.{Vertex}
use Rattle.tree_pieces.specs.declared.edge.Edge.{Edge}
use Rattle.tree_pieces.specs.declared.frac.Frac.{Frac}
use Rattle.tree_pieces.specs.declared.piece.Piece.{Piece}
use Rattle.tree_pieces.specs.declared.piece.Place.{Place}
use Rattle.tree_pieces.specs.declared.piece.Place.TheVariants.{Right, Left, Across}
use Rattle.tree_pieces.specs.declared.edge.Facing.{Facing}
use Rattle.lump_records.specs.declared.plane.Ray.{Ray}
use Rattle.tree_pieces.specs.Plane.{vertex_value, dot, IsEdge}
use Rattle.tree_pieces.specs.Fractions.{between, crossing, IsFraction, AtMost, point_at, steps_between, step_within}
use Rattle.tree_pieces.specs.Pieces.{edge_of, ray_of, first_end, last_end, same_place, IsPiece, covers, cover, same_side}
use Rattle.tree_pieces.specs.Division.{value_by, LiesAlong, place_of_piece, kept, cut_at, parts_by, parts_of, IsPartOf, IsDivided}
use Rattle.lump_records.proofs.Signs.{linear}
use Rattle.tree_pieces.proofs.Rounding.{steps_rise}
use Rattle.tree_pieces.proofs.Crossing.{zero_everywhere, zero_there, zero_falling, zero_rising, IsCrossing, crossing_down, crossing_up, crossing_in}
use Rattle.tree_pieces.proofs.Lengths.{side_values_near, dot_not_zero}
use Rattle.tree_pieces.proofs.Placing.{Means, place_means}

-- a fraction is at most itself
pub at_most_self : (t : Frac) → AtMost t t
at_most_self t = omega (arith, ints)

-- ---- cover
-- the steps from x to z are those from x to y and those from y to z
within_sum : (x y z k : ℕ) → x ≤ y → y ≤ z → cond (nat_le x k && nat_lt k y) 1 0 + cond (nat_le y k && nat_lt k z) 1 0 ≡ cond (nat_le x k && nat_lt k z) 1 0
within_sum x y z k h l = grind (arith, nat_tests)

within_none : (x k : ℕ) → nat_le x k && nat_lt k x ≡ false
within_none x k = grind (arith, nat_tests)

-- the same for the pieces of one side
sum_of_one : (b : Bool) (x y z k : ℕ) → x ≤ y → y ≤ z → cond (b && (nat_le x k && nat_lt k y)) 1 0 + cond (b && (nat_le y k && nat_lt k z)) 1 0 ≡ cond (b && (nat_le x k && nat_lt k z)) 1 0
sum_of_one true x y z k h l = within_sum x y z k h l
sum_of_one false x y z k h l = refl

-- places that test as the same are the same
pub same_vertex_is : (u v : Vertex) → same_place u v ≡ true → u ≡ v
same_vertex_is u v e = let x : u.x ≡ v.x = grind (arith, ints) in let y : u.y ≡ v.y = grind (arith, ints) in
    let across : ℤ → Vertex = λ a. record { x = a; y = u.y } in
    let upward : ℤ → Vertex = λ b. record { x = v.x; y = b } in
    ap across x ∙ ap upward y

covers_none : (lines : List Edge) (line : ℕ) (side : Facing) (k : ℕ) (p : Piece) → same_place (first_end lines p) (last_end lines p) ≡ true → covers lines line side k p ≡ false
covers_none lines line side k p e =
    let s = same_vertex_is (first_end lines p) (last_end lines p) e in
    let a = (edge_of lines p).v1 in
    let n = ap (λ (v : Vertex). nat_le (steps_between a (first_end lines p)) k && nat_lt k (steps_between a v)) (sym s) ∙ within_none (steps_between a (first_end lines p)) k in
    by_front (nat_eq p.line line && same_side p.side side) (step_within (edge_of lines p) (first_end lines p) (last_end lines p) k) n
  where
    by_front : (b c : Bool) → c ≡ false → b && c ≡ false
    by_front true c h = h
    by_front false c h = refl

kept_cover : (lines : List Edge) (line : ℕ) (side : Facing) (k : ℕ) (p : Piece) → cover lines line side k (option_to_list (kept lines p)) ≡ cover lines line side k (p ∷ [])
kept_cover lines line side k p = by_test (same_place (first_end lines p) (last_end lines p)) refl
  where
    by_test : (b : Bool) → same_place (first_end lines p) (last_end lines p) ≡ b → cover lines line side k (option_to_list (if b then None else Some p)) ≡ cover lines line side k (p ∷ [])
    by_test true e = ap (λ (c : Bool). 0 + cond c 1 0) (sym (covers_none lines line side k p e))
    by_test false e = refl

-- a piece cut at a fraction between its ends
cut_cover : (lines : List Edge) (line : ℕ) (side : Facing) (k : ℕ) (p : Piece) (c : Frac) → IsFraction p.from
    → pos 1 ≤ℤ p.to.d → IsFraction c → AtMost p.from c → AtMost c p.to
    → cover lines line side k (record p { to = c } ∷ []) + cover lines line side k (record p { from = c } ∷ [])
    ≡ cover lines line side k (p ∷ [])
cut_cover lines line side k p c from to frac h l =
    let e = edge_of lines p in
    let x = steps_rise e p.from c from.positive frac.positive from.at_least_zero h in
    let y = steps_rise e c p.to frac.positive to frac.at_least_zero l in
    let s = sum_of_one (nat_eq p.line line && same_side p.side side) (steps_between e.v1 (point_at e p.from)) (steps_between e.v1 (point_at e c)) (steps_between e.v1 (point_at e p.to)) k x y in
    omega arith

kept_if : (lines : List Edge) (p : Piece) (P : Piece → Type 0) → (same_place (first_end lines p) (last_end lines p) ≡ false → P p) → IfSome (kept lines p) P
kept_if lines p P h = by_test (same_place (first_end lines p) (last_end lines p)) refl
  where
    by_test : (b : Bool) → same_place (first_end lines p) (last_end lines p) ≡ b → IfSome (if b then None else Some p) P
    by_test true e = tt
    by_test false e = h e

pub crossing_small : (r : Ray) (e : Edge) → dot r r ≤ℤ pos 1073676289 → IsEdge e → (crossing r e).d ≤ℤ pos 1073676289
crossing_small r e h l =
    let n = side_values_near r e h l in
    by_lt_z (vertex_value r e.v1) (vertex_value r e.v2)
    (λ k. subst (λ (c : Frac). c.d ≤ℤ pos 1073676289) (sym (zero_rising _ _ k)) n.1)
    (λ k. subst (λ (c : Frac). c.d ≤ℤ pos 1073676289) (sym (zero_falling _ _ k)) n.0)

-- ---- the parts
pub record MayDivide (lines : List Edge) (partition p : Piece) : Type 0 where
  pub long : pos 0 <ℤ dot (ray_of lines partition) (ray_of lines partition)
  pub short : dot (ray_of lines partition) (ray_of lines partition) ≤ℤ pos 1073676289
  pub line : IsEdge (edge_of lines p)
  pub piece : IsPiece lines p

module _ (lines : List Edge) (partition p : Piece) (may : MayDivide lines partition p) where
  whole : IsPartOf lines p p
  whole = record { piece = may.piece; line = refl; side = refl; from = at_most_self p.from; to = at_most_self p.to }

  on_it : (t : Frac) → LiesAlong lines partition p → value_by lines partition p t ≡ pos 0
  on_it t on = ap (λ (x : ℤ). between x (vertex_value (ray_of lines partition) (edge_of lines p).v2) t) on.0 ∙ ap (λ (x : ℤ). between (pos 0) x t) on.1 ∙ zero_everywhere t

  cut : (c : Frac) → IsFraction c → IsCrossing p.from c p.to
      → (same_place (first_end lines (record p { to = c })) (last_end lines (record p { to = c })) ≡ false
      → IsPartOf lines p (record p { to = c })) × (same_place (first_end lines (record p { from = c }))
      (last_end lines (record p { from = c })) ≡ false → IsPartOf lines p (record p { from = c }))
  cut c frac k =
      let a = k.after in
      let b = k.before in
      let q = may.piece in (
        λ h. record {
          piece =
              record { line_in = q.line_in; from_in = q.from_in; to_in = frac; rising = a; ends_differ = h };
          line = refl;
          side = refl;
          from = at_most_self p.from;
          to = omega (arith, linear);
        },
        λ h. record {
          piece =
              record { line_in = q.line_in; from_in = frac; to_in = q.to_in; rising = b; ends_differ = h };
          line = refl;
          side = refl;
          from = omega (arith, linear);
          to = at_most_self p.to;
        },
      )

  two_parts : (c : Frac) → IsFraction c → IsCrossing p.from c p.to → (line : ℕ) (side : Facing) (k : ℕ)
      → cover lines line side k (option_to_list (kept lines (record p { to = c }))
      ++ option_to_list (kept lines (record p { from = c }))) ≡ cover lines line side k (p ∷ [])
  two_parts c frac x line side k =
      let a = x.after in
      let b = x.before in
      let n = kept_cover lines line side k (record p { to = c }) in
      let f = kept_cover lines line side k (record p { from = c }) in
      let s = cut_cover lines line side k p c may.piece.from_in may.piece.to_in.positive frac (omega (arith, linear)) (omega (arith, linear)) in
      let j = sum_by-append (λ (q : Piece). cond (covers lines line side k q) 1 0) (option_to_list (kept lines (record p { to = c }))) (option_to_list (kept lines (record p { from = c }))) in
      omega arith

  two_parts_turned : (c : Frac) → IsFraction c → IsCrossing p.from c p.to → (line : ℕ) (side : Facing) (k : ℕ)
      → cover lines line side k (option_to_list (kept lines (record p { from = c }))
      ++ option_to_list (kept lines (record p { to = c }))) ≡ cover lines line side k (p ∷ [])
  two_parts_turned c frac x line side k =
      let a = x.after in
      let b = x.before in
      let n = kept_cover lines line side k (record p { to = c }) in
      let f = kept_cover lines line side k (record p { from = c }) in
      let s = cut_cover lines line side k p c may.piece.from_in may.piece.to_in.positive frac (omega (arith, linear)) (omega (arith, linear)) in
      let j = sum_by-append (λ (q : Piece). cond (covers lines line side k q) 1 0) (option_to_list (kept lines (record p { from = c }))) (option_to_list (kept lines (record p { to = c }))) in
      omega arith

  -- from the right of the partition to its left
  across_down : (pos 0 <ℤ value_by lines partition p p.from) × (value_by lines partition p p.to <ℤ pos 0) → IsDivided lines partition p (parts_by lines partition p Across)
  across_down m = by_test (int_lt (pos 0) (value_by lines partition p p.from)) refl
    where
      by_test : (b : Bool) → int_lt (pos 0) (value_by lines partition p p.from) ≡ b → IsDivided lines partition p (cut_at lines p (crossing (ray_of lines partition) (edge_of lines p)) b)
      by_test false e = absurd (let h = m.0 in omega (arith, ints))
      by_test true e =
          let r = ray_of lines partition in
          let a = vertex_value r (edge_of lines p).v1 in
          let b = vertex_value r (edge_of lines p).v2 in
          let c = crossing r (edge_of lines p) in
          let down = m.0 in
          let after = m.1 in
          let k = crossing_down a b p.from p.to may.piece.from_in.positive may.piece.to_in.positive may.piece.rising m.0 m.1 in
          let frac = crossing_in p.from c p.to may.piece.from_in may.piece.to_in k (crossing_small r (edge_of lines p) may.short may.line) in
          let z = zero_there a b in
          record {
            right = kept_if lines (record p { to = c }) _
                (λ h. (
                  (cut c frac k).0 h,
                  record {
                    from = omega (arith, linear);
                    to = omega (arith, linear);
                    direction = λ on. let o = on_it p.from on in absurd (omega (arith, linear));
                  },
                ));
            left = kept_if lines (record p { from = c }) _
                (λ h. (
                  (cut c frac k).1 h,
                  record {
                    from = omega (arith, linear);
                    to = omega (arith, linear);
                    direction = λ on. let o = on_it p.from on in absurd (omega (arith, linear));
                  },
                ));
            cover = two_parts c frac k;
          }

  across_up : (value_by lines partition p p.from <ℤ pos 0) × (pos 0 <ℤ value_by lines partition p p.to) → IsDivided lines partition p (parts_by lines partition p Across)
  across_up m = by_test (int_lt (pos 0) (value_by lines partition p p.from)) refl
    where
      by_test : (b : Bool) → int_lt (pos 0) (value_by lines partition p p.from) ≡ b → IsDivided lines partition p (cut_at lines p (crossing (ray_of lines partition) (edge_of lines p)) b)
      by_test true e = absurd (let h = m.0 in omega (arith, ints))
      by_test false e =
          let r = ray_of lines partition in
          let a = vertex_value r (edge_of lines p).v1 in
          let b = vertex_value r (edge_of lines p).v2 in
          let c = crossing r (edge_of lines p) in
          let down = m.0 in
          let after = m.1 in
          let k = crossing_up a b p.from p.to may.piece.from_in.positive may.piece.to_in.positive may.piece.rising m.0 m.1 in
          let frac = crossing_in p.from c p.to may.piece.from_in may.piece.to_in k (crossing_small r (edge_of lines p) may.short may.line) in
          let z = zero_there a b in
          record {
            right = kept_if lines (record p { from = c }) _
                (λ h. (
                  (cut c frac k).1 h,
                  record {
                    from = omega (arith, linear);
                    to = omega (arith, linear);
                    direction = λ on. let o = on_it p.from on in absurd (omega (arith, linear));
                  },
                ));
            left = kept_if lines (record p { to = c }) _
                (λ h. (
                  (cut c frac k).0 h,
                  record {
                    from = omega (arith, linear);
                    to = omega (arith, linear);
                    direction = λ on. let o = on_it p.from on in absurd (omega (arith, linear));
                  },
                ));
            cover = two_parts_turned c frac k;
          }

  by_place : (place : Place) → Means (value_by lines partition p p.from) (value_by lines partition p p.to)
      (dot (ray_of lines partition) (ray_of lines p)) place
      → IsDivided lines partition p (parts_by lines partition p place)
  by_place Right m = record {
    right = (whole, record { from = m.from; to = m.to; direction = λ on. m.direction (on_it p.from on) (on_it p.to on) });
    left = tt;
    cover = λ line side k. refl;
  }
  by_place Left m = record {
    right = tt;
    left = (
      whole,
      record {
        from = m.from;
        to = m.to;
        direction = λ on. let h =
            m.direction (on_it p.from on) (on_it p.to on) in by_lt_z (dot (ray_of lines partition) (ray_of lines p)) (pos 0)
            (λ l. l) (λ l. absurd (dot_not_zero (ray_of lines partition) (edge_of lines p) p.side may.long may.line on
            (omega (arith, linear))));
      },
    );
    cover = λ line side k. refl;
  }
  by_place Across m = ⊎_elim across_down across_up m

  -- the whole rule of division
  pub divided : IsDivided lines partition p (parts_of lines partition p)
  divided = by_place (place_of_piece lines partition p) (place_means (value_by lines partition p p.from) (value_by lines partition p p.to) (dot (ray_of lines partition) (ray_of lines p)))
