-- The seg of a piece by numbered places, and that it stays one as places are added.
use Rattle.std.proofs.Common.{◌≡◌, refl, sym, ap, ◌∙◌, subst, ℕ, zero, suc, ◌+◌, ◌<◌, List, [], ◌∷◌, ◌++◌, append_assoc, length, Some, slice_get, arith}
use Rattle.std.specs.Prelude.{slice_index_or}
use Rattle.lump_records.specs.declared.records.Vertex.{Vertex}
use Rattle.lump_records.specs.declared.records.Seg.{Seg}
use Rattle.lump_records.specs.declared.plane.Ray.{Ray}
use Rattle.tree_pieces.specs.declared.edge.Edge.{Edge}
use Rattle.tree_pieces.specs.declared.piece.Piece.{Piece}
use Rattle.tree_pieces.specs.Plane.{ray}
use Rattle.tree_pieces.specs.Pieces.{edge_at, edge_of, ray_of}
use Rattle.tree_pieces.specs.Angle.{IsAngle}
use Rattle.tree_pieces.specs.Offset.{IsOffset}
use Rattle.tree_pieces.specs.Segs.{no_vertex, facing_of, seg_ray, first_place, HasFields, NamesFirst}
use Rattle.std.specs.Prelude.{◌≤◌, ◌⊎◌}
use Rattle.std.proofs.Common.{inl, inr, ⊎_elim}
use Rattle.std.proofs.lemmas.Bool.{cases_lt}
use Rattle.std.proofs.lemmas.List.{length-append}
use Rattle.std.proofs.lemmas.List.Elements.{All-nil, All-cons, All-append}
use Rattle.std.proofs.lemmas.Option.{slice_get_within}
use Rattle.tree_pieces.specs.declared.edge.Facing.{Facing}
use Rattle.tree_pieces.specs.declared.edge.Facing.TheVariants.{Along, Against}
use Rattle.tree_pieces.proofs.Lists.{All-at}
use Rattle.tree_pieces.specs.Places.{IsKnown, StandsFirst}
use Rattle.tree_pieces.proofs.Known.{stays_first, new_first}
use Rattle.tree_nodes.specs.InRange.{greatest_number}
use Rattle.tree_nodes.specs.References.{IsNumber}
use Rattle.tree_nodes.specs.TreeLists.{IsEndOf}
use Rattle.tree_nodes.specs.Sound.{AreNew, IsNamedBefore}
use Rattle.tree_nodes.specs.Corners.{IsOneEnd}
use Rattle.tree_nodes.specs.Numbers.{IsNumbered, IsPlaceRefused, HasNumbers, HasMore, IsSegRefused, AreNumbered, HaveMore, AreSegsRefused}
use Rattle.tree_nodes.specs.declared.error.TreeError.{TreeError}
use Rattle.tree_nodes.specs.declared.error.TreeError.TheVariants.{OutOfMemory, NothingToBuild, TooManyVertices, TooManySegs, TooManySubsectors, TooDeep}
use Rattle.tree_nodes.proofs.Below.{at_place}
use Rattle.tree_nodes.proofs.Partings.{all_by}
use Rattle.tree_nodes.specs.TreeLists.{side_number, start_of, end_of, IsSegOf}
use Rattle.tree_nodes.proofs.SegLaws.{side_is}
use Rattle.tree_nodes.proofs.Places.{get_left, get_right, get_cases, only_place, push_cases}
use Rattle.tree_pieces.proofs.FirstList.{index_is}

append_nil : {X : Type 0} (xs : List X) → xs ≡ xs ++ []
append_nil [] = refl
append_nil (x ∷ xs) = ap (λ l. x ∷ l) (append_nil xs)

pub seg_made : (lines : List Edge) (vertices : List Vertex) (p : Piece) (s : Seg) → s.line ≡ p.line → s.side
    ≡ side_number p.side → slice_get vertices s.first ≡ Some (start_of lines p.side p) → slice_get vertices s.second
    ≡ Some (end_of lines p.side p) → IsAngle (ray_of lines p).dx (ray_of lines p).dy s.angle
    → IsOffset (ray_of lines p).start (start_of lines p.side p) s.offset → IsSegOf lines vertices p s
seg_made lines vertices p s l e f g a o =
    let r : seg_ray lines vertices s ≡ ray_of lines p = ap (λ (n : ℕ). ray (edge_at lines n) (facing_of s.side)) l ∙ ap (ray (edge_of lines p)) (side_is p.side s.side e) in
    let first : first_place lines vertices s ≡ start_of lines p.side p = index_is vertices s.first no_vertex (start_of lines p.side p) f in
    let fields : HasFields lines vertices s = record {
      angle = subst (λ (q : Ray). IsAngle q.dx q.dy s.angle) (sym r) a;
      offset = subst (λ (q : Ray). IsOffset q.start (first_place lines vertices s) s.offset) (sym r) (subst (λ (v : Vertex). IsOffset (ray_of lines p).start v s.offset) (sym first) o);
    } in
    record {
      line = l;
      side = e;
      first = first;
      second = index_is vertices s.second no_vertex (end_of lines p.side p) g;
      fields = fields;
    }

-- what stands in a list stands in a longer one
pub stays : (old new added : List Vertex) (n : ℕ) (v : Vertex) → new ≡ old ++ added → slice_get old n ≡ Some v → slice_get new n ≡ Some v
stays old new added n v e h = ap (λ (vs : List Vertex). slice_get vs n) e ∙ get_left old added n v h

-- a seg of a piece stays one as places are added
index_left : (xs ys : List Vertex) (n : ℕ) (d : Vertex) → n < length xs → slice_index_or (xs ++ ys) n d ≡ slice_index_or xs n d
index_left [] ys n d l = absurd (omega arith)
index_left (x ∷ xs) ys zero d l = refl
index_left (x ∷ xs) ys (suc n) d l = index_left xs ys n d (omega arith)

pub seg_stays : (lines : List Edge) (old added : List Vertex) (p : Piece) (s : Seg) → s.first < length old → s.second < length old → IsSegOf lines old p s → IsSegOf lines (old ++ added) p s
seg_stays lines old added p s a b h =
    let e = index_left old added s.first no_vertex a in
    let f = index_left old added s.second no_vertex b in
    let fields : HasFields lines (old ++ added) s = record { angle = h.fields.angle; offset = subst (λ (v : Vertex). IsOffset (seg_ray lines old s).start v s.offset) (sym e) h.fields.offset } in
    record { line = h.line; side = h.side; first = e ∙ h.first; second = f ∙ h.second; fields = fields }

-- ---- new places
pub none_new : (vs : List Vertex) → AreNew vs []
none_new vs n lo m v a b = let e = slice_get_within (vs ++ []) n v b in let l = ap length (append_nil vs) in absurd (omega arith)

-- a place that isn't known is new
pub one_new : (vs : List Vertex) (v : Vertex) → (IsKnown vs v → ⊥) → AreNew vs (v ∷ [])
one_new vs v unknown n lo m w a b =
    ⊎_elim
    (λ s. let e = slice_get_within vs n w s in absurd (omega arith))
    (λ s. subst (λ (k : ℕ). StandsFirst (vs ++ v ∷ []) k) (sym s.0) (new_first vs v unknown) m w a b)
    (push_cases vs v n w b)

-- new places behind new places
pub both_new : (vs ws xs : List Vertex) → AreNew vs ws → AreNew (vs ++ ws) xs → AreNew vs (ws ++ xs)
both_new vs ws xs g h n lo =
    subst (λ (l : List Vertex). StandsFirst l n) (append_assoc vs ws xs)
    (⊎_elim (λ below. let p = at_place (vs ++ ws) n below in stays_first (vs ++ ws) xs n p.0 p.1 (g n lo))
    (λ above. h n above) (cases_lt n (length (vs ++ ws))))

-- the same, where the first two are told as one
pub more_new : (old mid ws xs : List Vertex) → mid ≡ old ++ ws → AreNew old ws → AreNew mid xs → AreNew old (ws ++ xs)
more_new old mid ws xs e g h = both_new old ws xs g (subst (λ (l : List Vertex). AreNew l xs) e h)

-- the first of a place stays it as places are added
pub first_stays : (old new added : List Vertex) (n : ℕ) → new ≡ old ++ added → n < length old → StandsFirst old n → StandsFirst new n
first_stays old new added n e l h = subst (λ (vs : List Vertex). StandsFirst vs n) (sym e) (let p = at_place old n l in stays_first old added n p.0 p.1 h)

-- ---- one place
pub known_numbered : (old new : List Vertex) (v : Vertex) (n : ℕ) → length old ≤ greatest_number → slice_get new n ≡ Some v → StandsFirst new n → new ≡ old → IsNumbered old new v n
known_numbered old new v n few at first same =
    let l = ap length same in
    record {
      added = [];
      grown = same ∙ append_nil old;
      stands = at;
      first = first;
      only = λ m a b. absurd (omega arith);
      new_places = none_new old;
      few = omega arith;
    }

pub new_numbered : (old new : List Vertex) (v : Vertex) (n : ℕ) → length old < greatest_number → slice_get new n
    ≡ Some v → StandsFirst new n → (IsKnown old v → ⊥) → new ≡ old ++ v ∷ [] → IsNumbered old new v n
new_numbered old new v n few at first unknown grown =
    let l = ap length grown ∙ length-append old (v ∷ []) in
    let last : n ≡ length old = ⊎_elim (λ s. absurd (unknown (n, s))) (λ s. s.0) (push_cases old v n v (ap (λ (vs : List Vertex). slice_get vs n) (sym grown) ∙ at)) in
    record {
      added = v ∷ [];
      grown = grown;
      stands = at;
      first = first;
      only = λ m a b. omega arith;
      new_places = one_new old v unknown;
      few = omega arith;
    }

-- what stands in a list with more behind it
pub old_or_new : (old new added : List Vertex) (i : ℕ) (v : Vertex) → new ≡ old ++ added → slice_get new i ≡ Some v → i < length old → slice_get old i ≡ Some v
old_or_new old new added i v grown at l = ⊎_elim (λ s. s) (λ s. let e = s.1 in absurd (omega arith)) (get_cases old added i v (ap (λ (vs : List Vertex). slice_get vs i) (sym grown) ∙ at))

-- ---- the ends of one seg
pub has_numbers : (old mid new : List Vertex) (v w : Vertex) (s : Seg) → IsNumbered old mid v s.first → IsNumbered mid new w s.second → HasNumbers old new s
has_numbers old mid new v w s a b =
    let n = slice_get_within mid s.first v a.stands in
    let m = slice_get_within new s.second w b.stands in
    let l = ap length b.grown ∙ length-append mid b.added in
    let few = b.few in
    record {
      added = a.added ++ b.added;
      grown = b.grown ∙ ap (λ (vs : List Vertex). vs ++ b.added) a.grown ∙ append_assoc old a.added b.added;
      first = (omega arith, omega arith);
      second = (omega arith, omega arith);
      ends = λ k lo hi. ⊎_elim (λ below. inl (a.only k lo below)) (λ above. inr (b.only k above hi)) (cases_lt k (length mid));
      first_next = ⊎_elim (λ more. let e = a.only (length old) (omega arith) more in omega arith) (λ same. omega arith) (cases_lt (length old) (length mid));
      second_next = λ k lo e. ⊎_elim (λ below. a.only k lo below) (λ above. let f = b.only k above (omega arith) in absurd (omega arith)) (cases_lt k (length mid));
      firsts = (first_stays mid new b.added s.first b.grown n a.first, b.first);
      new_places = more_new old mid a.added b.added a.grown a.new_places b.new_places;
      few = b.few;
    }

pub first_more : (lines : List Edge) (old : List Vertex) (p : Piece) (v : Vertex) → greatest_number ≤ length old → (IsKnown old v → ⊥) → IsOneEnd lines p v → HasMore lines old p
first_more lines old p v full unknown is = record {
  added = v ∷ [];
  many = omega arith;
  new_places = one_new old v unknown;
  each = λ k u e. subst (IsOneEnd lines p) (only_place v u k e).1 is;
}

pub second_more : (lines : List Edge) (old mid : List Vertex) (p : Piece) (v w : Vertex) (n : ℕ)
    → IsNumbered old mid v n → greatest_number ≤ length mid → (IsKnown mid w → ⊥) → IsOneEnd lines p v
    → IsOneEnd lines p w → HasMore lines old p
second_more lines old mid p v w n a full unknown is_first is_second =
    let l = ap length a.grown ∙ length-append old a.added in
    let m = length-append a.added (w ∷ []) in
    record {
      added = a.added ++ w ∷ [];
      many = omega arith;
      new_places = more_new old mid a.added (w ∷ []) a.grown a.new_places (one_new mid w unknown);
      each = λ k u e. ⊎_elim (λ s. in_added k u s) (λ s. subst (IsOneEnd lines p) s.1 is_second) (push_cases a.added w k u e);
    }
  where
    in_added : (k : ℕ) (u : Vertex) → slice_get a.added k ≡ Some u → IsOneEnd lines p u
    in_added k u s =
        let l = ap length a.grown ∙ length-append old a.added in
        let w = slice_get_within a.added k u s in
        let e = a.only (length old + k) (omega arith) (omega arith) in
        let f = ap (λ (vs : List Vertex). slice_get vs (length old + k)) a.grown ∙ get_right old a.added (length old + k) k u refl s in
        let g = sym a.stands ∙ ap (slice_get mid) e ∙ f in
        let same : v ≡ u = cc in
        subst (IsOneEnd lines p) same is_first

-- a side's start and end are ends of the piece
pub start_one : (lines : List Edge) (f : Facing) (p : Piece) (v : Vertex) → v ≡ start_of lines f p → IsOneEnd lines p v
start_one lines Along p v e = inl e
start_one lines Against p v e = inr e

pub end_one : (lines : List Edge) (f : Facing) (p : Piece) (v : Vertex) → v ≡ end_of lines f p → IsOneEnd lines p v
end_one lines Along p v e = inr e
end_one lines Against p v e = inl e

pub first_refused : (lines : List Edge) (old : List Vertex) (p : Piece) (v : Vertex) (e : TreeError) → IsOneEnd lines p v → IsPlaceRefused old v e → IsSegRefused lines old p e
first_refused lines old p v TooManyVertices is h = first_more lines old p v h.0 h.1 is
first_refused lines old p v OutOfMemory is h = tt
first_refused lines old p v NothingToBuild is h = h
first_refused lines old p v TooManySegs is h = h
first_refused lines old p v TooManySubsectors is h = h
first_refused lines old p v TooDeep is h = h

pub second_refused : (lines : List Edge) (old mid : List Vertex) (p : Piece) (v w : Vertex) (n : ℕ) (e : TreeError)
    → IsNumbered old mid v n → IsOneEnd lines p v → IsOneEnd lines p w → IsPlaceRefused mid w e
    → IsSegRefused lines old p e
second_refused lines old mid p v w n TooManyVertices a is_first is_second h = second_more lines old mid p v w n a h.0 h.1 is_first is_second
second_refused lines old mid p v w n OutOfMemory a is_first is_second h = tt
second_refused lines old mid p v w n NothingToBuild a is_first is_second h = h
second_refused lines old mid p v w n TooManySegs a is_first is_second h = h
second_refused lines old mid p v w n TooManySubsectors a is_first is_second h = h
second_refused lines old mid p v w n TooDeep a is_first is_second h = h

-- ---- the ends of all segs
-- the seg's ends are vertices
abbrev IsIn : List Vertex → Seg → Type 0
IsIn vs t = IsNumber (length vs) t.first × IsNumber (length vs) t.second

module _ (lines : List Edge) (drawn : List Vertex) (ps : List Piece) where
  pub none_numbered : length drawn ≤ greatest_number → AreNumbered lines drawn drawn ps []
  none_numbered few = record {
    each = λ i p s a b. cc;
    ends = All-nil (λ (s : Seg). IsNumber (length drawn) s.first × IsNumber (length drawn) s.second);
    added = record { added = []; all = append_nil drawn; new = none_new drawn; ends = λ n a b. absurd (omega arith); first_in_order = λ i n s a lo e. cc; second_in_order = λ i n s a lo e. cc };
    firsts = All-nil (NamesFirst drawn);
    few = few;
  }

  module _ (old new : List Vertex) (segs : List Seg) (h : AreNumbered lines drawn old ps segs) where
    -- each place that was added is an end of a piece
    pub added_is_end : length segs ≤ length ps → (n : ℕ) (v : Vertex) → length drawn ≤ n → slice_get old n ≡ Some v → IsEndOf lines ps v
    added_is_end few n v above at = of_seg (h.added.ends n above (slice_get_within old n v at))
      where
        of_seg : ((i : ℕ) × (s : Seg) × (slice_get segs i ≡ Some s) × ((s.first ≡ n) ⊎ (s.second ≡ n))) → IsEndOf lines ps v
        of_seg g =
            let w = slice_get_within segs g.0 g.1 g.2 in
            let p = at_place ps g.0 (omega arith) in
            let is = h.each g.0 p.0 g.1 p.1 g.2 in (
              g.0,
              p.0,
              p.1,
              ⊎_elim (λ e. start_one lines p.0.side p.0 v
                  (sym (index_is old g.1.first no_vertex v (ap (slice_get old) e ∙ at)) ∙ is.first))
                  (λ e. end_one lines p.0.side p.0 v (sym (index_is old g.1.second no_vertex v
                  (ap (slice_get old) e ∙ at)) ∙ is.second)) g.3,
            )

    pub more_places : (k : ℕ) (p : Piece) → length segs ≤ length ps → slice_get ps k ≡ Some p → HasMore lines old p → HaveMore lines drawn ps
    more_places k p few at m =
        let l = ap length h.added.all ∙ length-append drawn h.added.added in
        let a = length-append h.added.added m.added in
        let f = m.many in
        record {
          added = h.added.added ++ m.added;
          many = omega arith;
          new_places = more_new drawn old h.added.added m.added h.added.all h.added.new m.new_places;
          each = λ n v e. ⊎_elim (λ s. added_is_end few (length drawn + n) v (omega arith)
              (ap (λ (vs : List Vertex). slice_get vs (length drawn + n)) h.added.all
              ∙ get_right drawn h.added.added (length drawn + n) n v refl s)) (λ s. (k, p, at, m.each s.0 v s.2))
              (get_cases h.added.added m.added n v e);
        }

    pub segs_refused : (k : ℕ) (p : Piece) (e : TreeError) → length segs ≤ length ps → slice_get ps k ≡ Some p → IsSegRefused lines old p e → AreSegsRefused lines drawn ps e
    segs_refused k p TooManyVertices few at h = more_places k p few at h
    segs_refused k p OutOfMemory few at h = tt
    segs_refused k p NothingToBuild few at h = h
    segs_refused k p TooManySegs few at h = h
    segs_refused k p TooManySubsectors few at h = h
    segs_refused k p TooDeep few at h = h

    -- the segs so far name each place that was added, and those behind them keep this
    named : (s : Seg) (n : ℕ) → length drawn ≤ n → n < length old → IsNamedBefore (segs ++ s ∷ []) (length segs) n
    named s n lo below = let e = h.added.ends n lo below in (e.0, e.1, slice_get_within segs e.0 e.1 e.2, get_left segs (s ∷ []) e.0 e.1 e.2, e.3)

    still_named : (s : Seg) (i n : ℕ) → IsNamedBefore segs i n → IsNamedBefore (segs ++ s ∷ []) i n
    still_named s i n e = (e.0, e.1, e.2, get_left segs (s ∷ []) e.0 e.1 e.3, e.4)

    first_order : (s : Seg) → HasNumbers old new s → (i n : ℕ) (t : Seg) → slice_get (segs ++ s ∷ []) i ≡ Some t → length drawn ≤ n → t.first ≡ n + 1 → IsNamedBefore (segs ++ s ∷ []) i n
    first_order s g i n t at lo e =
        ⊎_elim (λ a. still_named s i n (h.added.first_in_order i n t a lo e))
        (λ a.
        let f = ap (λ (x : Seg). x.first) a.1 in
        let k = g.first_next in
        subst (λ (j : ℕ). IsNamedBefore (segs ++ s ∷ []) j n) (sym a.0) (named s n lo (omega arith)))
        (push_cases segs s i t at)

    second_order : (s : Seg) → HasNumbers old new s → (i n : ℕ) (t : Seg) → slice_get (segs ++ s ∷ []) i ≡ Some t
        → length drawn ≤ n → t.second ≡ n + 1 → IsNamedBefore (segs ++ s ∷ []) i n ⊎ (t.first ≡ n)
    second_order s g i n t at lo e =
        ⊎_elim (λ a. ⊎_elim (λ b. inl (still_named s i n b)) (λ b. inr b) (h.added.second_in_order i n t a lo e))
        (λ a.
        ⊎_elim (λ below. inl (subst (λ (j : ℕ). IsNamedBefore (segs ++ s ∷ []) j n) (sym a.0) (named s n lo below)))
        (λ above. inr (ap (λ (x : Seg). x.first) (sym a.1) ∙ g.second_next n above (ap (λ (x : Seg). x.second) a.1 ∙ e)))
        (cases_lt n (length old)))
        (push_cases segs s i t at)

    pub next_numbered : (p : Piece) (s : Seg) → slice_get ps (length segs) ≡ Some p → IsSegOf lines new p s → HasNumbers old new s → AreNumbered lines drawn new ps (segs ++ s ∷ [])
    next_numbered p s at is g = record {
      each = λ i q t a b. ⊎_elim (λ e. old_seg i q t a e) (λ e. this_seg i q t a e.0 e.1) (push_cases segs s i t b);
      ends = All-append (IsIn new) segs (s ∷ []) (all_by (IsIn new) segs (λ i t e. wider t (All-at (IsIn old) segs i t h.ends e))) (All-cons (IsIn new) s [] (g.first, g.second) (All-nil (IsIn new)));
      added = record {
        added = h.added.added ++ g.added;
        all = g.grown ∙ ap (λ (vs : List Vertex). vs ++ g.added) h.added.all ∙ append_assoc drawn h.added.added g.added;
        new = more_new drawn old h.added.added g.added h.added.all h.added.new g.new_places;
        ends = λ n lo hi. ⊎_elim (λ below. let e =
            h.added.ends n lo below in (e.0, e.1, get_left segs (s ∷ []) e.0 e.1 e.2, e.3))
            (λ above. (length segs, s, get_right segs (s ∷ []) (length segs) 0 s (omega arith) refl, g.ends n above hi))
            (cases_lt n (length old));
        first_in_order = first_order s g;
        second_in_order = second_order s g;
      };
      firsts = All-append (NamesFirst new) segs (s ∷ [])
          (all_by (NamesFirst new) segs (λ i t e. firsts_stay t (All-at (IsIn old) segs i t h.ends e)
          (All-at (NamesFirst old) segs i t h.firsts e)))
          (All-cons (NamesFirst new) s [] g.firsts (All-nil (NamesFirst new)));
      few = g.few;
    }
      where
        firsts_stay : (t : Seg) → IsIn old t → NamesFirst old t → NamesFirst new t
        firsts_stay t i f = (first_stays old new g.added t.first g.grown i.0.0 f.0, first_stays old new g.added t.second g.grown i.1.0 f.1)

        wider : (t : Seg) → IsIn old t → IsIn new t
        wider t i =
            let l = ap length g.grown ∙ length-append old g.added in
            let a = i.0.0 in
            let b = i.1.0 in
            ((omega arith, i.0.1), (omega arith, i.1.1))

        old_seg : (i : ℕ) (q : Piece) (t : Seg) → slice_get ps i ≡ Some q → slice_get segs i ≡ Some t → IsSegOf lines new q t
        old_seg i q t a e =
            let n = All-at (IsIn old) segs i t h.ends e in
            subst (λ (vs : List Vertex). IsSegOf lines vs q t) (sym g.grown) (seg_stays lines old g.added q t n.0.0 n.1.0 (h.each i q t a e))

        this_seg : (i : ℕ) (q : Piece) (t : Seg) → slice_get ps i ≡ Some q → i ≡ length segs → s ≡ t → IsSegOf lines new q t
        this_seg i q t a e f =
            let u = ap (slice_get ps) e in
            let same : p ≡ q = cc in
            subst (λ (x : Piece). IsSegOf lines new x t) same (subst (IsSegOf lines new p) f is)
