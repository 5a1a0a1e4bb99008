-- Edges along which lines lead from stop to stop.
use Rattle.std.proofs.Common.{◌≡◌, ℕ, ◌+◌, ◌<◌, ◌≤◌, All, List, [], ◌∷◌, Option, get_or, length, subst, sym, take}
use Rattle.std.proofs.lemmas.List.{take_all}
use Rattle.std.proofs.lemmas.List.Elements.{All-cons, All-head, All-more, All-nil, All-tail}
use Rattle.map_plane.specs.declared.places.PlacedLine.{PlacedLine}
use Rattle.map_tables.specs.Tables.{Tables}
use Rattle.map_areas.specs.Bordered.{IsBordered, IsCovered}
use Rattle.map_areas.specs.Cuts.{IsLed, IsWalled, uncut}
use Rattle.map_areas.specs.declared.border.CutEdge.{CutEdge}

-- cut edges that lead through one sector alone, or the void, and have lines along them
covered_each : (o m : Tables) (round : Option ℕ) (s : ℕ) (cs : List CutEdge) → All (IsLed o round) cs → All (IsWalled o m s) cs → All (IsCovered o m round s) (uncut cs)
covered_each o m round s [] led walled = All-nil (IsCovered o m round s)
covered_each o m round s (c ∷ cs) led walled =
    All-cons (IsCovered o m round s) c.edge (uncut cs) (c.cuts.items, All-head (IsLed o round) c cs led, All-head (IsWalled o m s) c cs walled)
    (covered_each o m round s cs (All-tail (IsLed o round) c cs led) (All-tail (IsWalled o m s) c cs walled))

pub covered_all : (o m : Tables) (round : Option ℕ) (s : ℕ) (cs : List CutEdge) (es : List PlacedLine) → uncut cs ≡ es → All (IsLed o round) cs → All (IsWalled o m s) cs
    → IsBordered es round s o m
covered_all o m round s cs es edges led walled =
    subst (λ (ls : List PlacedLine). All (IsCovered o m round s) ls) edges (covered_each o m round s cs led walled)

-- ---- one item of a list after another

pub each_more : {X : Type 0} (P : X → Type 0) (ls es : List X) (i : ℕ) (x : X) → ls ≡ es → i < length ls → All P (take i es) → x ≡ get_or ls i x → P x → All P (take (i + 1) es)
each_more P ls es i x same within so is p =
    subst (λ gs. All P (take (i + 1) gs)) same (All-more P ls i x within (subst (λ gs. All P (take i gs)) (sym same) so) (subst P is p))

pub each_all : {X : Type 0} (P : X → Type 0) (ls es : List X) (n : ℕ) → ls ≡ es → length ls ≤ n → All P (take n es) → All P es
each_all P ls es n same le so = subst (All P) (take_all n es (subst (λ gs. length gs ≤ n) same le)) so
