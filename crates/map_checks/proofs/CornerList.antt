-- The corners whose counts differ, as a map of counts lists them, are the definition's.
use Rattle.std.proofs.Common.{◌≡◌, ℕ, ◌≤◌, Bool, true, false, cond, eqb, ◌&&◌, ◌||◌, not, List, [], ◌∷◌, ◌++◌, length, Option, Some, None, unwrap_or, map, filter, flat_map, refl, sym, ap, ◌∙◌, ◌⊎◌, inl, inr, ⊎_elim, arith}
use Rattle.std.specs.Cmp.{eq_by_cmp_equiv}
use Rattle.std.specs.Ordering.{nat_cmp}
use Rattle.std.specs.BTreeMap.{BTreeMap, IsOrdered, get, is_at}
use Rattle.std.specs.List.{list_any}
use Rattle.std.specs.List.Sorted.{IsStrictlySortedBy}
use Rattle.std.specs.Map.{keys_of, lookup}
use Rattle.std.specs.Option.{is_some}
use Rattle.std.proofs.lemmas.Bool.{cases_lt}
use Rattle.std.proofs.lemmas.List.{map-append}
use Rattle.std.proofs.lemmas.List.Kept.{IsStrictlySortedBy-filter}
use Rattle.std.proofs.lemmas.Map.Entries.{lookup-filter-values, option_filter}
use Rattle.std.proofs.lemmas.Map.Keys.{IsDistinct-from_sorted}
use Rattle.std.proofs.lemmas.Map.Lookups.{btree_set_from_contains, exact_pairs, exact_unsigned}
use Rattle.map_tables.specs.Tables.{Tables}
use Rattle.map_checks.specs.declared.corners.Degrees.{Degrees}
use Rattle.map_checks.specs.declared.finding.Finding.{Finding}
use Rattle.map_checks.specs.declared.finding.Finding.TheVariants.{SectorOpen}
use Rattle.map_checks.specs.Unused.{item_numbers}
use Rattle.map_checks.specs.Corners.{edges, is_open, open_corners}
use Rattle.map_checks.specs.Findings.{open_sectors}
use Rattle.map_checks.specs.Tallies.{corner_cmp, same_corner, no_degrees, degrees_of, is_uneven, corner_open, IsTally}
use Rattle.map_checks.proofs.AnyOf.{list_any-agree, list_any-filter, list_any-and, list_any-map, list_any-flat_map, any_outside, any_within}
use Rattle.map_checks.proofs.InOrder.{in_order-keys-filter, in_order-range, corner_total, in_order-rows}
use Rattle.map_checks.proofs.CornerSteps.{is_at-corner}

-- whether counts differ
abbrev differ : Degrees → Bool
differ d = not (eqb d.outgoing d.incoming)

-- ---- the corners that the map lists

uneven : List ((ℕ × ℕ) × Degrees) → List (ℕ × ℕ)
uneven es = keys_of (filter is_uneven es)

any-keys_of : (test : ℕ × ℕ → Bool) (es : List ((ℕ × ℕ) × Degrees)) → list_any test (keys_of es) ≡ is_some (lookup test es)
any-keys_of test [] = refl
any-keys_of test (e ∷ es) = head (test e.0) (any-keys_of test es)
  where
    head : (b : Bool) → list_any test (keys_of es) ≡ is_some (lookup test es)
        → (b || list_any test (keys_of es)) ≡ is_some (cond b (Some e.1) (lookup test es))
    head true h = refl
    head false h = h

some-differ : (o : Option Degrees) → is_some (option_filter differ o) ≡ differ (unwrap_or o no_degrees)
some-differ None = refl
some-differ (Some d) = kept (differ d)
  where
    kept : (b : Bool) → is_some (cond b (Some d) None) ≡ b
    kept true = refl
    kept false = refl

any-uneven : (m : BTreeMap (ℕ × ℕ) Degrees) → IsOrdered corner_cmp m → (q : ℕ × ℕ)
    → list_any (is_at (corner_cmp q)) (uneven m.entries) ≡ differ (degrees_of m q)
unfolding uneven
any-uneven m o q =
    any-keys_of (is_at (corner_cmp q)) (filter is_uneven m.entries)
    ∙ ap is_some (lookup-filter-values (eq_by_cmp_equiv corner_total) differ q m.entries (IsDistinct-from_sorted corner_cmp _ o))
    ∙ some-differ (get corner_cmp m q)

-- ---- the corners of the definition

row : Tables → ℕ → List ℕ
row m s = filter (is_open m s) (item_numbers m.vertices)

corners : Tables → List (ℕ × ℕ)
corners m = flat_map (λ s. map (λ v. (s, v)) (row m s)) (item_numbers m.sectors)

swap_test : (a b : Bool) (p : Bool) → (p && (a && b)) ≡ (a && (b && p))
swap_test true true true = refl
swap_test true true false = refl
swap_test true false true = refl
swap_test true false false = refl
swap_test false b true = refl
swap_test false b false = refl

any-corners : (m : Tables) (q : ℕ × ℕ)
    → list_any (is_at (corner_cmp q)) (corners m)
    ≡ list_any (λ s. eqb q.0 s && list_any (λ v. eqb q.1 v && is_open m s v) (item_numbers m.vertices)) (item_numbers m.sectors)
unfolding corners row
any-corners m q =
    list_any-agree (is_at (corner_cmp q)) (same_corner q) (is_at-corner q) (corners m)
    ∙ list_any-flat_map (same_corner q) (λ s. map (λ v. (s, v)) (row m s)) (item_numbers m.sectors)
    ∙ list_any-agree (λ s. list_any (same_corner q) (map (λ v. (s, v)) (row m s)))
    (λ s. eqb q.0 s && list_any (λ v. eqb q.1 v && is_open m s v) (item_numbers m.vertices))
    (λ s.
    list_any-map (same_corner q) (λ v. (s, v)) (row m s)
    ∙ list_any-filter (λ v. same_corner q (s, v)) (is_open m s) (item_numbers m.vertices)
    ∙ list_any-agree (λ v. is_open m s v && (eqb q.0 s && eqb q.1 v)) (λ v. eqb q.0 s && (eqb q.1 v && is_open m s v))
    (λ v. swap_test (eqb q.0 s) (eqb q.1 v) (is_open m s v)) (item_numbers m.vertices)
    ∙ list_any-and (eqb q.0 s) (λ v. eqb q.1 v && is_open m s v) (item_numbers m.vertices))
    (item_numbers m.sectors)

-- no corner beyond the map's is open
abbrev pub ClosedOutside : Tables → Type 0
ClosedOutside m = (s v : ℕ) → (length m.sectors ≤ s) ⊎ (length m.vertices ≤ v) → is_open m s v ≡ false

any-corner : (m : Tables) → ClosedOutside m → (s v : ℕ)
    → list_any (λ t. eqb s t && list_any (λ w. eqb v w && is_open m t w) (item_numbers m.vertices)) (item_numbers m.sectors) ≡ is_open m s v
any-corner m r s v =
    ⊎_elim
    (λ sl.
    any_within s (λ t. list_any (λ w. eqb v w && is_open m t w) (item_numbers m.vertices)) 0 (length m.sectors) (omega arith) (omega arith)
    ∙ ⊎_elim
    (λ vl. any_within v (is_open m s) 0 (length m.vertices) (omega arith) (omega arith))
    (λ vg. any_outside v (is_open m s) 0 (length m.vertices) (inr (omega arith)) ∙ sym (r s v (inr vg)))
    (cases_lt v (length m.vertices)))
    (λ sg.
    any_outside s (λ t. list_any (λ w. eqb v w && is_open m t w) (item_numbers m.vertices)) 0 (length m.sectors) (inr (omega arith))
    ∙ sym (r s v (inl sg)))
    (cases_lt s (length m.sectors))

corners-in_order : (m : Tables) → IsStrictlySortedBy corner_cmp (corners m)
unfolding corners row
corners-in_order m =
    in_order-rows (row m) (λ s. IsStrictlySortedBy-filter nat_cmp (is_open m s) (item_numbers m.vertices) (in_order-range (length m.vertices)))
    (item_numbers m.sectors) (in_order-range (length m.sectors))

-- ---- the two lists are equal

abbrev open_at : ℕ × ℕ → Finding
open_at c = SectorOpen c.0 c.1

findings-uneven : (es : List ((ℕ × ℕ) × Degrees)) → map corner_open (filter is_uneven es) ≡ map open_at (uneven es)
unfolding uneven
findings-uneven es = each (filter is_uneven es)
  where
    each : (fs : List ((ℕ × ℕ) × Degrees)) → map corner_open fs ≡ map open_at (keys_of fs)
    each [] = refl
    each (f ∷ fs) = ap (λ r. corner_open f ∷ r) (each fs)

findings-corners : (m : Tables) → map open_at (corners m) ≡ open_sectors m
unfolding corners row
findings-corners m = each (item_numbers m.sectors)
  where
    inner : (s : ℕ) (vs : List ℕ) → map open_at (map (λ v. (s, v)) vs) ≡ map (λ v. SectorOpen s v) vs
    inner s [] = refl
    inner s (v ∷ vs) = ap (λ r. SectorOpen s v ∷ r) (inner s vs)

    each : (ss : List ℕ) → map open_at (flat_map (λ s. map (λ v. (s, v)) (row m s)) ss) ≡ flat_map (open_corners m) ss
    each [] = refl
    each (s ∷ ss) =
        map-append open_at (map (λ v. (s, v)) (row m s)) (flat_map (λ s. map (λ v. (s, v)) (row m s)) ss)
        ∙ (λ i. inner s (row m s) i ++ each ss i)

pub open_list : (m : Tables) (d : BTreeMap (ℕ × ℕ) Degrees) → IsOrdered corner_cmp d → IsTally (edges m) d → ClosedOutside m
    → map corner_open (filter is_uneven d.entries) ≡ open_sectors m
unfolding uneven
open_list m d o t r =
    let same : (q : ℕ × ℕ) → list_any (is_at (corner_cmp q)) (uneven d.entries) ≡ list_any (is_at (corner_cmp q)) (corners m) =
    λ q. any-uneven d o q ∙ (λ i. not (eqb (t.outgoing q i) (t.incoming q i))) ∙ sym (any-corners m q ∙ any-corner m r q.0 q.1) in
    findings-uneven d.entries
    ∙ ap (map open_at)
    (btree_set_from_contains corner_total (record { keys = uneven d.entries }) (record { keys = corners m })
    (in_order-keys-filter corner_cmp is_uneven d.entries o) (corners-in_order m) same
    (exact_pairs nat_cmp nat_cmp exact_unsigned exact_unsigned))
    ∙ findings-corners m
