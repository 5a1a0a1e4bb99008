-- From a WAD in memory, which may stand for one in a file, to what becomes of the latter.
use Rattle.std.proofs.Common.{◌≡◌, ◌∙◌, refl, sym, ap, subst, ℕ, inr, List, [], ◌∷◌, ◌++◌, length, take, map, arith, Option, None, Some}
use Rattle.wad_file.specs.Lumps.{IsWadOf, Lump, wad_of, wad_size}
use Rattle.wad_file.specs.Placed.{AreContents, IsListWritten, Placed, lumps_over, placed_size}
use Rattle.wad_file.proofs.PlacedLemmas.{contents_over}
use Rattle.wad_rebuild.specs.Held.{IsGiven, IsWholeOf, at_hand, kept_lumps, placed_lumps}
use Rattle.wad_rebuild.specs.Rebuilt.{AreRebuilt, IsRebuiltAs, RefusesRebuild, greatest_size, rebuilt_lumps, size_limit, whole_refusal}
use Rattle.wad_rebuild.specs.Whole.{IsAcceptedWith, IsListOf, IsShortWad, RefusesBytes}
use Rattle.wad_rebuild.specs.declared.error.RebuildError.{RebuildError}
use Rattle.wad_rebuild.specs.declared.error.RebuildError.TheVariants.{TooLong, NotAWad, DirectoryOutside, NoSuchLevel, LumpOutside, OutOfMemory}
use Rattle.wad_rebuild.specs.declared.levels.RebuiltLevel.{RebuiltLevel}
use Rattle.wad_rebuild.proofs.Contents.{contents_size, contents_some, contents_unknown}
use Rattle.wad_rebuild.proofs.Filled.{all_at_hand, fill, hand_contents}
use Rattle.wad_rebuild.proofs.Following.{levels_follow}
use Rattle.wad_rebuild.proofs.StandIns.{accepted_too, is_of, long_is, rebuilt_too, ten_same, whole, whole_count}

-- ---- a WAD that stands in memory whole

hand_own : (xs : List Lump) → AreContents None (map at_hand xs) xs
hand_own [] = tt
hand_own (x ∷ xs) = (refl, refl, hand_own xs)

-- its lumps as they are written are those after what became of its levels
hand_lumps : (wad : List ℕ) (levels : List RebuiltLevel) (ls : List Lump) → AreContents None (placed_lumps wad None levels) ls → ls ≡ rebuilt_lumps wad levels
hand_lumps wad levels ls a = hand_contents (rebuilt_lumps wad levels) ls (subst (λ (ps : List Placed). AreContents None ps ls) (all_at_hand wad 0 levels) a)

hand_size : (wad : List ℕ) (levels : List RebuiltLevel) → wad_size (rebuilt_lumps wad levels) ≡ placed_size (placed_lumps wad None levels)
hand_size wad levels =
    contents_size (map at_hand (rebuilt_lumps wad levels)) (rebuilt_lumps wad levels) (hand_own (rebuilt_lumps wad levels)) ∙ ap placed_size (sym (all_at_hand wad 0 levels))

-- so are those that are written of a known source
over_hand : (source : List ℕ) (xs : List Lump) → lumps_over source (map at_hand xs) ≡ xs
over_hand source [] = refl
over_hand source (x ∷ xs) = ap (λ (ls : List Lump). x ∷ ls) (over_hand source xs)

pub short_wad :
    (source wad kind : List ℕ) (levels : List RebuiltLevel) (list : List Placed) (len : ℕ) (old new : List ℕ) → len ≡ length wad → kind ≡ take 4 wad → old ≡ []
    → IsListOf wad None len levels list → IsListWritten (Some source) kind list (Some old) (Some new) → IsShortWad (take 4 wad) (greatest_size wad) (rebuilt_lumps wad levels) new
short_wad source wad kind levels list len old new n k none l w =
    let e = contents_over source list w.lumps w.are ∙ ap (lumps_over source) (l.lumps_are ∙ all_at_hand wad 0 levels) ∙ over_hand source (rebuilt_lumps wad levels) in
    let whole : new ≡ wad_of kind w.lumps = w.put ∙ ap (λ (b : List ℕ). b ++ wad_of kind w.lumps) none in
    let is : IsWadOf (take 4 wad) (rebuilt_lumps wad levels) (wad_of kind w.lumps) =
    subst (λ (d : List ℕ). IsWadOf d (rebuilt_lumps wad levels) (wad_of kind w.lumps)) k (subst (λ (ls : List Lump). IsWadOf kind ls (wad_of kind w.lumps)) e w.reads) in
    let size = hand_size wad levels ∙ ap placed_size (sym l.lumps_are) in
    let most = ap size_limit n in
    let fits = l.fits in
    record { wad_is = subst (IsWadOf (take 4 wad) (rebuilt_lumps wad levels)) (sym whole) is; fits = omega (arith, size, most, fits) }

pub hand_refused : (wad : List ℕ) (levels : List RebuiltLevel) (len : ℕ) (e : RebuildError) → len ≡ length wad → RefusesBytes (size_limit len) (placed_size (placed_lumps wad None levels)) e
    → RefusesBytes (greatest_size wad) (wad_size (rebuilt_lumps wad levels)) e
hand_refused wad levels len e n r =
    subst (λ (size : ℕ). RefusesBytes (greatest_size wad) size e) (sym (hand_size wad levels))
    (subst (λ (most : ℕ). RefusesBytes most (placed_size (placed_lumps wad None levels)) e) (ap size_limit n) r)

-- ---- what becomes of the WAD that is given

-- these are the lumps of the whole WAD after what became of its levels
pub record IsWholeRebuilt (wad : List ℕ) (held : Option (List ℕ)) (len : ℕ) (names : List (List ℕ)) (levels : List RebuiltLevel) (ls : List Lump) : Type 0 where
  pub whole : List ℕ
  pub is_whole : IsWholeOf wad held len whole
  pub accepted : whole_refusal whole names ≡ None
  pub levels_are : AreRebuilt whole names levels
  pub lumps_are : rebuilt_lumps whole levels ≡ ls
  pub kind : take 4 whole ≡ take 4 wad
  pub long : length whole ≡ len

whole_rebuilt :
    (wad : List ℕ) (held : Option (List ℕ)) (len : ℕ) (names : List (List ℕ)) (levels : List RebuiltLevel) (ls : List Lump) → IsGiven wad held len → IsAcceptedWith wad names levels
    → AreContents None (placed_lumps wad held levels) ls → IsWholeRebuilt wad held len names levels ls
whole_rebuilt wad None len names levels ls g a c =
    record {
      whole = wad;
      is_whole = refl;
      accepted = a.accepted;
      levels_are = a.levels_are;
      lumps_are = sym (hand_lumps wad levels ls c);
      kind = refl;
      long = sym g;
    }
whole_rebuilt wad (Some d) len names levels ls g a c =
    let held = Some d in
    let f = fill wad held 0 levels ls (levels_follow wad names levels a.levels_are) c in
    let is = is_of wad held len g f.lumps f.are in
    record {
      whole = whole wad held len g f.lumps f.are;
      is_whole = (long_is wad held len g f.lumps f.are, subst (AreContents None (kept_lumps wad held)) (sym is.lumps_are) f.are);
      accepted = accepted_too wad held len g f.lumps f.are names levels a;
      levels_are = rebuilt_too wad held len g f.lumps f.are names levels a.levels_are;
      lumps_are = f.give (whole wad held len g f.lumps f.are) [] is.lumps_are refl (whole_count wad held len g f.lumps f.are) (ten_same wad held len g f.lumps f.are);
      kind = is.kind_is;
      long = long_is wad held len g f.lumps f.are;
    }

-- it was rebuilt into these bytes
pub record IsRebuiltWhole (wad : List ℕ) (held : Option (List ℕ)) (len : ℕ) (names : List (List ℕ)) (levels : List RebuiltLevel) (bytes : List ℕ) : Type 0 where
  pub whole : List ℕ
  pub is_whole : IsWholeOf wad held len whole
  pub rebuilt : IsRebuiltAs whole names levels bytes

pub given_rebuilt :
    (source : Option (List ℕ)) (wad : List ℕ) (held : Option (List ℕ)) (len : ℕ) (names : List (List ℕ)) (levels : List RebuiltLevel) (list : List Placed) (old new : Option (List ℕ))
    → IsGiven wad held len → IsAcceptedWith wad names levels → IsListOf wad held len levels list → (w : IsListWritten source (take 4 wad) list old new)
    → IsRebuiltWhole wad held len names levels (wad_of (take 4 wad) w.lumps)
given_rebuilt source wad held len names levels list old new g a l w =
    let here : AreContents None list w.lumps = contents_unknown source list w.lumps w.are in
    let r = whole_rebuilt wad held len names levels w.lumps g a (subst (λ (ps : List Placed). AreContents None ps w.lumps) l.lumps_are here) in
    let bytes = wad_of (take 4 wad) w.lumps in
    let size = ap wad_size r.lumps_are ∙ contents_size list w.lumps here in
    let most = ap size_limit r.long in
    let fits = l.fits in
    record {
      whole = r.whole;
      is_whole = r.is_whole;
      rebuilt = record {
        accepted = r.accepted;
        levels_are = r.levels_are;
        bytes_are = subst (λ (k : List ℕ). IsWadOf k (rebuilt_lumps r.whole levels) bytes) (sym r.kind) (subst (λ (ls : List Lump). IsWadOf (take 4 wad) ls bytes) (sym r.lumps_are) w.reads);
        fits = omega (arith, size, most, fits);
      };
    }

-- what refuses its bytes refuses it
pub given_refused :
    (wad : List ℕ) (held : Option (List ℕ)) (len : ℕ) (names : List (List ℕ)) (levels : List RebuiltLevel) (e : RebuildError) → IsGiven wad held len → IsAcceptedWith wad names levels
    → RefusesBytes (size_limit len) (placed_size (placed_lumps wad held levels)) e → (some : List ℕ) × IsWholeOf wad held len some × RefusesRebuild some names e
given_refused wad held len names levels e g a refuses =
    let b = contents_some (placed_lumps wad held levels) in
    let r = whole_rebuilt wad held len names levels b.lumps g a b.are in
    let size = ap wad_size r.lumps_are ∙ contents_size (placed_lumps wad held levels) b.lumps b.are in
    (r.whole, r.is_whole, by e b.lumps r (sym size) (sym (ap size_limit r.long)) refuses)
  where
    by :
        (f : RebuildError) (ls : List Lump) (r : IsWholeRebuilt wad held len names levels ls) → placed_size (placed_lumps wad held levels) ≡ wad_size (rebuilt_lumps r.whole levels) → size_limit len ≡ greatest_size r.whole
        → RefusesBytes (size_limit len) (placed_size (placed_lumps wad held levels)) f → RefusesRebuild r.whole names f
    by TooLong ls r size most q = inr (record { accepted = r.accepted; levels = levels; are = r.levels_are; long = omega (arith, size, most, q) })
    by NotAWad ls r size most q = absurd q
    by DirectoryOutside ls r size most q = absurd q
    by NoSuchLevel ls r size most q = absurd q
    by LumpOutside ls r size most q = absurd q
    by OutOfMemory ls r size most q = tt
