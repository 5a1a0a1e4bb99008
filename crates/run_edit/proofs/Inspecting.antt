-- From what was read, audited and written of a level to what an inspection tells.
use Rattle.std.proofs.Common.{◌≡◌, ◌++◌, ℕ, Bool, true, false, not, List, Option, Some, None, is_some, length, refl, subst}
use Rattle.std.specs.Prelude.{◌↔◌}
use Rattle.std.specs.Io.KnownBytes.{Appends}
use Rattle.wad_build.specs.Audit.{first_fault}
use Rattle.wad_levels.specs.Levels.{IsLevel, Lumps}
use Rattle.wad_build.specs.Range.{IsInRange}
use Rattle.wad_build.specs.declared.fault.Fault.{Fault}
use Rattle.run_edit.specs.Inspections.{IsInspected, back_text, front_text, lengths_text, verdict_text}
use Rattle.run_edit.proofs.Going.{Appends-append}

-- no fault is told exactly where there is none
none_told : (fault : Option Fault) (sound : Bool) → is_some fault ≡ not sound → (sound ≡ true) ↔ (fault ≡ None)
none_told None true e = (λ h. refl, λ h. refl)
none_told None false e = (λ h. cc, λ h. cc)
none_told (Some fault) true e = (λ h. cc, λ h. cc)
none_told (Some fault) false e = (λ h. cc, λ h. cc)

pub told : (wad name : List ℕ) (l : Lumps) (fault : Option Fault) (sound : Bool) (u w x : Option (List ℕ))
    → IsLevel wad name l → fault ≡ first_fault l → (fault ≡ None) ↔ IsInRange l
    → is_some fault ≡ not sound → Appends u w (lengths_text l) → Appends w x (verdict_text fault) → IsInspected wad name sound u x
told wad name l fault sound u w x level first range is lengths verdict = record {
  level = l;
  read = level;
  written = subst (λ (f : Option Fault). Appends u x (lengths_text l ++ verdict_text f)) first
      (Appends-append u w x (lengths_text l) (verdict_text fault) lengths verdict);
  is = (λ e. range.0 ((none_told fault sound is).0 e), λ right. (none_told fault sound is).1 (range.1 right));
}

-- the lengths of a level, written in two parts
pub lengths_written : (l : Lumps) (u w x : Option (List ℕ)) (a b c d e f g h i j : ℕ)
    → a ≡ length l.things → b ≡ length l.lines → c ≡ length l.sides → d ≡ length l.vertices → e ≡ length l.segs
    → f ≡ length l.subs → g ≡ length l.nodes → h ≡ length l.sectors → i ≡ length l.reject → j ≡ length l.blockmap
    → Appends u w (front_text a b c d e) → Appends w x (back_text f g h i j) → Appends u x (lengths_text l)
lengths_written l u w x a b c d e f g h i j ea eb ec ed ee ef eg eh ei ej first second =
    let texts : front_text a b c d e ++ back_text f g h i j ≡ lengths_text l = rw (ea, eb, ec, ed, ee, ef, eg, eh, ei, ej) refl in
    subst (λ (text : List ℕ). Appends u x text) texts (Appends-append u w x (front_text a b c d e) (back_text f g h i j) first second)
