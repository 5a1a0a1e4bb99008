-- What becomes of each level rests on the names in the directory, and on what was drawn of the levels asked for.
use Rattle.std.proofs.Common.{◌≡◌, ◌∙◌, sym, subst, ℕ, Bool, List, None, get_or, map}
use Rattle.wad_levels.specs.Called.{is_level_asked}
use Rattle.wad_levels.specs.Drawn.{DrawnLists, drawn_lists, hindrance}
use Rattle.wad_levels.specs.declared.entries.LevelEntries.{LevelEntries}
use Rattle.wad_rebuild.specs.Alike.{HasSameDrawn, HasSameLevel, HaveSameLevels}
use Rattle.wad_rebuild.specs.Parts.{HasLumps}
use Rattle.wad_rebuild.specs.Rebuilt.{AreRebuilt, IsFate, IsRebuilt}
use Rattle.wad_rebuild.specs.Remade.{IsLeftFor, IsMadeAnew, IsUnmade}
use Rattle.wad_rebuild.specs.declared.cause.Cause.{Cause}
use Rattle.wad_rebuild.specs.declared.cause.Cause.TheVariants.{Hindered, TooManySectors, NoTree, NoBlockmap, OutOfMemory}
use Rattle.wad_rebuild.specs.declared.levels.Fate.{Fate}
use Rattle.wad_rebuild.specs.declared.levels.Fate.TheVariants.{NotAsked, Made, Left}
use Rattle.wad_rebuild.specs.declared.levels.RebuiltLevel.{RebuiltLevel}
use Rattle.wad_rebuild.proofs.AlikeLevels.{same_asked, same_drawn, same_hindrance, same_levels, same_name}
use Rattle.wad_rebuild.proofs.PartLemmas.{stands}

-- why none are made, where nothing hinders it
unmade_alike :
    (wad other : List ℕ) (l : LevelEntries) (c : Cause) → hindrance other l ≡ hindrance wad l → drawn_lists other l ≡ drawn_lists wad l
    → (hindrance wad l ≡ None) × IsUnmade (drawn_lists wad l) c → (hindrance other l ≡ None) × IsUnmade (drawn_lists other l) c
unmade_alike wad other l c e d i = (e ∙ i.0, subst (λ (x : DrawnLists). IsUnmade x c) (sym d) i.1)

-- why it is left
left_alike :
    (wad other : List ℕ) (l : LevelEntries) (c : Cause) → hindrance other l ≡ hindrance wad l → drawn_lists other l ≡ drawn_lists wad l → IsLeftFor wad l c
    → IsLeftFor other l c
left_alike wad other l (Hindered h) e d i = e ∙ i
left_alike wad other l TooManySectors e d i = unmade_alike wad other l TooManySectors e d i
left_alike wad other l (NoTree t) e d i = unmade_alike wad other l (NoTree t) e d i
left_alike wad other l (NoBlockmap b) e d i = unmade_alike wad other l (NoBlockmap b) e d i
left_alike wad other l OutOfMemory e d i = tt

-- what becomes of one level
fate_alike :
    (wad other : List ℕ) (asked : Bool) (l : LevelEntries) (f : Fate) → (HasSameDrawn wad other l → hindrance other l ≡ hindrance wad l)
    → HasSameLevel wad other l f → IsFate wad asked l f → IsFate other asked l f
fate_alike wad other asked l NotAsked e s i = i
fate_alike wad other asked l (Made m) e s i =
    let remade = i.1 in (
      i.0,
      record {
        unhindered = e s ∙ remade.unhindered;
        made = subst (λ (x : DrawnLists). IsMadeAnew x m) (sym (same_drawn wad other l s)) remade.made;
      },
    )
fate_alike wad other asked l (Left c) e s i = (i.0, left_alike wad other l c (e s) (same_drawn wad other l s) i.1, i.2)

pub rest_on_lumps :
    (wad other : List ℕ) (names : List (List ℕ)) (levels : List RebuiltLevel) → HasLumps wad → HasLumps other → HaveSameLevels wad other levels
    → AreRebuilt wad names levels → AreRebuilt other names levels
rest_on_lumps wad other names levels inside outside s are =
    let es = map (λ (l : RebuiltLevel). l.entries) levels in
    record {
      levels_are = same_levels wad other s.names es are.levels_are;
      each = λ k d lt. one es (get_or levels k d) (s.each k d lt) (are.each k d lt);
    }
  where
    one :
        (es : List LevelEntries) (l : RebuiltLevel) → HasSameLevel wad other l.entries l.fate
        → IsRebuilt wad es names l → IsRebuilt other es names l
    one es l same r =
        record {
          name_is = r.name_is ∙ sym (same_name wad other s.names l.entries);
          fate_is =
              subst (λ (b : Bool). IsFate other b l.entries l.fate) (sym (same_asked wad other s.names es names l.entries))
              (fate_alike wad other (is_level_asked wad es names l.entries) l.entries l.fate
              (λ d. same_hindrance wad other s.names (λ k lt. stands wad k inside lt) (λ k lt. stands other k outside lt) l.entries d) same r.fate_is);
        }
