-- The first hindrance: that of the entries, or else that of the lists.
use Rattle.std.proofs.Common.{◌≡◌, ◌∙◌, inl, inr, sym, ap, ℕ, List, Option, Some, None}
use Rattle.std.specs.Option.{option_or}
use Rattle.wad_levels.specs.Drawn.{DrawnLists, Hinders, drawn_lists, entries_hindrance, hindrance, lists_hindrance}
use Rattle.wad_levels.specs.Lengths.{HindersReading}
use Rattle.wad_levels.specs.declared.entries.LevelEntries.{LevelEntries}
use Rattle.wad_levels.specs.declared.hindrance.Hindrance.{Hindrance}

pub by_entries : (wad : List ℕ) (l : LevelEntries) (h : Hindrance) → entries_hindrance wad l ≡ Some h → hindrance wad l ≡ Some h
by_entries wad l h e = ap (λ (o : Option Hindrance). option_or o (lists_hindrance (drawn_lists wad l))) e

pub by_reading : (wad : List ℕ) (l : LevelEntries) (h : Hindrance) → HindersReading wad l h → Hinders wad l h
by_reading wad l h (inl lacks) = inl lacks
by_reading wad l h (inr e) = inr (by_entries wad l h e)

pub by_lists :
    (wad : List ℕ) (l : LevelEntries) (d : DrawnLists) (o : Option Hindrance) → entries_hindrance wad l ≡ None → d ≡ drawn_lists wad l
    → lists_hindrance d ≡ o → hindrance wad l ≡ o
by_lists wad l d o none e is =
    ap (λ (x : Option Hindrance). option_or x (lists_hindrance (drawn_lists wad l))) none ∙ ap lists_hindrance (sym e) ∙ is
