-- What the steps of a shape say together.
use Rattle.std.proofs.Common.{◌≡◌, ℕ, List, Option, length, subst}
use Rattle.map_commands.specs.declared.command.Command.{Command}
use Rattle.map_plane.specs.declared.places.PlacedLine.{PlacedLine}
use Rattle.map_tables.specs.Tables.{Tables}
use Rattle.map_areas.proofs.Leading.{LeadTo-drawn}
use Rattle.map_areas.specs.Apart.{KeepsAlone, doubled}
use Rattle.map_areas.specs.Bordered.{IsBordered}
use Rattle.map_areas.specs.Drawn.{LeadTo, drawn}
use Rattle.map_areas.specs.Stays.{AreInParts, BecomesLine, BecomesSide, EachBecomes, KeepsItems, KeepsRest}

-- what stays in the map that commands lead to stays in the one that they leave
pub stays_drawn : (m new : Tables) (cs : List Command) (es fs ds : List PlacedLine) (round : Option ℕ) (s : ℕ) → LeadTo m cs new → fs ≡ es → ds ≡ doubled fs
    → s ≡ length m.sectors → KeepsItems m new → EachBecomes (BecomesSide round s) m.sides new.sides → EachBecomes BecomesLine m.lines new.lines
    → AreInParts m new → ((n : ℕ) → KeepsAlone fs ds m new n) → KeepsRest es round m (drawn m cs)
stays_drawn m new cs es fs ds round s h edges twice number keeps sides lines parts alone =
    subst (λ (t : Tables). KeepsRest es round m t) (LeadTo-drawn m cs new h)
    (record {
      tables = keeps;
      sides = subst (λ (k : ℕ). EachBecomes (BecomesSide round k) m.sides new.sides) number sides;
      lines = lines;
      parts = parts;
      alone =
          subst (λ (gs : List PlacedLine). (n : ℕ) → KeepsAlone gs (doubled gs) m new n) edges
          (subst (λ (gs : List PlacedLine). (n : ℕ) → KeepsAlone fs gs m new n) twice alone);
    })

-- a border that lines cover in the map that commands lead to is covered in the one that they leave
pub bordered_drawn : (m new : Tables) (cs : List Command) (es fs : List PlacedLine) (round : Option ℕ) (s : ℕ) → LeadTo m cs new → fs ≡ es
    → s ≡ length m.sectors → IsBordered fs round s m new → IsBordered es round (length m.sectors) m (drawn m cs)
bordered_drawn m new cs es fs round s h edges number covered =
    subst (λ (t : Tables). IsBordered es round (length m.sectors) m t) (LeadTo-drawn m cs new h)
    (subst (λ (gs : List PlacedLine). IsBordered gs round (length m.sectors) m new) edges
    (subst (λ (k : ℕ). IsBordered fs round k m new) number covered))
