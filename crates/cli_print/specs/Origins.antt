-- Which items a finding or a warning is about, and what is written behind it of where these come from.
use Rattle.std.specs.Prelude.{ℕ, Option, None, Some, List, [], ◌∷◌, ◌++◌, filter, map, not}
use Rattle.std.specs.List.{concat}
use Rattle.std.specs.Str.{bytes_eq}
use Rattle.map_tables.specs.declared.kind.Kind.{Kind}
use Rattle.map_tables.specs.declared.kind.Kind.TheVariants as kind
use Rattle.map_checks.specs.Texts.{finding_text}
use Rattle.map_checks.specs.declared.finding.Finding.{Finding}
use Rattle.map_checks.specs.declared.finding.Finding.TheVariants.{VertexUnused, SideUnused, SectorUnused, TextureMissing, SectorOpen, NoPlayerStart}
use Rattle.map_lint.specs.Texts.{warning_text}
use Rattle.map_lint.specs.declared.warning.Rule.{Rule}
use Rattle.map_lint.specs.declared.warning.Rule.TheVariants.{PlayerStart, OneStart, DeathmatchStarts, CeilingAboveFloor, TagOfLine, SectorSpecialKnown, ThingKnown, SectorInside, ThingInside, LevelEnds, NeighboursFit, ThingFree, FlatKnown}
use Rattle.map_lint.specs.declared.warning.Warning.{Warning}
use Rattle.cli_print.specs.declared.items.About.{About}
use Rattle.cli_print.specs.declared.items.About.TheVariants.{WholeMap, One, Two}
use Rattle.cli_print.specs.declared.items.Item.{Item}

-- the item of a kind with a number
abbrev pub map_item : Kind → ℕ → Item
map_item of n = record { kind = of; number = n }

-- the items that a finding is about, in the order in which it names them
abbrev pub items_of_finding : Finding → List Item
items_of_finding (VertexUnused n) = map_item kind.Vertex n ∷ []
items_of_finding (SideUnused n) = map_item kind.Side n ∷ []
items_of_finding (SectorUnused n) = map_item kind.Sector n ∷ []
items_of_finding (TextureMissing line left texture) = map_item kind.Line line ∷ []
items_of_finding (SectorOpen sector vertex) =
    map_item kind.Sector sector ∷ map_item kind.Vertex vertex ∷ []
items_of_finding NoPlayerStart = []

-- the kind of the items that a rule is about, if it is not about the whole map
abbrev pub kind_of_rule : Rule → Option Kind
kind_of_rule PlayerStart = None
kind_of_rule DeathmatchStarts = None
kind_of_rule LevelEnds = None
kind_of_rule CeilingAboveFloor = Some kind.Sector
kind_of_rule TagOfLine = Some kind.Sector
kind_of_rule SectorSpecialKnown = Some kind.Sector
kind_of_rule SectorInside = Some kind.Sector
kind_of_rule NeighboursFit = Some kind.Sector
kind_of_rule FlatKnown = Some kind.Sector
kind_of_rule OneStart = Some kind.Thing
kind_of_rule ThingKnown = Some kind.Thing
kind_of_rule ThingInside = Some kind.Thing
kind_of_rule ThingFree = Some kind.Thing
kind_of_rule _ = Some kind.Line

-- the item of the kind with the number, if there is a kind
abbrev pub item_of_kind : Option Kind → ℕ → List Item
item_of_kind None n = []
item_of_kind (Some of) n = map_item of n ∷ []

-- the item that a warning is about
abbrev pub items_of_warning : Warning → List Item
items_of_warning w = item_of_kind (kind_of_rule w.rule) w.number

-- the items that an `About` names
abbrev pub items_in : About → List Item
items_in WholeMap = []
items_in (One a) = a ∷ []
items_in (Two a b) = a ∷ b ∷ []

-- these texts, each where it stands first
abbrev pub texts_once : List (List ℕ) → List (List ℕ)
texts_once [] = []
texts_once (text ∷ texts) = text ∷ filter (λ t. not (bytes_eq t text)) (texts_once texts)

-- where these items of the map with the name come from: what is written of each, but nothing twice
abbrev pub origins_text : (List ℕ → Kind → ℕ → List ℕ) → List ℕ → List Item → List ℕ
origins_text origin name items =
    concat (texts_once (map (λ i. origin name i.kind i.number) items))

-- nothing is known of where items come from
abbrev pub no_origin : List ℕ → Kind → ℕ → List ℕ
no_origin name of n = []

-- the text of a finding of the map with the name, and where its items come from
abbrev pub finding_told : (List ℕ → Kind → ℕ → List ℕ) → List ℕ → Finding → List ℕ
finding_told origin name f = finding_text f ++ origins_text origin name (items_of_finding f)

-- the text of a warning of the map with the name, and where its item comes from
abbrev pub warning_told : (List ℕ → Kind → ℕ → List ℕ) → List ℕ → Warning → List ℕ
warning_told origin name w = warning_text w ++ origins_text origin name (items_of_warning w)
