-- The groups of things, by type; the types are those of the "Unofficial Doom Specs" 1.666.
use Rattle.std.specs.Prelude.{ℕ, Bool, if◌then◌else◌, List, [], ◌∷◌, ℤ, pos, codes}
use Rattle.std.specs.Ordering.{int_eq}
use Rattle.lump_records.specs.Runs.{is_among}
use Rattle.map_picture.specs.declared.groups.Group.{Group}
use Rattle.map_picture.specs.declared.groups.Group.TheVariants.{Player, Deathmatch, Monster, Item, Other}

-- the starts of the four players
abbrev pub players : List (ℤ × ℤ)
players = (pos 1, pos 4) ∷ []

-- the monsters
abbrev pub monsters : List (ℤ × ℤ)
monsters =
    (pos 7, pos 7) ∷ (pos 9, pos 9) ∷ (pos 16, pos 16) ∷ (pos 58, pos 58) ∷ (pos 64, pos 69)
    ∷ (pos 71, pos 72)
    ∷ (pos 84, pos 84) ∷ (pos 88, pos 88) ∷ (pos 3001, pos 3006) ∷ []

-- weapons, ammunition, keys and whatever else a player picks up
abbrev pub items : List (ℤ × ℤ)
items =
    (pos 5, pos 6) ∷ (pos 8, pos 8) ∷ (pos 13, pos 13) ∷ (pos 17, pos 17) ∷ (pos 38, pos 40)
    ∷ (pos 82, pos 83)
    ∷ (pos 2001, pos 2008) ∷ (pos 2010, pos 2015) ∷ (pos 2018, pos 2019) ∷ (pos 2022, pos 2026)
    ∷ (pos 2045, pos 2049) ∷ []

-- the type is that of a start of one of the four players
unfoldable pub is_player : ℤ → Bool
is_player kind = is_among players kind

-- the type is that of a monster
unfoldable pub is_monster : ℤ → Bool
is_monster kind = is_among monsters kind

-- the type is that of an item
unfoldable pub is_item : ℤ → Bool
is_item kind = is_among items kind

-- the group of a type
abbrev pub group_of : ℤ → Group
group_of kind =
    if is_player kind then Player else if int_eq kind (pos 11) then Deathmatch
    else if is_monster kind then Monster
    else if is_item kind then Item else Other

-- the class of a group's marks
abbrev pub class_of : Group → List ℕ
class_of Player = codes "player"
class_of Deathmatch = codes "deathmatch"
class_of Monster = codes "monster"
class_of Item = codes "item"
class_of Other = codes "other"

-- the path of a group's marks, round (0,0), for a thing that faces right
abbrev pub shape_of : Group → List ℕ
shape_of Player = codes "M16 0L-12 12L-5 0L-12 -12Z"
shape_of Deathmatch = codes "M16 0L-12 12L-12 -12Z"
shape_of Monster = codes "M20 0L8 12L-12 12L-12 -12L8 -12Z"
shape_of Item = codes "M8 0L0 8L-8 0L0 -8ZM8 0L14 0"
shape_of Other = codes "M8 -8L8 8L-8 8L-8 -8ZM8 0L14 0"
