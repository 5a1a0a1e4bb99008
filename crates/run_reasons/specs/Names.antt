-- The names of the refusals of a script's lines, by their numbers (docs/COMMANDS.md, "The refusals").
use Rattle.std.specs.Prelude.{ℕ, ◌==◌, ◌||◌, ◌&&◌, nat_le, nat_lt, List, codes, if◌then◌else◌}

-- the name of one of a command
abbrev pub command_name : ℕ → List ℕ
command_name code =
    if code == 1 then codes "NotACommand"
    else (if code == 2 then codes "OutOfRange"
    else (if code == 3 then codes "NoVertex"
    else (if code == 4 then codes "NoSector"
    else (if code == 5 then codes "NoSide"
    else (if code == 6 then codes "NoLine"
    else (if code == 7 then codes "NoThing"
    else (if code == 8 then codes "InUse"
    else (if code == 9 then codes "SameEnds"
    else (if code == 10 then codes "PlaceTaken"
    else (if code == 11 then codes "TwoSidedWithoutLeft"
    else (if code == 12 then codes "TableFull"
    else (if code == 13 then codes "LineTooLong"
    else (if code == 14 then codes "ProjectFull"
    else (if code == 15 then codes "BadName"
    else (if code == 16 then codes "TooManyMaps"
    else (if code == 17 then codes "MapNameTaken"
    else (if code == 18 then codes "NoSuchMap"
    else (if code == 19 then codes "CurrentMap"
    else codes "Memory"))))))))))))))))))

-- the name of one of the names, places, shapes and blocks in a script
abbrev pub script_name : ℕ → List ℕ
script_name code =
    if code == 20 then codes "NotAName"
    else (if code == 21 then codes "NotAReference"
    else (if code == 22 then codes "UnknownName"
    else (if code == 23 then codes "NothingAdded"
    else (if code == 24 then codes "NumberTooLarge"
    else (if code == 25 then codes "NotAPolygon"
    else (if code == 26 then codes "Crossing"
    else (if code == 27 then codes "SeveralSectors"
    else (if code == 28 then codes "NotEmpty"
    else (if code == 29 then codes "NoDoor"
    else (if code == 46 then codes "BadSum"
    else (if code == 47 then codes "OpenBlock"
    else (if code == 48 then codes "TooManyLines"
    else codes "NothingThere"))))))))))))

-- the name of one of a file
abbrev pub file_name : ℕ → List ℕ
file_name code =
    if code == 30 then codes "Device"
    else (if code == 32 then codes "Reopen"
    else (if code == 33 then codes "GenerationsSpent"
    else (if code == 37 then codes "ReaderFailed"
    else (if code == 42 then codes "NotAProject"
    else codes "Memory"))))

-- the name of a refusal
abbrev pub stop_name : ℕ → List ℕ
stop_name code =
    if nat_lt code 20 then command_name code
    else (if nat_lt code 30 || (nat_le 45 code && nat_le code 48) then script_name code
    else file_name code)
