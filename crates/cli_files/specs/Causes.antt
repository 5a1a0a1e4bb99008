-- The line that says why a file can't be opened or made (docs/COMMANDS.md, "Reasons and statuses").
use Rattle.std.specs.Prelude.{◌≡◌, ◌++◌, ◌∷◌, ℕ, List, [], Option, Some, codes}
use Rattle.lump_text.specs.Shown.{shown_text}
use Rattle.cli_files.specs.declared.cause.Cause.{Cause}
use Rattle.cli_files.specs.declared.cause.Cause.TheVariants.{System, Held, NotRegular, Holds, NoScript, Dash, NoPwad, NoPicture, Changed, OutOfMemory}
use Rattle.cli_files.specs.declared.content.Content.{Content}
use Rattle.cli_files.specs.declared.content.Content.TheVariants as content
use Rattle.cli_files.specs.declared.replaceable.Form.{Form}
use Rattle.cli_files.specs.declared.replaceable.Form.TheVariants.{Pwad, Picture}

-- two spaces, the path or another name as it is shown, a colon, the reason
abbrev pub cause_line : List ℕ → List ℕ → List ℕ
cause_line path reason = codes "  " ++ shown_text path ++ codes ": " ++ reason ++ 10 ∷ []

-- what is said of a file that holds something else than was asked for
abbrev pub content_text : Content → List ℕ
content_text content.Nothing = codes "is empty"
content_text content.Project = codes "is a project"
content_text content.Wad = codes "is a WAD"
content_text content.Picture = codes "is a picture"
content_text content.Text = codes "is a script, or another text"
content_text content.Other = codes "is no project, no WAD and no text"

-- what is said of a file that holds something else than a script
abbrev pub no_script_text : Content → List ℕ
no_script_text content.Project = codes "is a project, no script"
no_script_text content.Wad = codes "is a WAD, no script"
no_script_text held = codes "is no text"

-- the reason is the text for the cause; the system's own texts are left open
abbrev pub Says : Cause → List ℕ → Type 0
Says (System error) reason = Unit {0}
Says Held reason = reason ≡ codes "is open in another program"
Says NotRegular reason = reason ≡ codes "is no regular file"
Says (Holds held) reason = reason ≡ content_text held
Says (NoScript held) reason = reason ≡ no_script_text held
Says Dash reason = reason ≡ codes "names no file here; ./- does"
Says NoPwad reason = reason ≡ codes "is no PWAD; it is left alone"
Says NoPicture reason = reason ≡ codes "is no picture of a map; it is left alone"
Says Changed reason = reason ≡ codes "has changed meanwhile; it is left alone"
Says OutOfMemory reason = reason ≡ codes "finds no memory"

-- why a file that is there can't be opened and locked
abbrev pub IsOfHolding : Cause → Type 0
IsOfHolding (System error) = Unit {0}
IsOfHolding Held = Unit {0}
IsOfHolding NotRegular = Unit {0}
IsOfHolding _ = ⊥

-- why a file can't be opened, locked or copied, to read it
abbrev pub IsOfReading : Cause → Type 0
IsOfReading OutOfMemory = Unit {0}
IsOfReading cause = IsOfHolding cause

-- why a new file can't be opened, or the one in its place not be replaced by one of the form, if one
-- is given
abbrev pub IsOfOpeningNew : Option Form → Cause → Type 0
IsOfOpeningNew form (System error) = Unit {0}
IsOfOpeningNew form Held = Unit {0}
IsOfOpeningNew form NotRegular = ⊥
IsOfOpeningNew form (Holds held) = ⊥
IsOfOpeningNew form (NoScript held) = ⊥
IsOfOpeningNew form Dash = Unit {0}
IsOfOpeningNew form NoPwad = form ≡ Some Pwad
IsOfOpeningNew form NoPicture = form ≡ Some Picture
IsOfOpeningNew form Changed = ⊥
IsOfOpeningNew form OutOfMemory = Unit {0}

-- the system refused it
abbrev pub IsOfSystem : Cause → Type 0
IsOfSystem (System error) = Unit {0}
IsOfSystem _ = ⊥

-- why a new file can't take the place of another
abbrev pub IsOfPutting : Cause → Type 0
IsOfPutting (System error) = Unit {0}
IsOfPutting Changed = Unit {0}
IsOfPutting _ = ⊥
