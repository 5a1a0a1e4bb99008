-- How the program answers its words (docs/COMMANDS.md, "The program").
use Rattle.std.specs.Prelude.{◌≡◌, ◌≤◌, ◌⊎◌, ℕ, List, Option, Result, IsSomeAnd}
use Rattle.std.specs.Io.KnownBytes.{Keeps}
use Rattle.clap.specs.Values.{kind_of}
use Rattle.clap.specs.Words.{Text, subcommand_of}
use Rattle.clap.specs.declared.error.Error.{Error}
use Rattle.clap.specs.declared.error.kind.ErrorKind.TheVariants.{DisplayHelp, DisplayVersion}
use Rattle.cli_words.specs.App.{leveled_app}
use Rattle.cli_words.specs.Help.{IsRefusal, without_help}
use Rattle.cli_words.specs.Request.{AsksFor}
use Rattle.cli_words.specs.declared.asked.Request.{Request}
use Rattle.cli_words.specs.declared.asked.RequestError.{RequestError}
use Rattle.cli_words.specs.declared.asked.RequestError.TheVariants.{Words, Help, Number, WholeAlone, NotARule, NotABox, Memory}
use Rattle.cli_refusals.specs.Statuses.{status_in}
use Rattle.cli_refusals.specs.declared.refusal.Refusal.{Refusal}
use Rattle.cli_program.specs.Deeds.{IsPerformed}
use Rattle.cli_program.specs.Kinds.{IsQuiet}
use Rattle.cli_program.specs.Notes.{HasToldNotes}
use Rattle.cli_program.specs.Typed.{IsTyped}
use Rattle.leveled.specs.Finding.{AreFound}
use Rattle.store_disk.specs.declared.disk.Disk.{Ghosts}

-- the words are for this request
abbrev pub Asks : List Text → Request → Type 0
Asks words request = IsSomeAnd (subcommand_of leveled_app (without_help words)) (AsksFor request)

-- the arguments ask clap for help or for the version
abbrev pub AsksForHelp : Error → Type 0
AsksForHelp error = (kind_of error ≡ DisplayHelp) ⊎ (kind_of error ≡ DisplayVersion)

-- the status of words that are no request: 2, but for help and the version 0, or 1 if they
-- can't be written
abbrev pub EndsWords : RequestError → ℕ → Type 0
EndsWords (Words error) status =
    (AsksForHelp error → status ≤ 1) × (¬ AsksForHelp error → status ≡ 2)
EndsWords (Help topic) status = status ≤ 1
EndsWords Number status = status ≡ 2
EndsWords WholeAlone status = status ≡ 2
EndsWords (NotARule word) status = status ≡ 2
EndsWords (NotABox text) status = status ≡ 2
EndsWords Memory status = status ≡ 2

-- the status is that of the request, which was done or refused; of standard input, output and error
-- it read and wrote what the request asks for
abbrev pub IsRequestDone : {D : Type 0} → Ghosts D → Request → ℕ → Option (List ℕ)
    → Option (List ℕ) → Option (List ℕ) → Option (List ℕ) → Option (List ℕ) → Option (List ℕ)
    → Type 0
IsRequestDone disk request status input-old input-new output-old output-new errors-old errors-new =
    ((how : Result ℕ Refusal) × (status ≡ status_in how)
    × IsPerformed disk request how input-old input-new output-old output-new)
    × (IsQuiet request status → Keeps errors-old errors-new)
    × HasToldNotes request status output-old output-new errors-old errors-new

-- the status is that of the request, to which a person typed lines; of standard input and output it
-- read and wrote what that says
abbrev pub IsRequestTyped : {D : Type 0} → Ghosts D → Request → ℕ → Option (List ℕ)
    → Option (List ℕ) → Option (List ℕ) → Option (List ℕ) → Type 0
IsRequestTyped disk request status input-old input-new output-old output-new =
    (how : Result ℕ Refusal) × (status ≡ status_in how)
    × IsTyped disk request how input-old input-new output-old output-new

-- the same of a request that was done from a terminal or not
abbrev pub IsDoneAnyway : {D : Type 0} → Ghosts D → Request → ℕ → Option (List ℕ) → Option (List ℕ)
    → Option (List ℕ) → Option (List ℕ) → Option (List ℕ) → Option (List ℕ) → Type 0
IsDoneAnyway disk request status input-old input-new output-old output-new errors-old errors-new =
    IsRequestDone disk request status input-old input-new output-old output-new errors-old
    errors-new
    ⊎ IsRequestTyped disk request status input-old input-new output-old output-new

-- the words are a request, which was done so, with the paths at which its WADs are found; or they
-- are none, and the status says so
abbrev pub IsAnswered : {D : Type 0} → Ghosts D → List Text → ℕ → Option (List ℕ) → Option (List ℕ)
    → Option (List ℕ) → Option (List ℕ) → Option (List ℕ) → Option (List ℕ) → Type 0
IsAnswered disk words status input-old input-new output-old output-new errors-old errors-new =
    ((asked : Request) × Asks words asked
    × (request : Request) × AreFound asked request
    × IsDoneAnyway disk request status input-old input-new output-old output-new errors-old
    errors-new)
    ⊎ ((error : RequestError) × IsRefusal words error × EndsWords error status)
