-- Scripts that include files (docs/COMMANDS.md, "Files that a script includes"): the lines of a file
-- stand in the place of the line that includes it. A file tells no bytes, so its text is open.
use Rattle.std.specs.Prelude.{◌≡◌, ◌⊎◌, ℕ, zero, suc, List, [], ◌∷◌, ◌++◌, Option, Some, None, Result, Ok, Err, MatchResult, slice_get}
use Rattle.std.specs.Io.KnownBytes.{Appends, Keeps}
use Rattle.std.specs.Path.{path_with_file_name}
use Rattle.lump_text.specs.Shown.{shown_lines, shown_text}
use Rattle.map_script.specs.Includes.{include_words, only_word}
use Rattle.map_script.specs.Scripts.{script_lines}
use Rattle.map_script.specs.Words.{text_words}
use Rattle.run_reasons.specs.Refused.{line_refusal}
use Rattle.run_canvas.specs.declared.error.ScriptError.{ScriptError}
use Rattle.run_canvas.specs.declared.error.ScriptError.TheVariants as cut
use Rattle.run_edit.specs.declared.error.EditorError.TheVariants.{OutOfMemory}
use Rattle.cli_refusals.specs.declared.refusal.Refusal.{Refusal}
use Rattle.cli_refusals.specs.declared.refusal.Refusal.TheVariants as of

-- ---- The lines

-- what a line of the file at a path stands for, by the words behind its `include` if it has one: for
-- itself; or for what the lines of the file of that word stand for, by a rule
abbrev pub LineStandsFor : (List ℕ → List (ℕ × List ℕ) → List (ℕ × List ℕ) → List (List ℕ) → Type 0)
    → List ℕ → ℕ × List ℕ → Option (List (List ℕ)) → List (ℕ × List ℕ) → List (List ℕ) → Type 0
LineStandsFor rule path line None lines files =
    (lines ≡ line ∷ []) × (files ≡ shown_text path ∷ [])
LineStandsFor rule path line (Some words) lines files =
    (word text : List ℕ) × (only_word words ≡ Some word)
    × rule (path_with_file_name path word) (script_lines text) lines files

-- what the lines of the file at a path stand for, each in its place, and in which file each of these
-- is, as its path is shown
abbrev pub AreJoinedBy : (List ℕ → List (ℕ × List ℕ) → List (ℕ × List ℕ) → List (List ℕ) → Type 0)
    → List ℕ → List (ℕ × List ℕ) → List (ℕ × List ℕ) → List (List ℕ) → Type 0
AreJoinedBy rule path [] lines files = (lines ≡ []) × (files ≡ [])
AreJoinedBy rule path (l ∷ ls) lines files =
    (part rest : List (ℕ × List ℕ)) × (here behind : List (List ℕ))
    × LineStandsFor rule path l (include_words (text_words l.1)) part here
    × AreJoinedBy rule path ls rest behind
    × (lines ≡ part ++ rest) × (files ≡ here ++ behind)

-- the same where the files include one another, less than so deep
unfoldable pub AreJoined : ℕ → List ℕ → List (ℕ × List ℕ) → List (ℕ × List ℕ) → List (List ℕ)
    → Type 0
AreJoined zero path script lines files = ⊥
AreJoined (suc depth) path script lines files =
    AreJoinedBy (AreJoined depth) path script lines files

-- these are the lines of the script at a path with those of the files that it includes, which include
-- in turn, 16 deep at most
abbrev pub IsScriptJoined : List ℕ → List (ℕ × List ℕ) → List (ℕ × List ℕ) → List (List ℕ) → Type 0
IsScriptJoined path script lines files = AreJoinedBy (AreJoined 16) path script lines files

-- some lines were put behind others, and their files: those of the script at a path, joined, where
-- its files may be so deep
pub record PutsJoined (depth : ℕ) (path : List ℕ) (script lines-old lines-new : List (ℕ × List ℕ))
    (files-old files-new : List (List ℕ)) : Type 0 where
  pub lines : List (ℕ × List ℕ)
  pub files : List (List ℕ)
  pub joined : AreJoinedBy (AreJoined depth) path script lines files
  pub put : lines-new ≡ lines-old ++ lines
  pub noted : files-new ≡ files-old ++ files

-- ---- A refused line

-- a line stands in the file at a path, in which files may be included so deep; or in one that it
-- includes, by a rule
abbrev pub StandsInBy : (List ℕ → List (ℕ × List ℕ) → List ℕ → ℕ × List ℕ → ℕ → Type 0)
    → ℕ → List ℕ → List (ℕ × List ℕ) → List ℕ → ℕ × List ℕ → ℕ → Type 0
StandsInBy rule depth path script file line left =
    ((place : ℕ) × (slice_get script place ≡ Some line) × (file ≡ shown_text path)
    × (left ≡ depth))
    ⊎ ((place : ℕ) × (outer : ℕ × List ℕ) × (slice_get script place ≡ Some outer)
    × (words : List (List ℕ)) × (include_words (text_words outer.1) ≡ Some words)
    × (word text : List ℕ) × (only_word words ≡ Some word)
    × rule (path_with_file_name path word) (script_lines text) file line left)

-- the same where the files include one another, less than so deep
unfoldable pub StandsIn : ℕ → List ℕ → List (ℕ × List ℕ) → List ℕ → ℕ × List ℕ → ℕ → Type 0
StandsIn zero path script file line left = ⊥
StandsIn (suc depth) path script file line left =
    StandsInBy (StandsIn depth) depth path script file line left

-- why no file can stand in the place of a line with these words behind `include`, where files may be
-- included so deep: it has no word or several (1), no file may be included there (47), there would be
-- too many files or lines (48), or the file isn't read (37) or no script (42)
abbrev pub IsIncludeFault : List (List ℕ) → ℕ → ℕ → Type 0
IsIncludeFault words left code =
    ((code ≡ 1) × (only_word words ≡ None)) ⊎ ((code ≡ 47) × (left ≡ 0)) ⊎ (code ≡ 48)
    ⊎ (code ≡ 37) ⊎ (code ≡ 42)

-- some lines that tell this are shown on standard error; or memory or the writer failed
abbrev pub ShowsTold : {U : Type 0} → Result U ScriptError → (List ℕ → Type 0) → Option (List ℕ)
    → Option (List ℕ) → Type 0
ShowsTold (Ok u) tells faults-old faults-new =
    (told : List ℕ) × tells told × Appends faults-old faults-new (shown_lines told)
ShowsTold (Err cut.OutOfMemory) tells faults-old faults-new = Keeps faults-old faults-new
ShowsTold (Err cut.WriterFailed) tells faults-old faults-new = Unit {0}

-- these bytes tell that a line of a file was refused with this code, and some reason
abbrev pub IsLineTold : List ℕ → ℕ × List ℕ → ℕ → List ℕ → Type 0
IsLineTold file line code told =
    (reason : List ℕ) × Appends (Some []) (Some told) (line_refusal file line code reason)

-- it was told that no file can stand in the place of a line of a file, and why
pub record TellsNoFile (left : ℕ) (file : List ℕ) (line : ℕ × List ℕ) (words : List (List ℕ))
    (status : ℕ) (faults-old faults-new : Option (List ℕ)) : Type 0 where
  pub code : ℕ
  pub result : Result (Unit {0}) ScriptError
  pub three : status ≡ 3
  pub fault : IsIncludeFault words left code
  pub shown : ShowsTold result (IsLineTold file line code) faults-old faults-new

-- the same of a line of the script at a path, or of a file that it includes, so deep at most
pub record TellsUnjoined (depth : ℕ) (path : List ℕ) (script : List (ℕ × List ℕ)) (status : ℕ)
    (faults-old faults-new : Option (List ℕ)) : Type 0 where
  pub file : List ℕ
  pub line : ℕ × List ℕ
  pub left : ℕ
  pub words : List (List ℕ)
  pub stands : StandsInBy (StandsIn depth) depth path script file line left
  pub includes : include_words (text_words line.1) ≡ Some words
  pub told : TellsNoFile left file line words status faults-old faults-new

-- how it ends where a line was told so, or there was no memory
abbrev pub EndsUnjoined : ℕ → List ℕ → List (ℕ × List ℕ) → Result ℕ Refusal → Option (List ℕ)
    → Option (List ℕ) → Type 0
EndsUnjoined depth path script how faults-old faults-new =
    MatchResult how (λ status. TellsUnjoined depth path script status faults-old faults-new)
    (λ refusal. refusal ≡ of.Lines OutOfMemory)

-- the same of a script
abbrev pub IsUnjoined : List ℕ → List (ℕ × List ℕ) → Result ℕ Refusal → Option (List ℕ)
    → Option (List ℕ) → Type 0
IsUnjoined path script how faults-old faults-new =
    EndsUnjoined 16 path script how faults-old faults-new
