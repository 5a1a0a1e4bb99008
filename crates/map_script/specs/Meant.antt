-- What a name of a script stands for: words, of what their number is the number, and the first items
-- that its line added.
use Rattle.std.specs.Prelude.{ℕ, if◌then◌else◌, List, [], ◌∷◌, Option, Some, None, bytes_eq, decimal}
use Rattle.map_tables.specs.declared.kind.Kind.{Kind}
use Rattle.map_script.specs.Referents.{of_kind}
use Rattle.map_script.specs.declared.firsts.Firsts.{Firsts}
use Rattle.map_script.specs.declared.firsts.Numbers.{Numbers}
use Rattle.map_script.specs.declared.meaning.Meaning.{Meaning}
use Rattle.map_script.specs.declared.referent.Referent.{Referent}
use Rattle.map_script.specs.declared.referent.Referent.TheVariants.{Nothing}

-- what a name stands for
pub record Meant : Type 0 where
  pub words : List ℕ
  pub referent : Referent
  pub firsts : Firsts

-- the same of what a name stands for
abbrev pub meant : Meaning → Meant
meant meaning = record {
  words = meaning.words.items;
  referent = meaning.referent;
  firsts = meaning.firsts;
}

-- the same, if there is such a name
abbrev pub meant_in : Option Meaning → Option Meant
meant_in None = None
meant_in (Some meaning) = Some (meant meaning)

-- no item
abbrev pub no_firsts : Firsts
no_firsts = record { vertex = None; sector = None; side = None; line = None; thing = None }

-- the name of a line that answered this number, which is one of this, stands for the number
abbrev pub numbered : Numbers → Referent → Meant
numbered numbers referent = record {
  words = decimal numbers.answer;
  referent = referent;
  firsts = numbers.firsts;
}

-- a name that stands for words alone, or for the number of an item of a kind
abbrev pub worded_as : List ℕ → Option Kind → Meant
worded_as words k = record { words = words; referent = of_kind k; firsts = no_firsts }

-- a name that stands for words alone
abbrev pub worded : List ℕ → Meant
worded words = record { words = words; referent = Nothing; firsts = no_firsts }

-- what a name stands for, if it is known
abbrev pub meant_by : List (List ℕ × Meant) → List ℕ → Option Meant
meant_by [] name = None
meant_by (e ∷ es) name = if bytes_eq name e.0 then Some e.1 else meant_by es name

-- the names, with one that now stands for this: in its place if it was known, else at the end
abbrev pub with_meaning : List (List ℕ × Meant) → List ℕ → Meant → List (List ℕ × Meant)
with_meaning [] name now = (name, now) ∷ []
with_meaning (e ∷ es) name now =
    if bytes_eq name e.0 then (e.0, now) ∷ es else e ∷ with_meaning es name now
