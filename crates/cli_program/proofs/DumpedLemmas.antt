-- From what was dumped of a reader to what a file leaves open.
use Rattle.std.proofs.Common.{inl, inr, ℕ, List, Option, Result}
use Rattle.map_tables.specs.Projects.{MapsView}
use Rattle.cli_sources.specs.Unread.{OverWadTold}
use Rattle.cli_scripts.specs.ScriptCanvases.{ItemOrigin, ScriptCanvas}
use Rattle.cli_program.specs.SomeSource.{OverSome}
use Rattle.cli_sources.proofs.Opened.{unread_of}
use Rattle.cli_refusals.specs.declared.refusal.Refusal.{Refusal}

pub some_of_told : {S : Type 0} (on : ScriptCanvas S) (name : List ℕ) (r s u w d x : Option (List ℕ)) (how : Result ℕ Refusal) (does : ItemOrigin → MapsView → Type 0) (levels : List ℕ → Type 0)
    → OverWadTold r s how u w d x levels → OverSome on name how u w d x does levels
some_of_told on name r s u w d x how does levels (inl (unread, kept)) = inr (inl (unread_of r s u w how unread, kept))
some_of_told on name r s u w d x how does levels (inr (wad, all, done)) = inr (inr (inl (wad, done)))
