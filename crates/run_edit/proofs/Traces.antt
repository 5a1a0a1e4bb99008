-- Lines that were each answered by itself are calls over the project.
use Rattle.std.proofs.Common.{◌≡◌, ℕ, ◌≤◌, List, [], ◌∷◌, sym, subst}
use Rattle.store_disk.specs.declared.disk.Disk.{Ghosts}
use Rattle.store_project.specs.States.{State}
use Rattle.run_edit.specs.Composing.{goes_behind, goes_none}
use Rattle.run_edit.specs.Editing.{RepliesInProject}
use Rattle.run_edit.specs.Runs.{Exchange, IsTrace}
use Rattle.run_edit.specs.Sessions.{GoesOver}
use Rattle.run_edit.proofs.RunCalls.{line_goes}

module _ {D : Type 0} (facts : Ghosts D) (counts_now : (d : D) (t : ℕ) (file : List ℕ) → t ≤ facts.moment d → facts.may_leave d file → facts.left_since d t file) where
  pub trace_goes : (trace : List Exchange) (old new : State D) → IsTrace (RepliesInProject facts) old trace new → GoesOver facts old trace new
  trace_goes [] old new same = subst (λ (s : State D). GoesOver facts old [] s) (sym same) (goes_none facts old)
  trace_goes (e ∷ trace) old new (mid, told, rest) =
      goes_behind facts old mid new (e ∷ []) trace (line_goes facts counts_now old mid e.line e.text told) (trace_goes trace mid new rest)
