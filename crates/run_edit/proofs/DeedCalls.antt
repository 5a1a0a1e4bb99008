-- What a session does, runs among it, is calls in turn, which may be parted anywhere.
use Rattle.std.proofs.Common.{inl, inr, List, [], ◌∷◌, ◌++◌, refl, sym, subst}
use Rattle.store_disk.specs.declared.disk.Disk.{Ghosts}
use Rattle.store_project.specs.Calls.{AllMade, ProjectCall}
use Rattle.store_project.specs.States.{State}
use Rattle.run_edit.specs.Composing.{go_behind}
use Rattle.run_edit.specs.Sessions.{AllDone, Deed, IsDeedDone}

module _ {D : Type 0} (facts : Ghosts D) where
  abbrev Goes : State D → List ProjectCall → State D → Type 0
  Goes = AllMade facts

  pub go_parted : (xs ys : List ProjectCall) (old new : State D) → Goes old (xs ++ ys) new → (mid : State D) × Goes old xs mid × Goes mid ys new
  go_parted [] ys old new all = (old, refl, all)
  go_parted (x ∷ xs) ys old new (next, made, rest) =
      let p = go_parted xs ys next new rest in
      (p.0, (next, made, p.1), p.2)

  deed_calls : (deed : Deed D) (calls : List ProjectCall) (old new : State D) → IsDeedDone facts old deed calls new → Goes old calls new
  deed_calls (inl call) calls old new (made, is) = subst (λ (l : List ProjectCall). Goes old l new) (sym is) (new, made, refl)
  deed_calls (inr trace) calls old new (run, is) = subst (λ (l : List ProjectCall). Goes old l new) (sym is) run.made

  pub done_calls : (deeds : List (Deed D)) (calls : List ProjectCall) (old new : State D) → AllDone facts old deeds calls new → Goes old calls new
  done_calls [] calls old new (is, same) = subst (λ (l : List ProjectCall). Goes old l new) (sym is) same
  done_calls (deed ∷ deeds) calls old new (mid, its, more, done, rest, is) =
      subst (λ (l : List ProjectCall). Goes old l new) (sym is)
      (go_behind facts its more old mid new (deed_calls deed its old mid done) (done_calls deeds more mid new rest))
