-- A line has one outcome, and accepted lines lead to one project.
use Rattle.std.proofs.Common.{◌≡◌, ℕ, List, [], ◌∷◌, Option, Some, None, Result, Ok, Err, sym, ◌∙◌, ap, subst}
use Rattle.std.specs.Prelude.{MatchOption}
use Rattle.map_tables.specs.Projects.{ProjectMaps}
use Rattle.map_commands.specs.declared.project.command.ProjectCommand.{ProjectCommand}
use Rattle.map_commands.specs.ProjectCommands.{InProjectRange, project_spelling}
use Rattle.map_commands.specs.ProjectGrammar.{project_fault_of}
use Rattle.map_commands.specs.ProjectLines.{Accepts, EndsLine, Leads, RefusesCommand}
use Rattle.map_commands.specs.ProjectStep.{step}
use Rattle.map_commands.proofs.ProjectWords.{project_spelling-accepted, project_spelling-one}

-- two commands of one line make one step
one_step : (cap : ℕ) (old : ProjectMaps) (line : List ℕ) (c d : ProjectCommand) → InProjectRange c → InProjectRange d
    → line ≡ project_spelling c → line ≡ project_spelling d → step old c cap ≡ step old d cap
one_step limit old line c d h g e f = ap (λ (x : ProjectCommand). step old x limit) (project_spelling-one c d h g (sym e ∙ f))

one_ok : (r s : Result (ProjectMaps × ℕ) ℕ) (m n : ProjectMaps) (j k : ℕ) → r ≡ s → r ≡ Ok (m, j) → s ≡ Ok (n, k) → (j ≡ k) × (m ≡ n)
one_ok r s m n j k e f g = let h : ◌≡◌ {A = Result (ProjectMaps × ℕ) ℕ} (Ok (m, j)) (Ok (n, k)) = sym f ∙ e ∙ g in
    let p : ◌≡◌ {A = ProjectMaps × ℕ} (m, j) (n, k) = cc in
    (ap (λ (q : ProjectMaps × ℕ). q.1) p, ap (λ (q : ProjectMaps × ℕ). q.0) p)

one_err : (r s : Result (ProjectMaps × ℕ) ℕ) (j k : ℕ) → r ≡ s → r ≡ Err j → s ≡ Err k → j ≡ k
one_err r s j k e f g = cc

ok_is_no_err : (r s : Result (ProjectMaps × ℕ) ℕ) (m : ProjectMaps) (j k : ℕ) → r ≡ s → r ≡ Ok (m, j) → s ≡ Err k → ⊥
ok_is_no_err r s m j k e f g = cc

both_accept : (cap : ℕ) (old new other : ProjectMaps) (line : List ℕ) (n k : ℕ) → Accepts cap old line new n → Accepts cap old line other k → (n ≡ k) × (new ≡ other)
both_accept limit old new other line n k a b =
    one_ok (step old a.command limit) (step old b.command limit) new other n k (one_step limit old line a.command b.command a.range b.range a.line_is b.line_is) a.stepped b.stepped

-- a command's line has no fault
no_fault : (line : List ℕ) (c : ProjectCommand) → InProjectRange c → line ≡ project_spelling c → project_fault_of line ≡ None
no_fault line c h e = ap project_fault_of e ∙ project_spelling-accepted c h

refused_if : (cap : ℕ) (old : ProjectMaps) (line : List ℕ) (code : ℕ) (f : Option ℕ) → f ≡ None
    → MatchOption f (RefusesCommand cap old line code) (λ fault. code ≡ fault) → RefusesCommand cap old line code
refused_if limit old line code None e r = r
refused_if limit old line code (Some k) e r = absurd (cc e)

never_both : (cap : ℕ) (old new : ProjectMaps) (line : List ℕ) (n code : ℕ) → Accepts cap old line new n → RefusesCommand cap old line code → ⊥
never_both limit old new line n code a b =
    ok_is_no_err (step old a.command limit) (step old b.command limit) new n code (one_step limit old line a.command b.command a.range b.range a.line_is b.line_is) a.stepped b.stepped

codes_agree : (cap : ℕ) (old : ProjectMaps) (line : List ℕ) (j k : ℕ) → RefusesCommand cap old line j → RefusesCommand cap old line k → j ≡ k
codes_agree limit old line j k a b =
    one_err (step old a.command limit) (step old b.command limit) j k (one_step limit old line a.command b.command a.range b.range a.line_is b.line_is) a.stepped b.stepped

both_refuse : (cap : ℕ) (old : ProjectMaps) (line : List ℕ) (j k : ℕ) (f : Option ℕ)
    → MatchOption f (RefusesCommand cap old line j) (λ fault. j ≡ fault)
    → MatchOption f (RefusesCommand cap old line k) (λ fault. k ≡ fault) → j ≡ k
both_refuse limit old line j k None a b = codes_agree limit old line j k a b
both_refuse limit old line j k (Some fault) a b = a ∙ sym b

-- a line has one outcome, and leaves one project
pub one_way : (cap : ℕ) (old new other : ProjectMaps) (line : List ℕ) (a b : Result ℕ ℕ) → EndsLine cap old line a new → EndsLine cap old line b other → (a ≡ b) × (new ≡ other)
one_way limit old new other line (Ok n) (Ok k) a b = let e = both_accept limit old new other line n k a b in (ap Ok e.0, e.1)
one_way limit old new other line (Ok n) (Err k) a b =
    absurd (never_both limit old new line n k a (refused_if limit old line k (project_fault_of line) (no_fault line a.command a.range a.line_is) b.0))
one_way limit old new other line (Err k) (Ok n) a b =
    absurd (never_both limit old other line n k b (refused_if limit old line k (project_fault_of line) (no_fault line b.command b.range b.line_is) a.0))
one_way limit old new other line (Err j) (Err k) a b = (ap Err (both_refuse limit old line j k (project_fault_of line) a.0 b.0), a.1 ∙ sym b.1)

-- accepted lines lead to one project
pub one_project : (cap : ℕ) (old new other : ProjectMaps) (lines : List (List ℕ)) → Leads cap old lines new → Leads cap old lines other → new ≡ other
one_project limit old new other [] a b = a ∙ sym b
one_project limit old new other (line ∷ lines) (x, (n, first), a) (y, (k, second), b) =
    let e = both_accept limit old x y line n k first second in
    one_project limit x new other lines a (subst (λ (z : ProjectMaps). Leads limit z lines other) (sym e.1) b)
