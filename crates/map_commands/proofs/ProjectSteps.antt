-- The step of a project, by why a command is refused and by how long the new body is.
use Rattle.std.proofs.Common.{◌≡◌, ℕ, suc, ◌+◌, ◌-◌, ◌≤◌, inl, inr, Bool, true, false, cond, ◌&&◌, List, [], ◌∷◌, ◌++◌, length, take, drop, take_all, drop_of_length-le, Option, Some, None, Result, Ok, Err, refl, sym, ◌∙◌, ap, subst, arith, nat_lt}
use Rattle.std.specs.Prelude.{IsErrOf, IsOk, is_err, sum_by, ⊤}
use Rattle.std.specs.List.{remove}
use Rattle.std.specs.Option.{is_none}
use Rattle.std.proofs.lemmas.Bool.{cases_lt, le-ltb, lt-ltb, ltb-false}
use Rattle.std.proofs.lemmas.List.Sums.{sum_by-append, sum_by-cons, sum_by-remove}
use Rattle.lump_records.specs.declared.records.Name8.{Name8}
use Rattle.map_tables.specs.Edits.{with_name}
use Rattle.map_tables.specs.declared.error.MapError.{MapError}
use Rattle.map_tables.specs.declared.error.MapError.TheVariants as map_error
use Rattle.map_tables.specs.Errors as of_map
use Rattle.map_tables.specs.Outcomes.{Covers, EndsEdit, EndsExactly, RefusesEdit, least, unless}
use Rattle.map_tables.specs.Projects.{MapsView, ProjectMaps, body_len, current_map, has_map, project_of, tables_of_each, with_current}
use Rattle.map_tables.specs.Projects as project
use Rattle.map_tables.specs.ProjectEdits.{name_faults, named_map, without_map}
use Rattle.map_tables.specs.Tables.{Tables, empty_tables, part_len}
use Rattle.map_tables.specs.Tables as of_one
use Rattle.map_tables.proofs.ProjectLemmas.{body_len_with, current_of, with_current_of}
use Rattle.map_commands.specs.declared.command.Command.{Command}
use Rattle.map_commands.specs.declared.command.Command.TheVariants.{Name}
use Rattle.map_commands.specs.declared.error.CommandError.{CommandError}
use Rattle.map_commands.specs.declared.error.CommandError.TheVariants.{NotACommand, OutOfRange, NoVertex, NoSector, NoSide, NoLine, NoThing, InUse, SameEnds, PlaceTaken, TwoSidedWithoutLeft, TableFull, LineTooLong, ProjectFull, BadName, TooManyMaps, MapNameTaken, NoSuchMap, CurrentMap, OutOfMemory}
use Rattle.map_commands.specs.declared.project.command.ProjectCommand.{ProjectCommand}
use Rattle.map_commands.specs.declared.project.command.ProjectCommand.TheVariants.{Current, SelectMap, DropMap}
use Rattle.map_commands.specs.Errors.{code_of}
use Rattle.map_commands.specs.ProjectCommands.{InProjectRange}
use Rattle.map_commands.specs.ProjectReadiness.{CanCommit, RefusesStep, project_growth_of, project_need_of}
use Rattle.map_commands.specs.ProjectStep.{project_after, current_faults, map_faults, naming_faults, project_number_of, step}
use Rattle.map_commands.specs.Step as step_one
use Rattle.map_commands.proofs.Commands as of_each
use Rattle.map_commands.proofs.Commands.{code_is_low}
use Rattle.map_commands.proofs.Steps.{least-none, least-some}

-- ---- The least code

-- where none of both holds, none of either does
none-if : (fs gs : List (ℕ × Bool)) (o : Option ℕ) → least fs ≡ o → least (fs ++ gs) ≡ None → (least fs ≡ None) × (least gs ≡ None)
none-if fs gs None f e = (f, sym (least-none fs gs f) ∙ e)
none-if fs gs (Some k) f e = let some = least-some fs gs k f in absurd (cc (some, e))

pub none-of-both : (fs gs : List (ℕ × Bool)) → least (fs ++ gs) ≡ None → (least fs ≡ None) × (least gs ≡ None)
none-of-both fs gs e = none-if fs gs (least fs) refl e

-- where one of both holds, 14 makes no difference
refused-if : (fs gs : List (ℕ × Bool)) (long : Bool) (k : ℕ) (o : Option ℕ) → least fs ≡ o → least (fs ++ gs) ≡ Some k → least (fs ++ (14, is_none (least gs) && long) ∷ gs) ≡ Some k
refused-if fs gs long k (Some j) f e =
    least-some fs ((14, is_none (least gs) && long) ∷ gs) k (f ∙ sym (least-some fs gs j f) ∙ e)
refused-if fs gs long k None f e =
    let maps : least gs ≡ Some k = sym (least-none fs gs f) ∙ e in
    least-none fs ((14, is_none (least gs) && long) ∷ gs) f ∙ (λ i. cond {A = Option ℕ} (is_none (maps i) && long) (Some 14) (maps i))

-- where none holds, the new body's length decides
unrefused : (fs gs : List (ℕ × Bool)) (long : Bool) → least fs ≡ None → least gs ≡ None → least (fs ++ (14, is_none (least gs) && long) ∷ gs) ≡ cond long (Some 14) None
unrefused fs gs long f g =
    least-none fs ((14, is_none (least gs) && long) ∷ gs) f ∙ (λ i. cond {A = Option ℕ} (is_none (g i) && long) (Some 14) (g i))

-- ---- The step

-- a code other than 14 refuses the command
pub step-refuses : (p : ProjectMaps) (c : ProjectCommand) (cap k : ℕ) → least (current_faults p c ++ map_faults p c) ≡ Some k → step p c cap ≡ Err k
step-refuses p c cap k e =
    ap (λ o. unless o (project_after p c) (project_number_of p c)) (refused-if (current_faults p c) (map_faults p c) (nat_lt cap (body_len (project_after p c))) k (least (current_faults p c)) refl e)

step-decided : (p : ProjectMaps) (c : ProjectCommand) (cap : ℕ) → least (current_faults p c) ≡ None → least (map_faults p c) ≡ None
    → step p c cap ≡ unless (cond (nat_lt cap (body_len (project_after p c))) (Some 14) None) (project_after p c) (project_number_of p c)
step-decided p c cap f g =
    ap (λ o. unless o (project_after p c) (project_number_of p c)) (unrefused (current_faults p c) (map_faults p c) (nat_lt cap (body_len (project_after p c))) f g)

-- the new body would be too long
pub step-is-full : (p : ProjectMaps) (c : ProjectCommand) (cap : ℕ) → least (current_faults p c ++ map_faults p c) ≡ None → nat_lt cap (body_len (project_after p c)) ≡ true → step p c cap ≡ Err 14
step-is-full p c cap e long =
    let none = none-of-both (current_faults p c) (map_faults p c) e in
    step-decided p c cap none.0 none.1 ∙ ap (λ t. unless (cond t (Some 14) None) (project_after p c) (project_number_of p c)) long

-- nothing refuses the command
pub step-accepts : (p : ProjectMaps) (c : ProjectCommand) (cap : ℕ) → least (current_faults p c ++ map_faults p c)
    ≡ None → nat_lt cap (body_len (project_after p c)) ≡ false → step p c cap
    ≡ Ok (project_after p c, project_number_of p c)
step-accepts p c cap e long =
    let none = none-of-both (current_faults p c) (map_faults p c) e in
    step-decided p c cap none.0 none.1 ∙ ap (λ t. unless (cond t (Some 14) None) (project_after p c) (project_number_of p c)) long

-- ---- The codes

alone : (t : Bool) (j k : ℕ) → cond t (Some j) None ≡ Some k → k ≡ j
alone true j k e = cc
alone false j k e = absurd cc

one-of-two : (t u : Bool) (i j k : ℕ) → cond t (Some i) (cond u (Some j) None) ≡ Some k → i ≤ 19 → j ≤ 19 → k ≤ 19
one-of-two true u i j k e h g = let is : k ≡ i = cc in omega (arith, is)
one-of-two false u i j k e h g = let is = alone u j k e in omega (arith, is)

naming-low : (p : ProjectMaps) (c : Command) (k : ℕ) → least (naming_faults p c) ≡ Some k → k ≤ 19
naming-low p (Name name) k e = let is = alone _ 17 k e in omega (arith, is)
naming-low p c k e = absurd cc

maps-low : (p : ProjectMaps) (c : ProjectCommand) (k : ℕ) → least (map_faults p c) ≡ Some k → k ≤ 19
maps-low p (Current c) k e = naming-low p c k e
maps-low p (SelectMap name) k e = let is = alone _ 16 k e in omega (arith, is)
maps-low p (DropMap name) k e = one-of-two _ _ 18 19 k e (omega arith) (omega arith)

current-low : (p : ProjectMaps) (c : ProjectCommand) (k : ℕ) → least (current_faults p c) ≡ Some k → k ≤ 19
current-low p (Current c) k e = let low = code_is_low (current_map p) c k e in omega (arith, low)
current-low p (SelectMap name) k e = absurd cc
current-low p (DropMap name) k e = absurd cc

low-if : (p : ProjectMaps) (c : ProjectCommand) (k : ℕ) (o : Option ℕ) → least (current_faults p c) ≡ o → least (current_faults p c ++ map_faults p c) ≡ Some k → k ≤ 19
low-if p c k None f e = maps-low p c k (sym (least-none (current_faults p c) (map_faults p c) f) ∙ e)
low-if p c k (Some j) f e = current-low p c k (f ∙ sym (least-some (current_faults p c) (map_faults p c) j f) ∙ e)

-- why a command is refused is why an edit of the maps is
pub code-is-low : (p : ProjectMaps) (c : ProjectCommand) (k : ℕ) → least (current_faults p c ++ map_faults p c) ≡ Some k → k ≤ 19
code-is-low p c k e = low-if p c k (least (current_faults p c)) refl e

-- a refusal by the step's code, which isn't that of memory
pub refused-by : (e : CommandError) (change : Result (ProjectMaps × ℕ) ℕ) → code_of e ≤ 19 → change ≡ Err (code_of e) → RefusesStep e change
refused-by NotACommand change l h = h
refused-by OutOfRange change l h = h
refused-by NoVertex change l h = h
refused-by NoSector change l h = h
refused-by NoSide change l h = h
refused-by NoLine change l h = h
refused-by NoThing change l h = h
refused-by InUse change l h = h
refused-by SameEnds change l h = h
refused-by PlaceTaken change l h = h
refused-by TwoSidedWithoutLeft change l h = h
refused-by TableFull change l h = h
refused-by LineTooLong change l h = h
refused-by ProjectFull change l h = h
refused-by BadName change l h = h
refused-by TooManyMaps change l h = h
refused-by MapNameTaken change l h = h
refused-by NoSuchMap change l h = h
refused-by CurrentMap change l h = h
refused-by OutOfMemory change l h = absurd (omega arith)

-- ---- The length of the body

-- the map is a part of the project's body
part-within : (before behind : List Tables) (m : Tables) → part_len m ≤ sum_by part_len (before ++ m ∷ behind)
part-within before behind m =
    omega (arith, sum_by-append part_len before (m ∷ behind), sum_by-cons part_len m behind)

shifted : (k a o : ℕ) → nat_lt (k + o) (a + o) ≡ nat_lt k a
shifted k a o = elim (cases_lt k a) [
  | inl below ↦ lt-ltb (k + o) (a + o) (omega (arith, below)) ∙ sym (lt-ltb k a below)
  | inr above ↦ le-ltb (k + o) (a + o) (omega (arith, above)) ∙ sym (le-ltb k a above)
]

with-others : (cap k o a b x y : ℕ) → cap ≡ k + o → x ≡ a + o → y ≡ b + o → nat_lt k a ≡ nat_lt k b → nat_lt cap x ≡ nat_lt cap y
with-others cap k o a b x y e f g h = (λ i. nat_lt (e i) (f i)) ∙ shifted k a o ∙ h ∙ sym (shifted k b o) ∙ (λ i. nat_lt (sym e i) (sym g i))

-- the project with another current map, as a contract sees it
pub edited-project : (v w : MapsView) (c : Command) → w.others ≡ v.others → w.tables ≡ step_one.after v.tables c → project_of w ≡ project_after (project_of v) (Current c)
edited-project v w c same is =
    with_current_of v w same ∙ ap (with_current (project_of v)) (is ∙ ap (λ m. step_one.after m c) (sym (current_of v)))

edit-fullness : (v : MapsView) (c : Command) (cap : ℕ) → body_len (project_of v) ≤ cap
    → nat_lt cap (body_len (project_after (project_of v) (Current c))) ≡ nat_lt cap (body_len (project_of v) + project_growth_of (project_of v) (Current c))
edit-fullness v c cap fits =
    let w : MapsView = record v { tables = step_one.after v.tables c } in
    let old = body_len (project_of v) in
    let part = part-within (tables_of_each v.others.before) (tables_of_each v.others.behind) v.tables in
    let whole = body_len_with v w refl in
    let new = ap body_len (edited-project v w c refl refl) in
    let o = old - (part_len v.tables + 2) in
    let growth = step_one.growth_of (step_one.need_of c) in
    with-others cap (cap - o) o (of_one.body_len_of_one w.tables) (of_one.body_len_of_one v.tables + growth) (body_len (project_after (project_of v) (Current c))) (old + growth)
    (omega (arith, fits, part)) (omega (arith, part, whole, new)) (omega (arith, part))
    (of_each.fullness v.tables c (cap - o) (omega (arith, fits, part)))

selected-len : (ms : List Tables) (m : Tables) (t : Bool) → part_len m ≡ 18 → 2 + sum_by part_len (cond t ms (ms ++ m ∷ [])) ≡ 2 + sum_by part_len ms + cond t 0 18
selected-len ms m true e = omega arith
selected-len ms m false e = omega (arith, e, sum_by-append part_len ms (m ∷ []), sum_by-cons part_len m [])

fewer : (ms : List Tables) (n : ℕ) → sum_by part_len (remove ms n) ≤ sum_by part_len ms
fewer ms n = elim (cases_lt n (length ms)) [
  | inl within ↦ omega (arith, sum_by-remove part_len ms n empty_tables within)
  | inr past ↦
      let all = ap (sum_by part_len) (take_all n ms past) in
      let past-all : drop (suc n) ms ≡ [] = drop_of_length-le ms {i = suc n} (omega (arith, past)) in
      let none = ap (sum_by part_len) past-all in
      omega (arith, all, none, sum_by-append part_len (take n ms) (drop (suc n) ms))
]

both-fit : (a b cap : ℕ) → a ≤ cap → b ≤ cap → nat_lt cap a ≡ nat_lt cap b
both-fit a b cap h i = le-ltb cap a h ∙ sym (le-ltb cap b i)

-- the new body is too long exactly where the old one and what is added are
pub fullness : (v : MapsView) (c : ProjectCommand) (cap : ℕ) → body_len (project_of v) ≤ cap
    → nat_lt cap (body_len (project_after (project_of v) c)) ≡ nat_lt cap (body_len (project_of v) + project_growth_of (project_of v) c)
fullness v (Current c) cap fits = edit-fullness v c cap fits
fullness v (SelectMap name) cap fits =
    ap (nat_lt cap) (selected-len (project_of v).maps (with_name empty_tables name) (has_map (project_of v) name) refl)
fullness v (DropMap name) cap fits =
    let shorter = fewer (project_of v).maps (project.map_number_of (project_of v) name) in
    both-fit (body_len (without_map (project_of v) name)) (body_len (project_of v) + 0) cap (omega (arith, fits, shorter)) (omega (arith, fits))

-- ---- What a contract sees

-- the same maps are the same project
pub same-project : (v w : MapsView) → w.tables ≡ v.tables → w.others ≡ v.others → project_of w ≡ project_of v
same-project v w tables others =
    λ i. record { maps = tables_of_each (others i).before ++ tables i ∷ tables_of_each (others i).behind; current = length (others i).before }

-- the command can still be done on the same project
pub can-commit : (v w : MapsView) (c : ProjectCommand) → InProjectRange c
    → least (current_faults (project_of v) c ++ map_faults (project_of v) c) ≡ None → project_of w ≡ project_of v
    → Covers w.spare (project_need_of c) → CanCommit w c
can-commit v w c range free same covered =
    let none = none-of-both (current_faults (project_of v) c) (map_faults (project_of v) c) free in
    record {
      range = range;
      current = ap (λ p. least (current_faults p c)) same ∙ none.0;
      maps = ap (λ p. least (map_faults p c)) same ∙ none.1;
      covered = covered;
    }

abbrev made : {S X : Type 0} → S → Result (S × X) ℕ → S
made d (Ok p) = p.0
made d (Err code) = d

-- an edit that isn't refused is made
ends-as : {S X : Type 0} (r : Result X MapError) (o : Option ℕ) (project_after : S) (answer : X) (old new : S) → o ≡ None → EndsExactly r (unless o project_after answer) old new → project_after ≡ new
ends-as (Ok x) None project_after answer old new e h = ap (made project_after) h
ends-as (Ok x) (Some k) project_after answer old new e h = absurd (cc e)
ends-as (Err f) None project_after answer old new e h = absurd (cc h.0)
ends-as (Err f) (Some k) project_after answer old new e h = absurd (cc e)

-- the current map has its new name, and is otherwise as it was
pub renamed : (v w : MapsView) (name : Name8) (r : Result ⊤ MapError) → least (name_faults (project_of v) name) ≡ None → w.others ≡ v.others
    → EndsExactly r (named_map (project_of v) name) (project_of v) (project_of w) → w.tables ≡ with_name v.tables name
renamed v w name r free same ends =
    let u : MapsView = record v { tables = with_name v.tables name } in
    let there = edited-project v u (Name name) refl refl in
    let here = ends-as r (least (name_faults (project_of v) name)) (project_after (project_of v) (Current (Name name))) tt (project_of v) (project_of w) free ends in
    sym (current_of w) ∙ ap current_map (sym here ∙ sym there) ∙ current_of u

-- ---- An addition without a decision first

-- an edit that gives a map and an answer isn't refused
made-by : {S X : Type 0} (o : Option ℕ) (after made : S) (answer number : X) → unless o after answer ≡ Ok (made, number) → (o ≡ None) × (after ≡ made) × (answer ≡ number)
made-by {S} {X} None after made answer number e =
    let same : ◌≡◌ {A = S × X} (after, answer) (made, number) = cc in
    (refl, ap (λ (q : S × X). q.0) same, ap (λ (q : S × X). q.1) same)
made-by (Some code) after made answer number e = absurd (cc e)

-- an edit that gives a code is refused by it
refused-with : {S X : Type 0} (o : Option ℕ) (after : S) (answer : X) (code : ℕ) → unless o after answer ≡ Err code → o ≡ Some code
refused-with None after answer code e = absurd (cc e)
refused-with (Some k) after answer code e = let same : k ≡ code = cc in ap Some same

-- a refusal other than lack of memory is the edit's
refused-edit : {S X : Type 0} (e : MapError) (edit : Result (S × X) ℕ) → (e ≡ map_error.OutOfMemory → ⊥) → RefusesEdit e edit → edit ≡ Err (of_map.code_of e)
refused-edit map_error.NoVertex edit other h = h
refused-edit map_error.NoSector edit other h = h
refused-edit map_error.NoSide edit other h = h
refused-edit map_error.NoLine edit other h = h
refused-edit map_error.NoThing edit other h = h
refused-edit map_error.InUse edit other h = h
refused-edit map_error.SameEnds edit other h = h
refused-edit map_error.PlaceTaken edit other h = h
refused-edit map_error.TwoSidedWithoutLeft edit other h = h
refused-edit map_error.TableFull edit other h = h
refused-edit map_error.LineTooLong edit other h = h
refused-edit map_error.TooManyMaps edit other h = h
refused-edit map_error.MapNameTaken edit other h = h
refused-edit map_error.NoSuchMap edit other h = h
refused-edit map_error.CurrentMap edit other h = h
refused-edit map_error.OutOfMemory edit other h = absurd (other refl)
refused-edit (map_error.Damaged place) edit other h = h

-- what an edit of the current map gives: a new map and an answer, or a code
abbrev pub edit_of : Tables → Command → Result (Tables × ℕ) ℕ
edit_of m c = unless (least (step_one.faults m c)) (step_one.after m c) (step_one.number_of m c)

-- an addition that was made in a body with room for it is the step
pub added-step : (v w : MapsView) (c : Command) (cap n : ℕ) → body_len (project_of v) ≤ cap
    → nat_lt cap (body_len (project_of v) + project_growth_of (project_of v) (Current c)) ≡ false → naming_faults (project_of v) c ≡ []
    → edit_of v.tables c ≡ Ok (w.tables, n) → w.others ≡ v.others
    → (step (project_of v) (Current c) cap ≡ Ok (project_of w, n)) × (body_len (project_of w) ≤ cap)
added-step v w c cap n fits room unnamed edit same =
    let p = project_of v in
    let made = made-by (least (step_one.faults v.tables c)) (step_one.after v.tables c) w.tables (step_one.number_of v.tables c) n edit in
    let none : least (step_one.faults (current_map p) c) ≡ None = ap (λ m. least (step_one.faults m c)) (current_of v) ∙ made.0 in
    let free : least (step_one.faults (current_map p) c ++ naming_faults p c) ≡ None =
    least-none (step_one.faults (current_map p) c) (naming_faults p c) none ∙ ap least unnamed in
    let short = fullness v (Current c) cap fits ∙ room in
    let is = edited-project v w c same (sym made.1) in
    let number : step_one.number_of (current_map p) c ≡ n = ap (λ m. step_one.number_of m c) (current_of v) ∙ made.2 in
    let answer : ◌≡◌ {A = Result (ProjectMaps × ℕ) ℕ} (Ok (project_after p (Current c), project_number_of p (Current c))) (Ok (project_of w, n)) =
    λ i. Ok (sym is i, number i) in (
      step-accepts p (Current c) cap free short ∙ answer,
      ltb-false cap (body_len (project_of w)) (ap (λ q. nat_lt cap (body_len q)) is ∙ short),
    )

-- an addition that was refused other than by lack of memory is refused by the step
refused-step : (v : MapsView) (c : Command) (cap : ℕ) (e : MapError) → (e ≡ map_error.OutOfMemory → ⊥)
    → RefusesEdit e (edit_of v.tables c) → IsOk (step (project_of v) (Current c) cap) → ⊥
refused-step v c cap e other h accepted =
    let p = project_of v in
    let code = of_map.code_of e in
    let some = refused-with (least (step_one.faults v.tables c)) (step_one.after v.tables c) (step_one.number_of v.tables c) code (refused-edit e (edit_of v.tables c) other h) in
    let current : least (step_one.faults (current_map p) c) ≡ Some code = ap (λ m. least (step_one.faults m c)) (current_of v) ∙ some in
    let refused = step-refuses p (Current c) cap code (least-some (step_one.faults (current_map p) c) (naming_faults p c) code current) in
    let never = subst IsOk refused accepted in
    absurd (cc never)

-- the same of a call that was refused
pub not-accepted : (v : MapsView) (c : Command) (cap : ℕ) (new : Tables) (r : Result ℕ MapError) → (IsErrOf r map_error.OutOfMemory → ⊥) → is_err r ≡ true
    → EndsEdit r (edit_of v.tables c) v.tables new → IsOk (step (project_of v) (Current c) cap) → ⊥
not-accepted v c cap new (Ok n) other err h accepted = absurd (cc err)
not-accepted v c cap new (Err e) other err h accepted = refused-step v c cap e (λ is. other (ap Err is)) h.0 accepted
