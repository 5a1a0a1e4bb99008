-- Commands that are done once more.
use Rattle.std.proofs.Common.{◌≡◌, ◌∙◌, ◌<◌, ◌≤◌, ◌+◌, ℕ, suc, false, List, [], ◌∷◌, ◌++◌, Option, Some, None, Result, Ok, Err, length, get_or, take, drop, refl, sym, ap, subst, arith, append_assoc}
use Rattle.std.specs.Prelude.{All, IfSome, is_err, map}
use Rattle.std.specs.Int.{to_le_bytes, from_le_bytes, w32}
use Rattle.std.proofs.Math.Seq.{take-append_seam, take-suc}
use Rattle.std.proofs.lemmas.List.{append_cancel_left, map-append}
use Rattle.std.proofs.lemmas.List.Elements.{All-head, All-tail}
use Rattle.std.proofs.lemmas.Nat.{from_le_bytes-to_le_bytes_4}
use Rattle.store_journal.specs.Groups.{IsGroupOf}
use Rattle.store_journal.specs.Records.{record_bytes, records_bytes}
use Rattle.map_tables.specs.Projects.{ProjectMaps, project_of}
use Rattle.map_commands.specs.ProjectCommands.{InProjectRange, project_spelling}
use Rattle.map_commands.specs.ProjectLines.{Leads}
use Rattle.map_commands.specs.ProjectReadiness.{EndsStep}
use Rattle.map_commands.specs.ProjectStep.{step}
use Rattle.map_commands.specs.declared.error.CommandError.{CommandError}
use Rattle.map_commands.specs.declared.project.command.ProjectCommand.{ProjectCommand}
use Rattle.map_commands.proofs.ProjectOutcomes.{one_project}
use Rattle.store_project.specs.Groups.{CanPut, GroupState, IsGroupFor, staged_lines}
use Rattle.store_project.specs.States.{State}
use Rattle.store_project.proofs.Grouping.{leads_all}
use Rattle.store_project.proofs.Recording.{leads_push}

stepped_on : (cap : ℕ) (first mid new : ProjectMaps) (lines : List (List ℕ)) (c : ProjectCommand) (r : Result ℕ CommandError) → is_err r ≡ false → InProjectRange c
    → Leads cap first lines mid → EndsStep r (step mid c cap) mid new → Leads cap first (lines ++ project_spelling c ∷ []) new
stepped_on cap first mid new lines c (Ok n) ok range led ends =
    leads_push cap first lines (project_spelling c) mid new led (n, record { command = c; range = range; line_is = refl; stepped = ends })
stepped_on cap first mid new lines c (Err e) ok range led ends = cc

-- one command more
pub led_next : (cap : ℕ) (first mid new : ProjectMaps) (commands : List ProjectCommand) (i : ℕ) (d : ProjectCommand) (r : Result ℕ CommandError) → i < length commands → is_err r ≡ false
    → InProjectRange (get_or commands i d) → Leads cap first (map project_spelling (take i commands)) mid
    → EndsStep r (step mid (get_or commands i d) cap) mid new → Leads cap first (map project_spelling (take (i + 1) commands)) new
led_next cap first mid new commands i d r within ok range led ends =
    let one = get_or commands i d in
    let next : i + 1 ≡ suc i = omega arith in
    let all : map project_spelling (take (i + 1) commands) ≡ map project_spelling (take i commands) ++ project_spelling one ∷ [] =
    ap (λ (k : ℕ). map project_spelling (take k commands)) next ∙ ap (λ (cs : List ProjectCommand). map project_spelling cs) (take-suc commands i d within)
    ∙ map-append project_spelling (take i commands) (one ∷ []) in
    subst (λ (ls : List (List ℕ)). Leads cap first ls new) (sym all) (stepped_on cap first mid new (map project_spelling (take i commands)) one r ok range led ends)

-- ---- The lines of a group

abbrev Short : List ℕ → Type 0
Short line = length line ≤ 256

abbrev closed : List (List ℕ) → List ℕ
closed lines = records_bytes lines ++ 0 ∷ []

-- the first record, and what stands behind it
first_record : (line : List ℕ) (lines : List (List ℕ)) → closed (line ∷ lines) ≡ 165 ∷ to_le_bytes w32 (length line) ++ line ++ closed lines
first_record line lines =
    append_assoc (record_bytes line) (records_bytes lines) (0 ∷ []) ∙ ap (λ (l : List ℕ). 165 ∷ l) (append_assoc (to_le_bytes w32 (length line)) line (closed lines))

one_list : (lines more : List (List ℕ)) → All Short lines → All Short more → closed lines ≡ closed more → lines ≡ more
one_list [] [] short shorter same = refl
one_list [] (q ∷ qs) short shorter same = absurd (let gate : 0 ≡ 165 = ap (λ (l : List ℕ). get_or l 0 0) (same ∙ first_record q qs) in omega (arith, gate))
one_list (p ∷ ps) [] short shorter same = absurd (let gate : 165 ≡ 0 = ap (λ (l : List ℕ). get_or l 0 0) (sym (first_record p ps) ∙ same) in omega (arith, gate))
one_list (p ∷ ps) (q ∷ qs) short shorter same =
    let whole : 165 ∷ to_le_bytes w32 (length p) ++ p ++ closed ps ≡ 165 ∷ to_le_bytes w32 (length q) ++ q ++ closed qs = sym (first_record p ps) ∙ same ∙ first_record q qs in
    let behind : to_le_bytes w32 (length p) ++ p ++ closed ps ≡ to_le_bytes w32 (length q) ++ q ++ closed qs = ap (λ (l : List ℕ). drop 1 l) whole in
    let sizes : to_le_bytes w32 (length p) ≡ to_le_bytes w32 (length q) = ap (λ (l : List ℕ). take 4 l) behind in
    let both : p ++ closed ps ≡ q ++ closed qs = ap (λ (l : List ℕ). drop 4 l) behind in
    let p_short : length p ≤ 256 = All-head Short p ps short in
    let q_short : length q ≤ 256 = All-head Short q qs shorter in
    let size : length p ≡ length q =
    sym (from_le_bytes-to_le_bytes_4 (length p) (omega (arith, p_short))) ∙ ap (λ (l : List ℕ). from_le_bytes w32 l) sizes ∙ from_le_bytes-to_le_bytes_4 (length q) (omega (arith, q_short)) in
    let line : p ≡ q = sym (take-append_seam p (closed ps)) ∙ ap (λ (l : List ℕ). take (length p) l) both ∙ ap (λ (n : ℕ). take n (q ++ closed qs)) size ∙ take-append_seam q (closed qs) in
    let rest : closed ps ≡ closed qs = append_cancel_left p (closed ps) (closed qs) (both ∙ ap (λ (l : List ℕ). l ++ closed qs) (sym line)) in
    let lines : ps ≡ qs = one_list ps qs (All-tail Short p ps short) (All-tail Short q qs shorter) rest in
    ap (λ (l : List ℕ). l ∷ ps) line ∙ ap (λ (ls : List (List ℕ)). q ∷ ls) lines

-- a group holds one list of lines
pub one_group : (lines more : List (List ℕ)) (bytes : List ℕ) → IsGroupOf lines bytes → IsGroupOf more bytes → lines ≡ more
one_group lines more bytes is other = one_list lines more is.short other.short (sym is.are ∙ other.are)

-- the maps that caught up are the project's
caught_up : {D : Type 0} (old new : State D) (group mid empty : GroupState) (cap : ℕ) → IsGroupFor old group → cap ≡ old.cap → mid.bytes ≡ group.bytes
    → project_of mid.maps ≡ project_of old.maps → project_of new.maps ≡ project_of group.maps → IsGroupOf [] empty.bytes
    → ((lines : List (List ℕ)) → IsGroupOf lines mid.bytes → Leads cap (project_of mid.maps) lines (project_of empty.maps)) → CanPut new empty []
caught_up old new group mid empty cap can cap_is bytes before after none led =
    let lines = staged_lines can.0 in
    let again : Leads cap (project_of mid.maps) lines (project_of empty.maps) = led lines (subst (λ (b : List ℕ). IsGroupOf lines b) (sym bytes) can.1.lines) in
    let here : Leads old.cap (project_of old.maps) lines (project_of empty.maps) =
    subst (λ (m : ProjectMaps). Leads old.cap m lines (project_of empty.maps)) before (subst (λ (k : ℕ). Leads k (project_of mid.maps) lines (project_of empty.maps)) cap_is again) in
    let once : Leads old.cap (project_of old.maps) lines (project_of group.maps) = leads_all old.cap (project_of old.maps) can.0 (project_of group.maps) can.1.accepted in
    record {
      lines = none;
      accepted = one_project old.cap (project_of old.maps) (project_of empty.maps) (project_of group.maps) lines here once ∙ sym after;
      room = λ some. absurd (omega (arith, some, ap length none.are));
    }

-- the same of what may have been made
pub all_caught_up : {D : Type 0} (old new : State D) (group mid : GroupState) (cap : ℕ) (found : Option GroupState) → IsGroupFor old group → cap ≡ old.cap → mid.bytes ≡ group.bytes
    → project_of mid.maps ≡ project_of old.maps → project_of new.maps ≡ project_of group.maps → IfSome found (λ (empty : GroupState). IsGroupOf [] empty.bytes)
    → IfSome found (λ (empty : GroupState). (lines : List (List ℕ)) → IsGroupOf lines mid.bytes → Leads cap (project_of mid.maps) lines (project_of empty.maps))
    → IfSome found (λ (empty : GroupState). CanPut new empty [])
all_caught_up old new group mid cap None can cap_is bytes before after none led = tt
all_caught_up old new group mid cap (Some empty) can cap_is bytes before after none led = caught_up old new group mid empty cap can cap_is bytes before after none led
