-- Lines that are written one after another, and the lines before one that fails.
use Rattle.std.proofs.Common.{◌≡◌, ◌∙◌, ◌+◌, ◌<◌, ℕ, suc, List, [], ◌∷◌, ◌++◌, Option, Some, None, Result, Ok, Err}
use Rattle.std.proofs.Common.{length, get_or, map, take, drop, refl, sym, ap, subst, arith, append_assoc, append-nil}
use Rattle.std.specs.Prelude.{flat_map, slice_get}
use Rattle.std.specs.Io.KnownBytes.{Appends}
use Rattle.std.proofs.KnownBytes.{Appends-trans}
use Rattle.std.proofs.lemmas.Grind.{flat_map-append}
use Rattle.std.proofs.lemmas.Option.{get_or_from_slice_get, slice_get_within}
use Rattle.std.proofs.lemmas.List.{length-map, length-take-le, map-append, take-append-drop, take_more}
use Rattle.std.proofs.lemmas.List.Concat.{flat_map_single}
use Rattle.map_tables.specs.declared.kind.Kind.{Kind}
use Rattle.map_tables.specs.declared.kind.Kind.TheVariants as kind
use Rattle.lump_records.specs.Names.{IsNamed, is_marker}
use Rattle.map_tables.specs.Projects.{MapsView, ProjectMaps, WellFormedProject, project_of}
use Rattle.map_tables.specs.Tables.{Tables, count_of, empty_tables}
use Rattle.map_tables.proofs.ProjectLemmas.{current_of}
use Rattle.map_commands.specs.Spelling.{kinds}
use Rattle.map_commands.specs.ProjectCommands.{project_spelling}
use Rattle.map_commands.specs.declared.command.Command.{Command}
use Rattle.map_commands.specs.declared.command.Command.TheVariants.{Edit}
use Rattle.map_tables.specs.declared.edit.Edit.TheVariants as edit
use Rattle.map_tables.specs.declared.edit.Item.TheVariants as item
use Rattle.map_commands.specs.declared.project.command.ProjectCommand.{ProjectCommand}
use Rattle.map_commands.specs.declared.project.command.ProjectCommand.TheVariants.{Current}
use Rattle.map_dump.specs.Dump.{additions_of, commands_from, commands_of_map, items_of}
use Rattle.map_dump.specs.Texts.{Writes, with_lf, text_of}
use Rattle.map_dump.specs.declared.error.DumpError.{DumpError}
use Rattle.map_dump.specs.declared.error.DumpError.TheVariants.{OutOfMemory, WriterFailed}

-- the text of the lines of commands
abbrev pub text : List ProjectCommand → List ℕ
text cs = text_of (map project_spelling cs)

text-append : (cs ds : List ProjectCommand) → text (cs ++ ds) ≡ text cs ++ text ds
text-append cs ds = ap text_of (map-append project_spelling cs ds) ∙ flat_map-append with_lf (map project_spelling cs) (map project_spelling ds)

-- ---- How calls end

-- some lines, and then others
pub Writes-append : {U : Type 0} (r : Result U DumpError) (cs ds : List ProjectCommand) (u v w : Option (List ℕ)) → Appends u v (text cs)
    → Writes r ds v w → Writes r (cs ++ ds) u w
Writes-append (Ok x) cs ds u v w p q = subst (λ (t : List ℕ). Appends u w t) (sym (text-append cs ds)) (Appends-trans u v w (text cs) (text ds) p q)
Writes-append (Err WriterFailed) cs ds u v w p q = tt
Writes-append (Err OutOfMemory) cs ds u v w p q = record {
  front = map project_spelling cs ++ q.front;
  back = q.back;
  parted = map-append project_spelling cs ds ∙ ap (λ (xs : List (List ℕ)). map project_spelling cs ++ xs) q.parted ∙ sym (append_assoc (map project_spelling cs) q.front q.back);
  written = subst (λ (t : List ℕ). Appends u w t) (sym (flat_map-append with_lf (map project_spelling cs) q.front)) (Appends-trans u v w (text cs) (text_of q.front) p q.written);
}

-- the lines after those to write
pub Writes-stopped : (e : DumpError) (cs ds : List ProjectCommand) (u w : Option (List ℕ)) → Writes {U = Unit {0}} (Err e) cs u w
    → Writes {U = Unit {0}} (Err e) (cs ++ ds) u w
Writes-stopped WriterFailed cs ds u w q = tt
Writes-stopped OutOfMemory cs ds u w q = record {
  front = q.front;
  back = q.back ++ map project_spelling ds;
  parted = map-append project_spelling cs ds ∙ ap (λ (xs : List (List ℕ)). xs ++ map project_spelling ds) q.parted ∙ append_assoc q.front q.back (map project_spelling ds);
  written = q.written;
}

-- ---- A list of pieces, each some commands

-- the commands of the pieces up to a number, and those of one more
pieces-more : {X : Type 0} (make : X → List ProjectCommand) (xs : List X) (n : ℕ) (d : X) → n < length xs
    → flat_map make (take (n + 1) xs) ≡ flat_map make (take n xs) ++ make (get_or xs n d)
pieces-more make xs n d within =
    ap (flat_map make) (take_more xs n d within) ∙ flat_map-append make (take n xs) (get_or xs n d ∷ [])
    ∙ ap (λ (cs : List ProjectCommand). flat_map make (take n xs) ++ cs) (append-nil (make (get_or xs n d)))

-- and those of the rest behind it
pieces-parted : {X : Type 0} (make : X → List ProjectCommand) (xs : List X) (n : ℕ) (d : X) → n < length xs
    → flat_map make xs ≡ (flat_map make (take n xs) ++ make (get_or xs n d)) ++ flat_map make (drop (n + 1) xs)
pieces-parted make xs n d within =
    ap (flat_map make) (sym (take-append-drop (n + 1) xs)) ∙ flat_map-append make (take (n + 1) xs) (drop (n + 1) xs)
    ∙ ap (λ (cs : List ProjectCommand). cs ++ flat_map make (drop (n + 1) xs)) (pieces-more make xs n d within)

pub each_more : {X : Type 0} (make : X → List ProjectCommand) (xs : List X) (n : ℕ) (d : X) (u v w : Option (List ℕ)) → n < length xs
    → Appends u v (text (flat_map make (take n xs))) → Appends v w (text (make (get_or xs n d))) → Appends u w (text (flat_map make (take (n + 1) xs)))
each_more make xs n d u v w within p q =
    subst (λ (cs : List ProjectCommand). Appends u w (text cs)) (sym (pieces-more make xs n d within))
    (Writes-append {U = Unit {0}} (Ok tt) (flat_map make (take n xs)) (make (get_or xs n d)) u v w p q)

pub each_stopped : {X : Type 0} (make : X → List ProjectCommand) (xs : List X) (n : ℕ) (d : X) (e : DumpError) (u v w : Option (List ℕ)) → n < length xs
    → Appends u v (text (flat_map make (take n xs))) → Writes {U = Unit {0}} (Err e) (make (get_or xs n d)) v w → Writes {U = Unit {0}} (Err e) (flat_map make xs) u w
each_stopped make xs n d e u v w within p q =
    subst (λ (cs : List ProjectCommand). Writes {U = Unit {0}} (Err e) cs u w) (sym (pieces-parted make xs n d within))
    (Writes-stopped e (flat_map make (take n xs) ++ make (get_or xs n d)) (flat_map make (drop (n + 1) xs)) u w
    (Writes-append {U = Unit {0}} (Err e) (flat_map make (take n xs)) (make (get_or xs n d)) u v w p q))

-- ---- The items of a table

-- no item of a map
abbrev pub no_item : Command
no_item = Edit (edit.Drop kind.Vertex 0)

-- a command of the current map, alone
abbrev pub alone : Command → List ProjectCommand
alone c = Current c ∷ []

pub items-all : (cs : List Command) → flat_map alone cs ≡ map Current cs
items-all cs = flat_map_single Current cs

-- ---- The tables of a map

abbrev pub table : Tables → Kind → List ProjectCommand
table m k = map Current (additions_of m k)

tables-of : (m : Tables) (ks : List Kind) → flat_map (table m) ks ≡ map Current (flat_map (additions_of m) ks)
tables-of m [] = refl
tables-of m (k ∷ ks) = ap (λ (cs : List ProjectCommand). table m k ++ cs) (tables-of m ks) ∙ sym (map-append Current (additions_of m k) (flat_map (additions_of m) ks))

pub tables-all : (m : Tables) → flat_map (table m) kinds ≡ map Current (items_of m)
tables-all m = tables-of m kinds

-- ---- The maps

commands-append : (k : ℕ) (xs ys : List Tables) → commands_from k (xs ++ ys) ≡ commands_from k xs ++ commands_from (k + length xs) ys
commands-append k [] ys = let same : k ≡ k + 0 = omega arith in ap (λ (n : ℕ). commands_from n ys) same
commands-append k (x ∷ xs) ys =
    let same : suc k + length xs ≡ k + length (x ∷ xs) = omega arith in
    ap (λ (cs : List ProjectCommand). commands_of_map k x ++ cs) (commands-append (suc k) xs ys)
    ∙ sym (append_assoc (commands_of_map k x) (commands_from (suc k) xs) (commands_from (suc k + length xs) ys))
    ∙ ap (λ (n : ℕ). (commands_of_map k x ++ commands_from (suc k) xs) ++ commands_from n ys) same

-- the commands of the maps up to a number, and those of one more
maps-more : (ms : List Tables) (n : ℕ) → n < length ms
    → commands_from 0 (take (n + 1) ms) ≡ commands_from 0 (take n ms) ++ commands_of_map n (get_or ms n empty_tables)
maps-more ms n within =
    let short : length (take n ms) ≡ n = length-take-le n ms (omega arith) in
    let m = get_or ms n empty_tables in
    let at : 0 + length (take n ms) ≡ n = omega arith in
    ap (commands_from 0) (take_more ms n empty_tables within) ∙ commands-append 0 (take n ms) (m ∷ [])
    ∙ ap (λ (k : ℕ). commands_from 0 (take n ms) ++ (commands_of_map k m ++ [])) at
    ∙ ap (λ (cs : List ProjectCommand). commands_from 0 (take n ms) ++ cs) (append-nil (commands_of_map n m))

-- and those of the rest behind it
maps-parted : (ms : List Tables) (n : ℕ) → n < length ms
    → commands_from 0 ms
    ≡ (commands_from 0 (take n ms) ++ commands_of_map n (get_or ms n empty_tables)) ++ commands_from (0 + length (take (n + 1) ms)) (drop (n + 1) ms)
maps-parted ms n within =
    let back = commands_from (0 + length (take (n + 1) ms)) (drop (n + 1) ms) in
    ap (commands_from 0) (sym (take-append-drop (n + 1) ms)) ∙ commands-append 0 (take (n + 1) ms) (drop (n + 1) ms)
    ∙ ap (λ (cs : List ProjectCommand). cs ++ back) (maps-more ms n within)

pub maps_more : (ms : List Tables) (n : ℕ) (u v w : Option (List ℕ)) → n < length ms → Appends u v (text (commands_from 0 (take n ms)))
    → Appends v w (text (commands_of_map n (get_or ms n empty_tables))) → Appends u w (text (commands_from 0 (take (n + 1) ms)))
maps_more ms n u v w within p q =
    subst (λ (cs : List ProjectCommand). Appends u w (text cs)) (sym (maps-more ms n within))
    (Writes-append {U = Unit {0}} (Ok tt) (commands_from 0 (take n ms)) (commands_of_map n (get_or ms n empty_tables)) u v w p q)

pub maps_stopped : (ms : List Tables) (n : ℕ) (e : DumpError) (u v w : Option (List ℕ)) → n < length ms → Appends u v (text (commands_from 0 (take n ms)))
    → Writes {U = Unit {0}} (Err e) (commands_of_map n (get_or ms n empty_tables)) v w → Writes {U = Unit {0}} (Err e) (commands_from 0 ms) u w
maps_stopped ms n e u v w within p q =
    let m = get_or ms n empty_tables in
    let back = commands_from (0 + length (take (n + 1) ms)) (drop (n + 1) ms) in
    subst (λ (cs : List ProjectCommand). Writes {U = Unit {0}} (Err e) cs u w) (sym (maps-parted ms n within))
    (Writes-stopped e (commands_from 0 (take n ms) ++ commands_of_map n m) back u w
    (Writes-append {U = Unit {0}} (Err e) (commands_from 0 (take n ms)) (commands_of_map n m) u v w p q))

-- ---- The item, and the map, of a number

pub length-additions : (m : Tables) (k : Kind) → length (additions_of m k) ≡ count_of m k
length-additions m kind.Vertex = length-map m.vertices (λ v. Edit (edit.Add (item.Vertex v)))
length-additions m kind.Sector = length-map m.sectors (λ v. Edit (edit.Add (item.Sector v)))
length-additions m kind.Side = length-map m.sides (λ v. Edit (edit.Add (item.Side v)))
length-additions m kind.Line = length-map m.lines (λ v. Edit (edit.Add (item.Line v)))
length-additions m kind.Thing = length-map m.things (λ v. Edit (edit.Add (item.Thing v)))

pub item_told : {U : Type 0} (r : Result U DumpError) (o : Option Command) (c : Command) (u w : Option (List ℕ)) → Some c ≡ o → Writes r (alone c) u w
    → (d : Command) → o ≡ Some d → Writes r (alone d) u w
item_told r o c u w is told d at =
    let same : c ≡ d = cc in
    subst (λ (k : Command). Writes r (alone k) u w) same told

pub map_told : {U : Type 0} (r : Result U DumpError) (o : Option Tables) (n : ℕ) (m : Tables) (u w : Option (List ℕ)) → o ≡ Some m → Writes r (commands_of_map n m) u w
    → (t : Tables) → o ≡ Some t → Writes r (commands_of_map n t) u w
map_told r o n m u w is told t at =
    let same : m ≡ t = cc in
    subst (λ (k : Tables). Writes r (commands_of_map n k) u w) same told

pub nothing_there : {X : Type 0} (o : Option X) (x : X) → o ≡ None → o ≡ Some x → ⊥
nothing_there o x none some = cc

pub nth_named : (p : ProjectMaps) (n : ℕ) (m : Tables) → WellFormedProject p → slice_get p.maps n ≡ Some m → IsNamed is_marker m.name
nth_named p n m w at =
    subst (λ (t : Tables). IsNamed is_marker t.name) (get_or_from_slice_get p.maps n m m at) (w.maps n m (slice_get_within p.maps n m at)).name

pub current_named : (v : MapsView) → WellFormedProject (project_of v) → IsNamed is_marker v.tables.name
current_named v w =
    subst (λ (t : Tables). IsNamed is_marker t.name) (current_of v) (w.maps (project_of v).current empty_tables w.current).name
