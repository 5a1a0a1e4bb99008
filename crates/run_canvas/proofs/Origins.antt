-- Each item of the maps has an origin, also after a command.
use Rattle.std.proofs.Common.{◌≡◌, ◌∙◌, ℕ, zero, suc, ◌+◌, ◌<◌, ◌≤◌, Bool, true, false, List, [], ◌∷◌, ◌++◌, Option, None, Some, length, map, get_or, take, drop, refl, sym, ap, ap₂, arith}
use Rattle.std.specs.Prelude.{◌-◌, if◌then◌else◌, is_ok, IsOk, IfErr, IfOk, MatchResult, Result, Ok, Err, Vec, remove, replicate, slice_set, vec_capacity, vec_len}
use Rattle.std.specs.Global.{Global}
use Rattle.std.proofs.lemmas.List.{append-nil, drop-map, drop_all, get_or-map, length-append, length-map, length-replicate, map-append, map-set, set-get_or, take-map, take_all}
use Rattle.map_commands.specs.ProjectStep.{project_after}
use Rattle.map_commands.proofs.Commands.{counted}
use Rattle.map_commands.proofs.Counts.{Counted, need_at}
use Rattle.map_commands.specs.Step.{after, dropped_of, need_of}
use Rattle.map_commands.specs.declared.command.Command.{Command}
use Rattle.map_commands.specs.declared.project.command.ProjectCommand.{ProjectCommand}
use Rattle.map_commands.specs.declared.project.command.ProjectCommand.TheVariants.{Current, SelectMap, DropMap}
use Rattle.map_tables.specs.Edits.{line_without_side, line_without_vertex, side_without_sector, with_name, without}
use Rattle.map_tables.specs.Projects.{ProjectMaps, empty_project, has_map, map_number_of}
use Rattle.map_commands.specs.ProjectCommands.{InProjectRange, project_spelling}
use Rattle.map_commands.specs.declared.error.CommandError.{CommandError}
use Rattle.run_edit.specs.Answers.{outcome_of}
use Rattle.map_tables.specs.Tables.{Tables, count_of, empty_tables}
use Rattle.map_tables.specs.declared.edit.Need.{Need}
use Rattle.map_tables.specs.declared.kind.Kind.{Kind}
use Rattle.map_tables.specs.declared.kind.Kind.TheVariants as kind
use Rattle.run_canvas.specs.OriginFields.{item_origins}
use Rattle.run_canvas.specs.Origins.{HasEachOrigin, ItemOrigins, NotesOrigins, OriginMaps, all_origins_after, no_origins, origin_count, origins_after, origins_with, with_origins, without_origin}
use Rattle.run_canvas.specs.declared.map_origins.MapOrigins.{MapOrigins}

-- ---- Lists

-- nothing is removed past the last
pub remove_past : {X : Type 0} (xs : List X) (n : ℕ) → length xs ≤ n → remove xs n ≡ xs
remove_past xs n past = ap₂ (λ (a b : List _). a ++ b) (take_all n xs past) (drop_all (suc n) xs (omega arith)) ∙ append-nil xs

pub map-remove : {X Y : Type 0} (f : X → Y) (xs : List X) (n : ℕ) → map f (remove xs n) ≡ remove (map f xs) n
map-remove f xs n = map-append f (take n xs) (drop (suc n) xs) ∙ ap₂ (λ (a b : List _). a ++ b) (sym (take-map f n xs)) (sym (drop-map f (suc n) xs))

length-remove_same : {X Y : Type 0} (xs : List X) (ys : List Y) (n : ℕ) → length xs ≡ length ys → length (remove xs n) ≡ length (remove ys n)
length-remove_same {X} {Y} [] [] n same = ap (length {A = X}) (remove_past [] n (omega arith)) ∙ sym (ap (length {A = Y}) (remove_past [] n (omega arith)))
length-remove_same [] (y ∷ ys) n same = absurd (omega (arith, same))
length-remove_same (x ∷ xs) [] n same = absurd (omega (arith, same))
length-remove_same (x ∷ xs) (y ∷ ys) zero same = omega (arith, same)
length-remove_same (x ∷ xs) (y ∷ ys) (suc n) same = ap suc (length-remove_same xs ys n (omega (arith, same)))

get_or_map : {X Y : Type 0} (f : X → Y) (xs : List X) (n : ℕ) (d : X) → get_or (map f xs) n (f d) ≡ f (get_or xs n d)
get_or_map f [] n d = refl
get_or_map f (x ∷ xs) zero d = refl
get_or_map f (x ∷ xs) (suc n) d = get_or_map f xs n d

-- as many more, for which there is room
pub put_is : {E : Type 0} (list : Vec ℕ Global) (new : List ℕ) (n count place : ℕ) (result : Result (Unit {0}) E) → n ≡ vec_len list → vec_len list + count ≤ vec_capacity list
    → new ≡ (if is_ok result then take (n + count) list.items ++ replicate ((n + count) - vec_len list) place else list.items)
    → (n + count ≤ vec_capacity list → IsOk result) → new ≡ list.items ++ replicate count place
put_is list new n count place (Ok u) is room put succeeds =
    put ∙ ap₂ (λ (a : List ℕ) (m : ℕ). a ++ replicate m place) (take_all (n + count) list.items (omega (arith, is, list.ok.0))) (omega (arith, is))
put_is list new n count place (Err e) is room put succeeds = cc (succeeds (omega (arith, is)))

-- ---- The items of a map

more : (xs : List ℕ) (n place : ℕ) → length (xs ++ replicate n place) ≡ length xs + n
more xs n place = length-append xs (replicate n place) ∙ ap (λ (m : ℕ). length xs + m) (length-replicate n place)

with_each : (o : ItemOrigins) (need : Need) (place : ℕ) (k : Kind) → origin_count (with_origins o need place) k ≡ origin_count o k + need_at need k
with_each o need place kind.Vertex = more o.vertices need.vertices place
with_each o need place kind.Sector = more o.sectors need.sectors place
with_each o need place kind.Side = more o.sides need.sides place
with_each o need place kind.Line = more o.lines need.lines place
with_each o need place kind.Thing = more o.things need.things place

named_each : (m : Tables) (name : _) (k : Kind) → count_of (with_name m name) k ≡ count_of m k
named_each m name kind.Vertex = refl
named_each m name kind.Sector = refl
named_each m name kind.Side = refl
named_each m name kind.Line = refl
named_each m name kind.Thing = refl

drop_each : (m : Tables) (o : ItemOrigins) (j : Kind) (n : ℕ) (k : Kind) → ((k : Kind) → origin_count o k ≡ count_of m k) → origin_count (without_origin o j n) k ≡ count_of (without m j n) k
drop_each m o kind.Vertex n kind.Vertex same = length-remove_same o.vertices m.vertices n (same kind.Vertex)
drop_each m o kind.Vertex n kind.Sector same = same kind.Sector
drop_each m o kind.Vertex n kind.Side same = same kind.Side
drop_each m o kind.Vertex n kind.Line same = same kind.Line ∙ sym (length-map m.lines (line_without_vertex n))
drop_each m o kind.Vertex n kind.Thing same = same kind.Thing
drop_each m o kind.Sector n kind.Vertex same = same kind.Vertex
drop_each m o kind.Sector n kind.Sector same = length-remove_same o.sectors m.sectors n (same kind.Sector)
drop_each m o kind.Sector n kind.Side same = same kind.Side ∙ sym (length-map m.sides (side_without_sector n))
drop_each m o kind.Sector n kind.Line same = same kind.Line
drop_each m o kind.Sector n kind.Thing same = same kind.Thing
drop_each m o kind.Side n kind.Vertex same = same kind.Vertex
drop_each m o kind.Side n kind.Sector same = same kind.Sector
drop_each m o kind.Side n kind.Side same = length-remove_same o.sides m.sides n (same kind.Side)
drop_each m o kind.Side n kind.Line same = same kind.Line ∙ sym (length-map m.lines (line_without_side n))
drop_each m o kind.Side n kind.Thing same = same kind.Thing
drop_each m o kind.Line n kind.Vertex same = same kind.Vertex
drop_each m o kind.Line n kind.Sector same = same kind.Sector
drop_each m o kind.Line n kind.Side same = same kind.Side
drop_each m o kind.Line n kind.Line same = length-remove_same o.lines m.lines n (same kind.Line)
drop_each m o kind.Line n kind.Thing same = same kind.Thing
drop_each m o kind.Thing n kind.Vertex same = same kind.Vertex
drop_each m o kind.Thing n kind.Sector same = same kind.Sector
drop_each m o kind.Thing n kind.Side same = same kind.Side
drop_each m o kind.Thing n kind.Line same = same kind.Line
drop_each m o kind.Thing n kind.Thing same = length-remove_same o.things m.things n (same kind.Thing)

-- each item of a map has an origin after a command
map_with : (m : Tables) (o : ItemOrigins) (c : Command) (place : ℕ) (k : Kind) (dropped : Option (Kind × ℕ)) → Counted m c dropped → ((k : Kind) → origin_count o k ≡ count_of m k)
    → origin_count (origins_with o dropped (need_of c) place) k ≡ count_of (after m c) k
map_with m o c place k None counts same = with_each o (need_of c) place k ∙ ap (λ (n : ℕ). n + need_at (need_of c) k) (same k) ∙ sym (counts k)
map_with m o c place k (Some d) counts same = drop_each m o d.0 d.1 k same ∙ sym (ap (λ (t : Tables). count_of t k) counts.0)

map_each : (m : Tables) (o : ItemOrigins) (c : Command) (place : ℕ) (k : Kind) → ((k : Kind) → origin_count o k ≡ count_of m k) → origin_count (origins_after o c place) k ≡ count_of (after m c) k
map_each m o c place k same = map_with m o c place k (dropped_of c) (counted m c) same

-- ---- All maps

none_each : (k : Kind) → origin_count no_origins k ≡ count_of empty_tables k
none_each kind.Vertex = refl
none_each kind.Sector = refl
none_each kind.Side = refl
none_each kind.Line = refl
none_each kind.Thing = refl

-- a map without items has no origins
pub none_is : (m : Tables) → ((k : Kind) → count_of m k ≡ count_of empty_tables k) → origin_count no_origins ≡ count_of m
none_is m empty = λ i. λ (k : Kind). (none_each k ∙ sym (empty k)) i

-- those of the map with a number
nth_each : (ms : List Tables) (all : List ItemOrigins) (n : ℕ) (k : Kind) → HasEachOrigin ms all → origin_count (get_or all n no_origins) k ≡ count_of (get_or ms n empty_tables) k
nth_each ms all n k each =
    let none = none_is empty_tables (λ (k : Kind). refl) in
    ap (λ (f : Kind → ℕ). f k)
    (sym (get_or_map origin_count all n no_origins) ∙ ap₂ (λ (fs : List (Kind → ℕ)) (f : Kind → ℕ). get_or fs n f) each none ∙ get_or_map count_of ms n empty_tables)

set_each_of : (ms : List Tables) (all : List ItemOrigins) (n : ℕ) (m : Tables) (o : ItemOrigins) → HasEachOrigin ms all → ((k : Kind) → origin_count o k ≡ count_of m k)
    → HasEachOrigin (slice_set ms n m) (slice_set all n o)
set_each_of ms all n m o each same =
    let is : origin_count o ≡ count_of m = λ i. λ (k : Kind). same k i in
    map-set origin_count all n o ∙ ap₂ (λ (fs : List (Kind → ℕ)) (f : Kind → ℕ). slice_set fs n f) each is ∙ sym (map-set count_of ms n m)

select_each : (b : Bool) (ms : List Tables) (all : List ItemOrigins) (m : Tables) → origin_count no_origins ≡ count_of m → HasEachOrigin ms all
    → HasEachOrigin (if b then ms else ms ++ m ∷ []) (if b then all else all ++ no_origins ∷ [])
select_each true ms all m none each = each
select_each false ms all m none each =
    map-append origin_count all (no_origins ∷ []) ∙ ap₂ (λ (fs : List (Kind → ℕ)) (f : Kind → ℕ). fs ++ f ∷ []) each none ∙ sym (map-append count_of ms (m ∷ []))

-- each item of the maps has an origin after a command of a project
pub each_after : (p : ProjectMaps) (all : List ItemOrigins) (c : ProjectCommand) (place : ℕ) → HasEachOrigin p.maps all → HasEachOrigin (project_after p c).maps (all_origins_after p all c place)
each_after p all (Current c) place each =
    let m = get_or p.maps p.current empty_tables in
    let o = get_or all p.current no_origins in
    set_each_of p.maps all p.current (after m c) (origins_after o c place) each (λ (k : Kind). map_each m o c place k (λ (k : Kind). nth_each p.maps all p.current k each))
each_after p all (SelectMap name) place each =
    select_each (has_map p name) p.maps all (with_name empty_tables name) (none_is (with_name empty_tables name) (named_each empty_tables name)) each
each_after p all (DropMap name) place each =
    let n = map_number_of p name in
    map-remove origin_count all n ∙ ap (λ (fs : List (Kind → ℕ)). remove fs n) each ∙ sym (map-remove count_of p.maps n)

-- ---- What is noted

-- a command of the map with a number
pub noted_ok : {E : Type 0} (r : Result (Unit {0}) E) (items : List MapOrigins) (n : ℕ) (own new : MapOrigins) (c : Command) (place : ℕ) → n < length items → own ≡ get_or items n own
    → IfOk r (λ _. item_origins new ≡ origins_after (item_origins own) c place)
    → IfOk r (λ _. map item_origins (slice_set items n new) ≡ slice_set (map item_origins items) n (origins_after (get_or (map item_origins items) n no_origins) c place))
noted_ok (Ok u) items n own new c place inside there is =
    map-set item_origins items n new
    ∙ ap (λ (o : ItemOrigins). slice_set (map item_origins items) n o)
    (is ∙ ap (λ (o : ItemOrigins). origins_after o c place) (ap item_origins there ∙ sym (get_or-map item_origins items n own no_origins inside)))
noted_ok (Err e) items n own new c place inside there is = tt

-- the same, refused
pub noted_err : {E : Type 0} (r : Result (Unit {0}) E) (items : List MapOrigins) (n : ℕ) (own new : MapOrigins) → n < length items → own ≡ get_or items n own
    → IfErr r (λ _. item_origins new ≡ item_origins own) → IfErr r (λ _. map item_origins (slice_set items n new) ≡ map item_origins items)
noted_err (Ok u) items n own new inside there is = tt
noted_err (Err e) items n own new inside there is =
    map-set item_origins items n new
    ∙ ap (λ (o : ItemOrigins). slice_set (map item_origins items) n o) (is ∙ ap item_origins there ∙ sym (get_or-map item_origins items n own no_origins inside))
    ∙ set-get_or (map item_origins items) n no_origins

-- the empty map alone
pub first_each : (p : ProjectMaps) (none : MapOrigins) (before all : List MapOrigins) → p ≡ empty_project → before ≡ [] → all ≡ before ++ none ∷ [] → item_origins none ≡ no_origins
    → HasEachOrigin p.maps (map item_origins all)
first_each p none before all is empty put nothing =
    let all_is : map item_origins all ≡ no_origins ∷ [] =
    ap (map item_origins) (put ∙ ap (λ (xs : List MapOrigins). xs ++ none ∷ []) empty) ∙ ap (λ (o : ItemOrigins). o ∷ []) nothing in
    ap (map origin_count) all_is ∙ ap (λ (f : Kind → ℕ). f ∷ []) (none_is empty_tables (λ (k : Kind). refl)) ∙ sym (ap (λ (q : ProjectMaps). map count_of q.maps) is)

-- after a command that was decided over the maps as they are
pub each_committed : (old mid new : ProjectMaps) (all noted : List ItemOrigins) (c done : ProjectCommand) (place : ℕ) → mid ≡ old → done ≡ c → new ≡ project_after mid done
    → noted ≡ all_origins_after mid all c place → HasEachOrigin old.maps all → HasEachOrigin new.maps noted
each_committed old mid new all noted c done place stays is after origins each =
    ap (map origin_count) (origins ∙ ap (λ (p : ProjectMaps). all_origins_after p all c place) stays) ∙ each_after old all c place each
    ∙ sym (ap (λ (p : ProjectMaps). map count_of p.maps) (after ∙ ap₂ (λ (p : ProjectMaps) (d : ProjectCommand). project_after p d) stays is))

-- after a line
pub notes : (r : Result ℕ CommandError) (old : OriginMaps) (line : List ℕ) (c : ProjectCommand) (all : List ItemOrigins) → InProjectRange c → line ≡ project_spelling c
    → MatchResult r (λ _. all ≡ all_origins_after old.draft.maps old.origins c old.place) (λ _. all ≡ old.origins) → NotesOrigins old line (outcome_of r) all
notes (Ok n) old line c all range is noted = (c, range, is, noted)
notes (Err e) old line c all range is noted = noted
