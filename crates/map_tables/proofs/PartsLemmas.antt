-- The parts of a project's maps, one after another, hold exactly those maps.
use Rattle.std.proofs.Common.{◌≡◌, ◌≢◌, ℕ, ◌+◌, ◌<◌, ◌≤◌, true, List, [], ◌∷◌, ◌++◌, length, get_or, take, drop, refl, sym, ◌∙◌, ap, subst, arith, append_assoc, length-append}
use Rattle.std.specs.Prelude.{flat_map, sum_by}
use Rattle.std.specs.List.{All, AllPairs}
use Rattle.std.proofs.lemmas.Bool.{ltb-true}
use Rattle.std.proofs.lemmas.Grind.{flat_map-append}
use Rattle.std.proofs.lemmas.List.{append-nil, append_cancel_left, take_more}
use Rattle.std.proofs.lemmas.List.Sums.{passes_at_first, sum_by-cons}
use Rattle.std.proofs.lemmas.List.Elements.{All-head, All-tail}
use Rattle.std.proofs.Math.ListN.{get_or-append}
use Rattle.map_tables.specs.Tables.{Tables, empty_tables, part_len}
use Rattle.map_tables.specs.WellFormed.{WellFormed}
use Rattle.map_tables.specs.Parts.{part, NoPartBegins, BeginsWith}
use Rattle.map_tables.specs.Projects.{ProjectMaps, WellFormedProject, is_named, has_map, map_number_of, map_limit}
use Rattle.map_tables.specs.ProjectBody.{NoMapsHave, NoneFollow, ReadsNext, with_last}
use Rattle.map_tables.proofs.FramedLemmas.{part_size, one_part}
use Rattle.map_tables.proofs.ProjectLemmas.{get_middle, same_name}

-- they are as long as their lengths in all
pub parts_size : (maps : List Tables) → All WellFormed maps → length (flat_map part maps) ≡ sum_by part_len maps
parts_size [] w = refl
parts_size (m ∷ ms) w =
    let head = part_size m (All-head WellFormed m ms w) in
    let rest = parts_size ms (All-tail WellFormed m ms w) in
    length-append (part m) (flat_map part ms) ∙ (λ i. head i + rest i) ∙ sym (sum_by-cons part_len m ms)

-- one more map
pub put_more : (maps : List Tables) (m : Tables) → flat_map part maps ++ part m ≡ flat_map part (maps ++ m ∷ [])
put_more maps m = ap (λ x. flat_map part maps ++ x) (sym (append-nil (part m))) ∙ sym (flat_map-append part maps (m ∷ []))

pub put_nth : (maps : List Tables) (n : ℕ) (m : Tables) → n < length maps → ((d : Tables) → get_or maps n d ≡ m) → flat_map part (take n maps) ++ part m ≡ flat_map part (take (n + 1) maps)
put_nth maps n m within is =
    put_more (take n maps) m ∙ ap (λ x. flat_map part (take n maps ++ x ∷ [])) (sym (is empty_tables)) ∙ ap (flat_map part) (sym (take_more maps n empty_tables within))

pub one_more : (maps : List Tables) (m : Tables) (rest : List ℕ) → BeginsWith rest m → flat_map part (maps ++ m ∷ []) ++ drop (part_len m) rest ≡ flat_map part maps ++ rest
one_more maps m rest begins =
    ap (λ x. x ++ drop (part_len m) rest) (sym (put_more maps m)) ∙ append_assoc (flat_map part maps) (part m) (drop (part_len m) rest)
    ∙ ap (λ x. flat_map part maps ++ x) begins.encoded

-- if the parts of some maps begin with those of others, the maps begin with the others
pub record Follows (ms ns : List Tables) (r : List ℕ) : Type 0 where
  pub more : List Tables
  pub are : ns ≡ ms ++ more
  pub encoded : flat_map part more ≡ r

pub follows : (ms ns : List Tables) (r : List ℕ) → All WellFormed ms → All WellFormed ns → flat_map part ns ≡ flat_map part ms ++ r → Follows ms ns r
follows [] ns r wm wn e = record { more = ns; are = refl; encoded = e }
follows (m ∷ ms) [] r wm wn e =
    absurd (omega (arith, ap length e, length-append (part m ++ flat_map part ms) r, length-append (part m) (flat_map part ms), part_size m (All-head WellFormed m ms wm)))
follows (m ∷ ms) (n ∷ ns) r wm wn e =
    let e' : part n ++ flat_map part ns ≡ part m ++ (flat_map part ms ++ r) = e ∙ append_assoc (part m) (flat_map part ms) r in
    let one = one_part n m (flat_map part ns) (flat_map part ms ++ r) (All-head WellFormed n ns wn) (All-head WellFormed m ms wm) e' in
    let rest = append_cancel_left (part m) (flat_map part ns) (flat_map part ms ++ r) (ap (λ x. part x ++ flat_map part ns) (sym one) ∙ e') in
    let f = follows ms ns r (All-tail WellFormed m ms wm) (All-tail WellFormed n ns wn) rest in
    record { more = f.more; are = λ i. one i ∷ f.are i; encoded = f.encoded }

-- no maps have no parts
no_parts : (maps : List Tables) → All WellFormed maps → flat_map part maps ≡ [] → maps ≡ []
no_parts [] w e = refl
no_parts (m ∷ ms) w e =
    absurd (omega (arith, ap length e, length-append (part m) (flat_map part ms), part_size m (All-head WellFormed m ms w)))

-- at most one list of maps has the parts
pub one_list : (ms ns : List Tables) → All WellFormed ms → All WellFormed ns → flat_map part ns ≡ flat_map part ms → ns ≡ ms
one_list [] ns wm wn e = no_parts ns wn e
one_list (m ∷ ms) [] wm wn e = sym (no_parts (m ∷ ms) wm (sym e))
one_list (m ∷ ms) (n ∷ ns) wm wn e =
    let one = one_part n m (flat_map part ns) (flat_map part ms) (All-head WellFormed n ns wn) (All-head WellFormed m ms wm) e in
    let rest = append_cancel_left (part m) (flat_map part ns) (flat_map part ms) (ap (λ x. part x ++ flat_map part ns) (sym one) ∙ e) in
    λ i. one i ∷ one_list ms ns (All-tail WellFormed m ms wm) (All-tail WellFormed n ns wn) rest i

-- ---- Why the next map is refused

length_middle : (before behind : List Tables) (m : Tables) → length before < length (before ++ m ∷ behind)
length_middle before behind m = omega (arith, length-append before (m ∷ behind))

-- the map after others is well-formed
behind_well_formed : (p : ProjectMaps) (maps more : List Tables) (m : Tables) → WellFormedProject p → p.maps ≡ maps ++ m ∷ more → WellFormed m
behind_well_formed p maps more m w is =
    let all : All WellFormed (maps ++ m ∷ more) = subst (All WellFormed) is w.maps in
    subst WellFormed (get_middle maps more m m) (all (length maps) m (length_middle maps more m))

-- the bytes begin with no map's part
pub none_begins : (maps : List Tables) (bs : List ℕ) → NoPartBegins bs → NoneFollow maps bs
none_begins maps bs none p m more w is e = none m (flat_map part more) (behind_well_formed p maps more m w is) e

-- a map before it has its name
pub name_is_taken : (q : ProjectMaps) (x : Tables) (bs : List ℕ) → BeginsWith bs x → has_map q x.name ≡ true → NoneFollow q.maps bs
name_is_taken q x bs begins has p m more w is e =
    let k = map_number_of q x.name in
    let there : k < length q.maps = ltb-true (map_number_of q x.name) (length q.maps) has in
    let one = one_part m x (flat_map part more) (drop (part_len x) bs) (behind_well_formed p q.maps more m w is) begins.well_formed (e ∙ sym begins.encoded) in
    let named = same_name x.name (get_or q.maps k empty_tables) (passes_at_first (is_named x.name) q.maps empty_tables there) in
    let names : AllPairs (λ m n. m.name ≢ n.name) (q.maps ++ m ∷ more) = subst (AllPairs (λ m n. m.name ≢ n.name)) is w.names in
    names k (length q.maps) empty_tables there (length_middle q.maps more m)
    (ap (λ t. t.name) (get_or-append q.maps (m ∷ more) empty_tables k there) ∙ named ∙ ap (λ t. t.name) (sym one) ∙ ap (λ t. t.name) (sym (get_middle q.maps more m empty_tables)))

-- there is no room for it
pub none_fits : (q : ProjectMaps) (bs : List ℕ) → length q.maps ≡ map_limit → NoneFollow q.maps bs
none_fits q bs full p m more w is e = omega (arith, w.count, ap length is, length-append q.maps (m ∷ more))

-- the map is read
pub reads_next : (old new : ProjectMaps) (m : Tables) (bs : List ℕ) → BeginsWith bs m → new ≡ with_last old m → WellFormedProject new → ReadsNext bs (part_len m) old new
reads_next old new m bs begins is w =
    let size = length-append (part m) (drop (part_len m) bs) in
    record {
      well_formed = w;
      some = omega arith;
      within = omega (arith, size, ap length begins.encoded, part_size m begins.well_formed);
      encoded = ap (λ p. flat_map part p.maps ++ drop (part_len m) bs) is ∙ one_more old.maps m bs begins;
    }

-- ---- The reader's loop

-- the first map
pub first_is : (p : ProjectMaps) (m : Tables) (bs : List ℕ) → p.maps ≡ m ∷ [] → BeginsWith bs m → flat_map part p.maps ++ drop (part_len m) bs ≡ bs
first_is p m bs is begins = ap (λ ms. flat_map part ms ++ drop (part_len m) bs) is ∙ ap (λ x. x ++ drop (part_len m) bs) (append-nil (part m)) ∙ begins.encoded

pub part_fits : (m : Tables) (bs : List ℕ) → BeginsWith bs m → part_len m ≤ length bs
part_fits m bs begins =
    omega (arith, length-append (part m) (drop (part_len m) bs), ap length begins.encoded, part_size m begins.well_formed)

some_part : (maps : List Tables) (bs : List ℕ) → 0 < length maps → All WellFormed maps → NoPartBegins bs → flat_map part maps ≢ bs
some_part [] bs some w none e = absurd (omega arith)
some_part (m ∷ ms) bs some w none e = none m (flat_map part ms) (All-head WellFormed m ms w) e

pub no_first : (bs : List ℕ) → NoPartBegins bs → NoMapsHave bs
no_first bs none p w e = some_part p.maps bs (omega (arith, w.current)) w.maps none e

none_behind : (q p : ProjectMaps) (rest : List ℕ) → WellFormedProject p → 0 < length rest → NoneFollow q.maps rest → (more : List Tables) → p.maps ≡ q.maps ++ more → flat_map part more ≡ rest → ⊥
none_behind q p rest w some none [] is e = omega (arith, ap length e)
none_behind q p rest w some none (m ∷ more) is e = none p m more w is e

-- if no map follows those that were read, and some bytes are left, no maps have the bytes
pub no_next : (q : ProjectMaps) (rest bs : List ℕ) → WellFormedProject q → flat_map part q.maps ++ rest ≡ bs → 0 < length rest → NoneFollow q.maps rest → NoMapsHave bs
no_next q rest bs wq is some none p w e =
    let f = follows q.maps p.maps rest wq.maps w.maps (e ∙ sym is) in
    none_behind q p rest w some none f.more f.are f.encoded

-- one more map leaves the bytes after it
pub next_behind : (old new : ProjectMaps) (at n : ℕ) (rest bs : List ℕ) → rest ≡ drop at bs → flat_map part old.maps ++ drop at bs ≡ bs → ReadsNext rest n old new
    → drop (at + n) bs ≡ drop n (drop at bs) → flat_map part new.maps ++ drop (at + n) bs ≡ bs
next_behind old new at n rest bs same is reads further =
    ap (λ x. flat_map part new.maps ++ x) (further ∙ ap (drop n) (sym same)) ∙ reads.encoded ∙ ap (λ x. flat_map part old.maps ++ x) same ∙ is
