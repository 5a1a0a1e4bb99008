-- Commands that are drawn in turn: more of them, and the first that is refused.
use Rattle.std.proofs.Common.{◌≡◌, ℕ, ◌+◌, ◌<◌, List, [], ◌∷◌, ◌++◌, get_or, length, take, drop, Option, Some, None, sym, ap, ◌∙◌, subst, append_assoc, append-nil, take-append-drop}
use Rattle.std.specs.Option.{option_or}
use Rattle.std.specs.Prelude.{flat_map}
use Rattle.std.proofs.lemmas.Grind.{flat_map-append}
use Rattle.std.proofs.lemmas.List.{take_more}
use Rattle.map_tables.specs.Errors.{code_of}
use Rattle.map_tables.specs.Outcomes.{least}
use Rattle.map_tables.specs.Tables.{Tables}
use Rattle.map_commands.specs.Step.{after, faults}
use Rattle.map_commands.specs.declared.command.Command.{Command}
use Rattle.map_areas.specs.Drawn.{LeadTo, RefusesOneOf, first_refusal}
use Rattle.map_areas.specs.declared.error.AreaError.{AreaError}
use Rattle.map_areas.specs.declared.error.AreaError.TheVariants.{OutOfMemory, Refused}

-- ---- lists of them one after another

-- both are accepted
pub LeadTo-append : (old : Tables) (xs : List Command) (mid : Tables) (ys : List Command) (new : Tables) → LeadTo old xs mid → LeadTo mid ys new
    → LeadTo old (xs ++ ys) new
LeadTo-append old [] mid ys new h k = subst (λ (m : Tables). LeadTo m ys new) h k
LeadTo-append old (x ∷ xs) mid ys new h k = (h.0, h.1, LeadTo-append (after old x) xs mid ys new h.2 k)

refusal_past : (old : Tables) (xs : List Command) (mid : Tables) (ys : List Command) → LeadTo old xs mid
    → first_refusal old (xs ++ ys) ≡ first_refusal mid ys
refusal_past old [] mid ys h = ap (λ (m : Tables). first_refusal m ys) (sym h)
refusal_past old (x ∷ xs) mid ys h =
    ap (λ (o : Option ℕ). option_or o (first_refusal (after old x) (xs ++ ys))) h.1 ∙ refusal_past (after old x) xs mid ys h.2

-- the first ones are accepted
pub refuses_past : (old : Tables) (xs : List Command) (mid : Tables) (ys : List Command) (e : AreaError) → LeadTo old xs mid → RefusesOneOf mid ys e
    → RefusesOneOf old (xs ++ ys) e
refuses_past old xs mid ys (Refused e) h r = refusal_past old xs mid ys h ∙ r
refuses_past old xs mid ys OutOfMemory h r = tt
refuses_past old xs mid ys e h r = r

either_kept : (o p q : Option ℕ) (code : ℕ) → option_or o p ≡ Some code → (p ≡ Some code → q ≡ Some code) → option_or o q ≡ Some code
either_kept None p q code h k = k h
either_kept (Some n) p q code h k = h

refusal_kept : (old : Tables) (xs ys : List Command) (code : ℕ) → first_refusal old xs ≡ Some code → first_refusal old (xs ++ ys) ≡ Some code
refusal_kept old [] ys code h = cc
refusal_kept old (x ∷ xs) ys code h =
    either_kept (least (faults old x)) (first_refusal (after old x) xs) (first_refusal (after old x) (xs ++ ys)) code h
    (refusal_kept (after old x) xs ys code)

-- one of the first ones is refused
pub refuses_kept : (old : Tables) (xs ys : List Command) (e : AreaError) → RefusesOneOf old xs e → RefusesOneOf old (xs ++ ys) e
refuses_kept old xs ys (Refused e) r = refusal_kept old xs ys (code_of e) r
refuses_kept old xs ys OutOfMemory r = tt
refuses_kept old xs ys e r = r

-- ---- those of each item of a list

more : {X : Type 0} (f : X → List Command) (xs : List X) (n : ℕ) (d : X) → n < length xs
    → flat_map f (take (n + 1) xs) ≡ flat_map f (take n xs) ++ f (get_or xs n d)
more f xs n d lt =
    ap (flat_map f) (take_more xs n d lt)
    ∙ flat_map-append f (take n xs) (get_or xs n d ∷ [])
    ∙ ap (λ (cs : List Command). flat_map f (take n xs) ++ cs) (append-nil (f (get_or xs n d)))

-- those of one more item are accepted
pub LeadTo-item : {X : Type 0} (f : X → List Command) (xs : List X) (n : ℕ) (d : X) (old mid new : Tables) → n < length xs
    → LeadTo old (flat_map f (take n xs)) mid → LeadTo mid (f (get_or xs n d)) new → LeadTo old (flat_map f (take (n + 1) xs)) new
LeadTo-item f xs n d old mid new lt h k =
    subst (λ (cs : List Command). LeadTo old cs new) (sym (more f xs n d lt))
    (LeadTo-append old (flat_map f (take n xs)) mid (f (get_or xs n d)) new h k)

-- and noted
pub noted_item : {X : Type 0} (f : X → List Command) (xs : List X) (n : ℕ) (d : X) (before noted new : List Command) → n < length xs
    → noted ≡ before ++ flat_map f (take n xs) → new ≡ noted ++ f (get_or xs n d) → new ≡ before ++ flat_map f (take (n + 1) xs)
noted_item f xs n d before noted new lt h k =
    k ∙ ap (λ (cs : List Command). cs ++ f (get_or xs n d)) h
    ∙ append_assoc before (flat_map f (take n xs)) (f (get_or xs n d))
    ∙ ap (λ (cs : List Command). before ++ cs) (sym (more f xs n d lt))

-- one of those of an item is refused
pub refuses_item : {X : Type 0} (f : X → List Command) (xs : List X) (n : ℕ) (d : X) (old mid : Tables) (e : AreaError) → n < length xs
    → LeadTo old (flat_map f (take n xs)) mid → RefusesOneOf mid (f (get_or xs n d)) e → RefusesOneOf old (flat_map f xs) e
refuses_item f xs n d old mid e lt h r =
    let here : RefusesOneOf old (flat_map f (take (n + 1) xs)) e =
    subst (λ (cs : List Command). RefusesOneOf old cs e) (sym (more f xs n d lt))
    (refuses_past old (flat_map f (take n xs)) mid (f (get_or xs n d)) e h r) in
    subst (λ (cs : List Command). RefusesOneOf old cs e)
    (sym (flat_map-append f (take (n + 1) xs) (drop (n + 1) xs)) ∙ ap (flat_map f) (take-append-drop (n + 1) xs))
    (refuses_kept old (flat_map f (take (n + 1) xs)) (flat_map f (drop (n + 1) xs)) e here)
