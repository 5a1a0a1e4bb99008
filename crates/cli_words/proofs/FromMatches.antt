-- From the matches of a parse to what the words ask for.
use Rattle.std.proofs.Common.{◌≡◌, ◌∙◌, ◌⊎◌, IfSome, IfNone, ◌<◌, ◌≤◌, ◌^◌, inl, inr, arith, ℕ, Result, Ok, Err, List, [], ◌∷◌, Option, Some, None, Box, Bool, IsSomeAnd, true, false, cond, refl, sym, ap, subst, option_map}
use Rattle.std.specs.Prelude.{codes, find, map, not, ◌&&◌, is_some, string_bytes}
use Rattle.std.specs.Box.{box_value}
use Rattle.clap.specs.Words.{HasMatchesOf, Kinds, ReadsOne, Row, Shape, Text, fault_of, found_of, is_simple, is_simple_and_free, one_text, rows_of, subcommand_name_of, subcommand_of, subcommand_rows, subcommand_rows_of}
use Rattle.clap.specs.Kinds.{check_kinds, or_else}
use Rattle.clap.specs.Simple.{argument_words, built, entered, label_of, names_of, rows_at}
use Rattle.clap.specs.Walk.{Held, Names, answers_to, finished, nothing_held, settled, stop_after, walk, walk_from}
use Rattle.clap.specs.Takes.{is_given}
use Rattle.clap.specs.Facts.{explicit_source}
use Rattle.std.specs.List.{list_any}
use Rattle.clap.specs.Matches.{has_subcommand}
use Rattle.clap.specs.Faults.{check_fault, defaults_fault, entered_fault, level_fault, settle_fault, walk_fault}
use Rattle.clap.specs.declared.parser.matches.ArgMatches.{ArgMatches}
use Rattle.clap.specs.declared.parser.matches.SubCommand.{SubCommand}
use Rattle.clap.specs.declared.parser.matches.ArgMatches.TheViews.{out-ArgMatches, out-SubCommand}
use Rattle.clap.proofs.OnLiterals.{clap_on_literals}
use Rattle.std.specs.Str.Parse.{ParsesUnsigned}
use Rattle.clap.specs.declared.parser.matches.Found.{Found}
use Rattle.clap.proofs.WalkLemmas.{one_text-rows}
use Rattle.cli_words.specs.App.{leveled_app}
use Rattle.cli_words.specs.Request.{HasMoreThanFile, HasNumber, IsSubcommand, LacksNumber, LacksValue, RefusesRead, RefusesValues}
use Rattle.cli_words.specs.Boxes.{HasNoBox}
use Rattle.cli_words.specs.RuleWords.{HasUnknownWord}
use Rattle.cli_words.specs.declared.asked.RequestError.{RequestError}
use Rattle.cli_words.specs.declared.asked.RequestError.TheVariants.{Words, Help, Number, WholeAlone, NotARule, NotABox, Memory}

pub is_simple-leveled : is_simple leveled_app ≡ true
unfolding clap_on_literals
is_simple-leveled = refl

pub is_simple_and_free-leveled : is_simple_and_free leveled_app ≡ true
unfolding clap_on_literals
is_simple_and_free-leveled = refl

-- a subcommand that was met, with its name and rows
row_of_box : {Z : Type 0} (o : Option (Box SubCommand Z)) (name : Text) (rows : List Row)
    → Some name ≡ option_map (λ b. (out-SubCommand (box_value b)).name.now) o
    → Some rows ≡ option_map (λ p. p.1) (subcommand_rows o) → subcommand_rows o ≡ Some (name, rows)
row_of_box None name rows e d = cc
row_of_box (Some b) name rows e d =
    let n : name ≡ (out-SubCommand (box_value b)).name.now = cc in
    let r : rows ≡ rows_of (found_of (out-SubCommand (box_value b)).matches) = cc in
    rw (n, r) refl

pub row_met : (m : ArgMatches) (name : Text) (rows : List Row) → Some name ≡ subcommand_name_of m
    → Some rows ≡ option_map (λ p. p.1) (subcommand_rows_of m) → subcommand_rows_of m ≡ Some (name, rows)
row_met m name rows named given = row_of_box (out-ArgMatches m).subcommand name rows named given

-- the subcommand of the words
pub words_name : (m : ArgMatches) (words : List Text) (name : Text) (rows : List Row)
    → HasMatchesOf leveled_app words m → Some name ≡ subcommand_name_of m
    → Some rows ≡ option_map (λ p. p.1) (subcommand_rows_of m) → subcommand_of leveled_app words ≡ Some (name, rows)
words_name m words name rows has named given = sym (has is_simple-leveled).1 ∙ row_met m name rows named given

-- the name is one of these
abbrev IsAmong : List Text → Text → Type 0
IsAmong [] name = ⊥
IsAmong (n ∷ ns) name = (name ≡ n) ⊎ IsAmong ns name

abbrev name_in : Text → Option (Text × List Row) → Text
name_in other None = other
name_in other (Some p) = p.0

of_found : (test : Shape → Bool) (subs : List Shape) (words : List Text) (name : Text) (rows : List Row)
    → option_map (λ t. rows_at t words) (find test subs) ≡ Some (name, rows) → IsAmong (map (λ s. s.name) subs) name
of_found test [] words name rows e = cc
of_found test (s ∷ subs) words name rows e = go (test s) (of_found test subs words name rows) e
  where
    go : (t : Bool) → (option_map (λ u. rows_at u words) (find test subs) ≡ Some (name, rows) → IsAmong (map (λ t. t.name) subs) name)
        → option_map (λ u. rows_at u words) (cond t (Some s) (find test subs)) ≡ Some (name, rows) → (name ≡ s.name) ⊎ IsAmong (map (λ t. t.name) subs) name
    go true behind d = inl (ap (name_in s.name) (sym d))
    go false behind d = inr (behind d)

of_all : (name : Text)
    → IsAmong (codes "scratch" ∷ codes "create" ∷ codes "edit" ∷ codes "check" ∷ codes "lint" ∷ codes "draw" ∷ codes "dump" ∷ codes "picture" ∷ codes "inspect" ∷ codes "build" ∷ codes "rebuild" ∷ []) name
    → IsSubcommand name
of_all name (inl is) = inl is
of_all name (inr (inl is)) = inr (inl is)
of_all name (inr (inr (inl is))) = inr (inr (inl is))
of_all name (inr (inr (inr (inl is)))) = inr (inr (inr (inl is)))
of_all name (inr (inr (inr (inr (inl is))))) = inr (inr (inr (inr (inl is))))
of_all name (inr (inr (inr (inr (inr (inl is)))))) = inr (inr (inr (inr (inr (inl is)))))
of_all name (inr (inr (inr (inr (inr (inr (inl is))))))) = inr (inr (inr (inr (inr (inr (inl is))))))
of_all name (inr (inr (inr (inr (inr (inr (inr (inl is)))))))) = inr (inr (inr (inr (inr (inr (inr (inl is)))))))
of_all name (inr (inr (inr (inr (inr (inr (inr (inr (inl is))))))))) = inr (inr (inr (inr (inr (inr (inr (inr (inl is))))))))
of_all name (inr (inr (inr (inr (inr (inr (inr (inr (inr (inl is)))))))))) = inr (inr (inr (inr (inr (inr (inr (inr (inr (inl is)))))))))
of_all name (inr (inr (inr (inr (inr (inr (inr (inr (inr (inr (inl is))))))))))) = inr (inr (inr (inr (inr (inr (inr (inr (inr (inr is)))))))))
of_all name (inr (inr (inr (inr (inr (inr (inr (inr (inr (inr (inr never))))))))))) = absurd never

only_these : (stop : Option (Text × List Text)) (name : Text) (rows : List Row) → entered (built leveled_app) stop ≡ Some (name, rows) → IsSubcommand name
only_these None name rows e = cc
only_these (Some p) name rows e = of_all name (of_found (λ s. answers_to p.0 (label_of s)) (built leveled_app).subs p.1 name rows e)

pub is_subcommand : (words : List Text) (name : Text) (rows : List Row) → subcommand_of leveled_app words ≡ Some (name, rows) → IsSubcommand name
is_subcommand words name rows e =
    only_these (stop_after (built leveled_app).top.rules (names_of (built leveled_app)) (argument_words leveled_app words)) name rows e

-- ---- A subcommand was met

or_else-right : (xs ys : Kinds) → or_else xs ys ≡ [] → ys ≡ []
or_else-right [] ys e = e
or_else-right (x ∷ xs) ys e = cc

check_none : (help sub argument : Bool) → check_kinds help sub argument ≡ [] → sub ≡ false
check_none true sub argument e = cc
check_none false true argument e = cc
check_none false false argument e = refl

wanted : (has required : Bool) → required ≡ true → (not has && required) ≡ false → has ≡ true
wanted true required is e = refl
wanted false required is e = cc

checked : (s : Shape) (rows : List Row) (has : Bool) → s.subcommand_required ≡ true → check_fault s rows has ≡ [] → has ≡ true
checked s rows has required e =
    wanted has s.subcommand_required required
    (check_none (not has && (s.arg_required_else_help && not (list_any (λ r. explicit_source r.source) rows)))
    (not has && s.subcommand_required)
    (not (s.subcommand_negates_reqs && has) && list_any (λ a. a.required && not (is_given a.id rows)) s.rules) e)

-- where a subcommand has to be there and no fault was found, it is
enters : (s : Shape) (names : Names) (h : Held) (words : List Text) (has : Bool) (below : Kinds) → s.subcommand_required ≡ true
    → level_fault s names h words has below ≡ [] → has ≡ true
enters s names h words has below required e =
    let end = (walk s.rules names h words).held in
    checked s (finished s.rules end) has required
    (or_else-right (defaults_fault (settled s.rules end).rows s.rules) _
    (or_else-right (settle_fault s.rules s.args_override_self end) _
    (or_else-right below _ (or_else-right (walk_fault s names (walk_from h) words) _ e))))

pub must_enter : (words : List Text) → fault_of leveled_app words ≡ [] → is_some (subcommand_of leveled_app words) ≡ true
must_enter words e =
    enters (built leveled_app).top (names_of (built leveled_app)) nothing_held (argument_words leveled_app words)
    (is_some (subcommand_of leveled_app words)) (entered_fault (built leveled_app) (stop_after (built leveled_app).top.rules (names_of (built leveled_app)) (argument_words leveled_app words))) refl e

none_met : {Z : Type 0} (o : Option (Box SubCommand Z)) → is_some (subcommand_rows o) ≡ true → false ≡ is_some o → ⊥
none_met None some none = cc
none_met (Some b) some none = cc

pub met : (m : ArgMatches) (words : List Text) → HasMatchesOf leveled_app words m → fault_of leveled_app words ≡ [] → false ≡ has_subcommand m → ⊥
met m words has none without =
    none_met (out-ArgMatches m).subcommand (ap is_some (has is_simple-leveled).1 ∙ must_enter words none) without

-- ---- The request

pub asks : (o : Option (Text × List Row)) (name : Text) (rows : List Row) (P : Text × List Row → Type 0) → o ≡ Some (name, rows) → P (name, rows) → IsSomeAnd o P
asks o name rows P is holds = subst (λ (p : Option (Text × List Row)). IsSomeAnd p P) (sym is) holds

pub refuses : (words : List Text) (name : Text) (rows : List Row) (e : RequestError) → subcommand_of leveled_app words ≡ Some (name, rows) → RefusesValues (name, rows) e → RefusesRead words e
refuses words name rows (Words error) is never = absurd never
refuses words name rows (Help topic) is never = absurd never
refuses words name rows Number is lacks = asks (subcommand_of leveled_app words) name rows LacksValue is lacks
refuses words name rows WholeAlone is has = asks (subcommand_of leveled_app words) name rows HasMoreThanFile is has
refuses words name rows (NotARule word) is has = asks (subcommand_of leveled_app words) name rows (HasUnknownWord (string_bytes word)) is has
refuses words name rows (NotABox text) is has = asks (subcommand_of leveled_app words) name rows (HasNoBox (string_bytes text)) is has
refuses words name rows Memory is told = tt

-- ---- The values

-- the number that a text is read as
pub number_read : {E : Type 0} (G : List ℕ → Result ℕ E → Type 0) (f : Found) (id : Text) (low high n : ℕ) (o : Option ℕ) → o ≡ Some n
    → (one_text f id ≡ None → o ≡ None) → ((t : List ℕ) → one_text f id ≡ Some t → ReadsOne G t o)
    → ((u : List ℕ) (x : Result ℕ E) → G u x → ParsesUnsigned 32 10 u x) → low ≤ n → n ≤ high
    → HasNumber id (rows_of f) low high n
number_read {E} G f id low high n o is none some parses least most = go (one_text f id) refl
  where
    go : (p : Option (List ℕ)) → one_text f id ≡ p → HasNumber id (rows_of f) low high n
    go None e = let bad : ◌≡◌ {A = Option ℕ} (Some n) None = sym is ∙ none e in cc
    go (Some t) e =
        let read = parses t (Ok n) (subst (λ (q : Option ℕ). ReadsOne G t q) is (some t e)) in
        record {
          text = t;
          given = sym (one_text-rows f id) ∙ e;
          numeral = read.0.0;
          is = read.1;
          least = least;
          most = most;
        }

-- no number is read, or one outside the limits
pub number_lacks : {E : Type 0} (G : List ℕ → Result ℕ E → Type 0) (f : Found) (id : Text) (low high : ℕ) (o : Option ℕ)
    → ((t : List ℕ) → one_text f id ≡ Some t → ReadsOne G t o)
    → ((u : List ℕ) (x : Result ℕ E) → G u x → ParsesUnsigned 32 10 u x) → high < 2 ^ 32
    → ((n : ℕ) → o ≡ Some n → low ≤ n → n ≤ high → ⊥) → LacksNumber id (rows_of f) low high
number_lacks {E} G f id low high o some parses small outside = λ n h. go n h o (λ m is. outside m is) (some h.text (one_text-rows f id ∙ h.given))
  where
    go : (n : ℕ) (h : HasNumber id (rows_of f) low high n) (p : Option ℕ) → ((m : ℕ) → p ≡ Some m → low ≤ m → m ≤ high → ⊥) → ReadsOne G h.text p → ⊥
    go n h None out (error, read) = parses h.text (Err error) read (h.numeral, (let is = h.is in let most = h.most in omega (arith, small)))
    go n h (Some m) out read =
        let is : m ≡ n = (parses h.text (Ok m) read).1 ∙ sym h.is in
        out m refl (subst (λ (k : ℕ). low ≤ k) (sym is) h.least) (subst (λ (k : ℕ). k ≤ high) (sym is) h.most)

-- a number of which it is known whether it is within the limits
pub within_read : {E : Type 0} (G : List ℕ → Result ℕ E → Type 0) (f : Found) (id : Text) (low high n : ℕ) (o : Option ℕ) → o ≡ Some n
    → (one_text f id ≡ None → o ≡ None) → ((t : List ℕ) → one_text f id ≡ Some t → ReadsOne G t o)
    → ((u : List ℕ) (x : Result ℕ E) → G u x → ParsesUnsigned 32 10 u x)
    → (r : Option ℕ) → IfSome r (λ m. (m ≡ n) × (low ≤ n) × (n ≤ high)) → IfSome r (HasNumber id (rows_of f) low high)
within_read G f id low high n o is none some parses None h = tt
within_read G f id low high n o is none some parses (Some m) (same, least, most) =
    subst (λ k. HasNumber id (rows_of f) low high k) (sym same) (number_read G f id low high n o is none some parses least most)

pub within_lacks : {E : Type 0} (G : List ℕ → Result ℕ E → Type 0) (f : Found) (id : Text) (low high n : ℕ) (o : Option ℕ) → o ≡ Some n
    → ((t : List ℕ) → one_text f id ≡ Some t → ReadsOne G t o)
    → ((u : List ℕ) (x : Result ℕ E) → G u x → ParsesUnsigned 32 10 u x) → high < 2 ^ 32
    → (r : Option ℕ) → IfNone r (¬ ((low ≤ n) × (n ≤ high))) → IfNone r (LacksNumber id (rows_of f) low high)
within_lacks G f id low high n o is some parses small (Some m) h = tt
within_lacks G f id low high n o is some parses small None out = number_lacks G f id low high o some parses small outside
  where
    outside : (k : ℕ) → o ≡ Some k → low ≤ k → k ≤ high → ⊥
    outside k other least most =
        let e : k ≡ n = cc in
        out (subst (λ m. low ≤ m) e least, subst (λ m. m ≤ high) e most)

pub none_lacks : {E : Type 0} (G : List ℕ → Result ℕ E → Type 0) (f : Found) (id : Text) (low high : ℕ) (o : Option ℕ) → o ≡ None
    → ((t : List ℕ) → one_text f id ≡ Some t → ReadsOne G t o)
    → ((u : List ℕ) (x : Result ℕ E) → G u x → ParsesUnsigned 32 10 u x) → high < 2 ^ 32 → LacksNumber id (rows_of f) low high
none_lacks G f id low high o is some parses small = number_lacks G f id low high o some parses small outside
  where
    outside : (k : ℕ) → o ≡ Some k → low ≤ k → k ≤ high → ⊥
    outside k other least most = cc
