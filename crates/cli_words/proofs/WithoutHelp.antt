-- Words that are read without `help`.
use Rattle.std.proofs.Common.{◌≡◌, ◌∙◌, List, [], ◌∷◌, Bool, true, false, None, Some, arith, ap, get_or, length, map, refl, subst, sym}
use Rattle.std.specs.Prelude.{codes, not}
use Rattle.std.proofs.lemmas.List.{length-map}
use Rattle.std.proofs.lemmas.Bool.{cond-false, cond-true}
use Rattle.std.proofs.lemmas.Slice.Eq.{bytes_eq-Decides}
use Rattle.std.specs.Str.{bytes_eq}
use Rattle.clap.specs.Words.{Text}
use Rattle.cli_words.specs.Help.{AsksForTopic, IsRefusal, topic_of, without_help}
use Rattle.cli_words.specs.Request.{RefusesRead}
use Rattle.cli_words.specs.declared.asked.RequestError.{RequestError}
use Rattle.cli_words.specs.declared.topic.Topic.{Topic}
use Rattle.cli_words.specs.declared.asked.RequestError.TheVariants.{Words, Help, Number, WholeAlone, NotARule, NotABox, Memory}

-- the two words of a list of two
pub two : {X : Type 0} (f : X → Text) (xs : List X) (d : X) → length xs ≡ 2 → f (get_or xs 0 d) ∷ f (get_or xs 1 d) ∷ [] ≡ map f xs
two f [] d len = absurd (omega arith)
two f (x ∷ []) d len = absurd (omega arith)
two f (x ∷ y ∷ []) d len = refl
two f (x ∷ y ∷ z ∷ xs) d len = absurd (omega arith)

-- the three words of a list of three
pub three : {X : Type 0} (f : X → Text) (xs : List X) (d : X) → length xs ≡ 3
    → f (get_or xs 0 d) ∷ f (get_or xs 1 d) ∷ f (get_or xs 2 d) ∷ [] ≡ map f xs
three f [] d len = absurd (omega arith)
three f (x ∷ []) d len = absurd (omega arith)
three f (x ∷ y ∷ []) d len = absurd (omega arith)
three f (x ∷ y ∷ z ∷ []) d len = refl
three f (x ∷ y ∷ z ∷ w ∷ xs) d len = absurd (omega arith)

-- other words are read as they are
pub others : {X : Type 0} (f : X → Text) (xs : List X) → (length xs ≡ 2 → ⊥) → (length xs ≡ 3 → ⊥) → map f xs ≡ without_help (map f xs)
others f [] no_two no_three = refl
others f (x ∷ []) no_two no_three = refl
others f (x ∷ y ∷ []) no_two no_three = absurd (no_two refl)
others f (x ∷ y ∷ z ∷ []) no_two no_three = absurd (no_three refl)
others f (x ∷ y ∷ z ∷ w ∷ xs) no_two no_three = refl

-- words of another number ask for no topic
pub no_topic : (words : List Text) → (length words ≡ 3 → ⊥) → (topic : Topic) → ¬ (AsksForTopic words topic)
no_topic words other topic (program, name, is, of) = other (ap length is)

pub others_no_topic : {X : Type 0} (f : X → Text) (xs : List X) → (length xs ≡ 3 → ⊥) → (topic : Topic) → ¬ (AsksForTopic (map f xs) topic)
others_no_topic f xs other = no_topic (map f xs) (λ e. other (sym (length-map xs f) ∙ e))

-- what refuses the words that are read refuses these
pub refused_as : (words reads : List Text) (r : RequestError) → reads ≡ without_help words → ((topic : Topic) → ¬ (AsksForTopic words topic)) → RefusesRead reads r → IsRefusal words r
refused_as words reads (Help topic) same other is = absurd is
refused_as words reads (Words e) same other is = (other, subst (λ (ws : List Text). RefusesRead ws (Words e)) same is)
refused_as words reads Number same other is = (other, subst (λ (ws : List Text). RefusesRead ws Number) same is)
refused_as words reads WholeAlone same other is = (other, subst (λ (ws : List Text). RefusesRead ws WholeAlone) same is)
refused_as words reads (NotARule w) same other is = (other, subst (λ (ws : List Text). RefusesRead ws (NotARule w)) same is)
refused_as words reads (NotABox w) same other is = (other, subst (λ (ws : List Text). RefusesRead ws (NotABox w)) same is)
refused_as words reads Memory same other is = (other, tt)

-- ---- Two words behind the program's name

-- the first isn't `help`
pub read_plainly : (program word name : Text) (r : RequestError) → true ≡ not (bytes_eq word (codes "help")) → RefusesRead (program ∷ word ∷ name ∷ []) r
    → IsRefusal (program ∷ word ∷ name ∷ []) r
read_plainly program word name r other is = go (bytes_eq word (codes "help")) refl
  where
    go : (b : Bool) → bytes_eq word (codes "help") ≡ b → IsRefusal (program ∷ word ∷ name ∷ []) r
    go true e = let never : true ≡ not true = other ∙ ap not e in cc
    go false e =
        refused_as (program ∷ word ∷ name ∷ []) (program ∷ word ∷ name ∷ []) r
        (sym (cond-false (bytes_eq word (codes "help")) (program ∷ name ∷ codes "--help" ∷ []) (program ∷ word ∷ name ∷ []) e))
        (λ topic (p, n, same, of). let at : word ≡ codes "help" = ap (λ (ws : List Text). get_or ws 1 []) same in
        let is_help = (bytes_eq-Decides word (codes "help")).1 at in cc) is

-- it is, and the other names no topic
pub read_helped : (program word name : Text) (r : RequestError) → false ≡ not (bytes_eq word (codes "help")) → topic_of name ≡ None
    → RefusesRead (program ∷ name ∷ codes "--help" ∷ []) r → IsRefusal (program ∷ word ∷ name ∷ []) r
read_helped program word name r helps other is = go (bytes_eq word (codes "help")) refl
  where
    go : (b : Bool) → bytes_eq word (codes "help") ≡ b → IsRefusal (program ∷ word ∷ name ∷ []) r
    go false e = let never : false ≡ not false = helps ∙ ap not e in cc
    go true e =
        refused_as (program ∷ word ∷ name ∷ []) (program ∷ name ∷ codes "--help" ∷ []) r
        (sym (cond-true (bytes_eq word (codes "help")) (program ∷ name ∷ codes "--help" ∷ []) (program ∷ word ∷ name ∷ []) e))
        (λ topic (p, n, same, of). let at : name ≡ n = ap (λ (ws : List Text). get_or ws 2 []) same in
        let never : Some topic ≡ None = sym of ∙ ap topic_of (sym at) ∙ other in cc) is
