-- The textures by their names, one texture more at a time.
use Rattle.std.proofs.Common.{◌≡◌, ◌∙◌, ℕ, ◌+◌, ◌<◌, Bool, true, false, cond, List, [], ◌∷◌, Option, Some, None, length, get_or, take, refl, sym, ap}
use Rattle.std.specs.Prelude.{bytes_eq, find, is_some}
use Rattle.std.specs.Option.{option_or}
use Rattle.std.proofs.lemmas.List.{take_more}
use Rattle.std.proofs.lemmas.List.Folds.{find-append}
use Rattle.std.proofs.lemmas.Slice.Eq.{bytes_eq-Decides}
use Rattle.lump_textures.specs.declared.texture.Texture.{Texture}

or_none : {X : Type 0} (o : Option X) → o ≡ option_or o None
or_none None = refl
or_none (Some x) = refl

-- what a name means after one texture more
pub indexed_more : (ts : List Texture) (i : ℕ) (d : Texture) → i < length ts → (bytes : List ℕ) (old new : Option Texture)
    → old ≡ find (λ t. bytes_eq t.name.bytes bytes) (take i ts) → new ≡ option_or old (cond (bytes_eq (get_or ts i d).name.bytes bytes) (Some (get_or ts i d)) None)
    → new ≡ find (λ t. bytes_eq t.name.bytes bytes) (take (i + 1) ts)
indexed_more ts i d within bytes old new was now =
    now ∙ ap (λ (o : Option Texture). option_or o (cond (bytes_eq (get_or ts i d).name.bytes bytes) (Some (get_or ts i d)) None)) was
    ∙ sym (ap (find (λ t. bytes_eq t.name.bytes bytes)) (take_more ts i d within) ∙ find-append (λ t. bytes_eq t.name.bytes bytes) (take i ts) (get_or ts i d ∷ []))

-- a name that has a texture keeps it
pub kept : (means : List ℕ → Option Texture) (t : Texture) → is_some (means t.name.bytes) ≡ true → (bytes : List ℕ)
    → means bytes ≡ option_or (means bytes) (cond (bytes_eq t.name.bytes bytes) (Some t) None)
kept means t some bytes = go (means bytes) refl (bytes_eq t.name.bytes bytes) refl
  where
    go : (o : Option Texture) → means bytes ≡ o → (b : Bool) → bytes_eq t.name.bytes bytes ≡ b → o ≡ option_or o (cond b (Some t) None)
    go (Some x) is b same = refl
    go None is false same = refl
    go None is true same =
        let at : t.name.bytes ≡ bytes = (bytes_eq-Decides t.name.bytes bytes).0 same in
        let bad : false ≡ true = sym (ap is_some (ap means at ∙ is)) ∙ some in
        cc

-- one that has none gets it
pub gained : (old new : List ℕ → Option Texture) (t : Texture) → is_some (old t.name.bytes) ≡ false
    → ((bytes : List ℕ) → new bytes ≡ cond (bytes_eq t.name.bytes bytes) (Some t) (old bytes)) → (bytes : List ℕ)
    → new bytes ≡ option_or (old bytes) (cond (bytes_eq t.name.bytes bytes) (Some t) None)
gained old new t none now bytes = now bytes ∙ go (old bytes) refl (bytes_eq t.name.bytes bytes) refl
  where
    go : (o : Option Texture) → old bytes ≡ o → (b : Bool) → bytes_eq t.name.bytes bytes ≡ b → cond b (Some t) o ≡ option_or o (cond b (Some t) None)
    go o is false same = or_none o
    go None is true same = refl
    go (Some x) is true same =
        let at : t.name.bytes ≡ bytes = (bytes_eq-Decides t.name.bytes bytes).0 same in
        let bad : true ≡ false = sym (ap is_some (ap old at ∙ is)) ∙ none in
        cc
