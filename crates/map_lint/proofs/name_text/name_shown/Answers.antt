use Rattle.std.proofs.Common.{◌≡◌, ◌∙◌, Bool, ℕ, List, true, false, ap, cond, refl, subst, sym}
use Rattle.std.specs.Prelude.{codes}
use Rattle.std.specs.Str.{IsUtf8, is_utf8}
use Rattle.std.proofs.lemmas.Str.{IsUtf8-from_is_utf8, is_utf8-from_IsUtf8}
use Rattle.lump_records.specs.Names.{name_text}
use Rattle.map_lint.proofs.name_text.name_shown.Goals as goal

-- bytes that are text
as_they_are : (bytes text got : List ℕ) → bytes ≡ text → got ≡ bytes → IsUtf8 bytes → got ≡ cond (is_utf8 text) text (codes "?")
as_they_are bytes text got is same utf8 =
    same ∙ is ∙ sym (ap (λ b. cond b text (codes "?")) (is_utf8-from_IsUtf8 text (subst IsUtf8 is utf8)))

-- bytes that are none
as_a_mark : (bytes text : List ℕ) → bytes ≡ text → (IsUtf8 bytes → ⊥) → codes "?" ≡ cond (is_utf8 text) text (codes "?")
as_a_mark bytes text is none = by (is_utf8 text) refl
  where
    by : (b : Bool) → is_utf8 text ≡ b → codes "?" ≡ cond b text (codes "?")
    by true utf8 = absurd (none (subst IsUtf8 (sym is) (IsUtf8-from_is_utf8 text utf8)))
    by false isnt = refl

pub returns-in-Ok : goal.returns-in-Ok
returns-in-Ok c =
    as_they_are c.text.result.now (name_text c.args.name.now) c.in-Ok.text.now c.text.ensures.text c.in-Ok.ensures.cases.0 c.in-Ok.ensures.cases.1

pub returns-in-Err : goal.returns-in-Err
returns-in-Err c = as_a_mark c.text.result.now (name_text c.args.name.now) c.text.ensures.text c.in-Err.ensures.cases.0
