use Rattle.std.proofs.Common.{◌≡◌, ◌∙◌, ◌++◌, ℕ, List, ap, ap₂, map, length, sym}
use Rattle.map_script.specs.Frames.{known_entry, known_in}
use Rattle.map_script.specs.Meant.{Meant, meant, with_meaning}
use Rattle.map_script.specs.declared.meaning.Meaning.{Meaning}
use Rattle.map_script.proofs.Layering.{given_behind, given_front, given_long, layer_is}
use Rattle.map_script.proofs.Table.{put_in}
use Rattle.map_script.proofs.frame.Frame.give.Goals as goal

pub returns-in_default-clause-ok : goal.returns-in_default-clause-ok
returns-in_default-clause-ok c =
    let frame = c.args.self.now in
    let name : List ℕ = c.args.name.now in
    let others : List (List ℕ × Meant) = map known_entry frame.table.entries in
    let m : Meaning = record { words = c.in_ok-words.words; referent = c.args.referent; firsts = c.args.firsts } in
    let (now, some) = c.in_default.ensures in
    layer_is _ _ _ _
    (ap (λ ns. ns ++ others) now ∙ sym (given_front frame.held others name (meant m) some)
    ∙ ap (λ (w : List ℕ). with_meaning (known_in frame) name (record { words = w; referent = c.args.referent; firsts = c.args.firsts })) c.in_ok-words.ensures.ok)
    (ap length now ∙ given_long frame.held name (meant m) some)

pub returns-in-Ok-clause-ok : goal.returns-in-Ok-clause-ok
returns-in-Ok-clause-ok c =
    let frame = c.args.self.now in
    let others : List (List ℕ × Meant) = map known_entry frame.table.entries in
    let m : Meaning = record { words = c.in_ok-words.words; referent = c.args.referent; firsts = c.args.firsts } in
    let (same, held, none) = c.in-Some.ensures in
    let key : c.in_ok-key.key.items ≡ c.args.name.now = c.in_ok-key.ensures.ok in
    let words : c.in_ok-words.words.items ≡ c.args.words.now = c.in_ok-words.ensures.ok in
    layer_is _ _ _ _
    (ap₂ (λ hs es. hs ++ map known_entry es) held c.in-Ok.ensures.entries
    ∙ ap (λ ns. frame.held ++ ns) (put_in frame.table.entries c.in_ok-key.key c.in-Some.meaning)
    ∙ ap₂ (λ (n : List ℕ) (w : Meaning). frame.held ++ with_meaning others n (meant w)) key same
    ∙ sym (given_behind frame.held others c.args.name.now (meant m) none)
    ∙ ap (λ (w : List ℕ). with_meaning (known_in frame) c.args.name.now (record { words = w; referent = c.args.referent; firsts = c.args.firsts })) words)
    (ap length held)
