use Rattle.std.proofs.Common.{◌≡◌, ◌∙◌, ◌+◌, ◌≤◌, List, ℕ, ap, arith, drop, length, refl, rules, sym}
use Rattle.map_script.specs.Words.{first_word, text_words}
use Rattle.map_blocks.specs.Blocks.{block_len, block_lines, lines_between, with_places}
use Rattle.map_blocks.proofs.PlacedLines.{body_is}
use Rattle.map_blocks.proofs.defined.shape_at.Goals as goal

pub returns-clause-ok : goal.returns-clause-ok
returns-clause-ok c =
    let all : List (ℕ × (ℕ × List ℕ)) = with_places c.args.lines.now in
    let from = c.args.place + 1 in
    let until = length c.args.lines.now in
    let len = c.block_len.result in
    let name : c.in_ok-name.name.items ≡ first_word (text_words c.args.words.now) = search rules in
    let parameters : text_words c.in_ok-parameters.parameters.items ≡ drop 1 (text_words c.args.words.now) = search rules in
    let is : len ≡ block_len 0 (lines_between all from until) =
    c.block_len.ensures.len ∙ ap (λ (u : ℕ). block_len 0 (lines_between all from u)) c.len-until.ensures.count in
    let within : from + len ≤ until = omega (arith, c.block_len.ensures.within, c.len-until.ensures.count) in
    let end = ap (λ (n : ℕ). from + n) is in
    let body : lines_between all from (from + len) ≡ block_lines (lines_between all from until) =
    sym (body_is all from len until (from + len) is within refl) in
    λ i. record { name = name i; parameters = parameters i; end = end i; body = body i }
