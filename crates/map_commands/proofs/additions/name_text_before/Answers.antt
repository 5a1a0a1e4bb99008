use Rattle.map_words.proofs.LineParts.{parts-at}
use Rattle.map_commands.proofs.NameFronts.{no-space-within}
use Rattle.map_commands.proofs.additions.name_text_before.Goals as goal

pub returns-then-len-gt0-clause-parts : goal.returns-then-len-gt0-clause-parts
returns-then-len-gt0-clause-parts c =
    let l = c.loop-len in
    parts-at c.args.text.now l.len (λ k h. no-space-within c.args.text.now l.len k l.invariant.within l.invariant.bytes h) c.if-text-len.false c.if-byte-eq32.true
