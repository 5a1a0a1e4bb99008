use Rattle.std.proofs.Common.{◌∙◌, ap, map}
use Rattle.tree_blocks.proofs.NoteLemmas.{noted_now, place_now}
use Rattle.tree_blocks.proofs.gather.note.Goals as goal

pub returns-clause-keys : goal.returns-clause-keys
returns-clause-keys c = ap (map (λ k. k.now)) c.in_ok-place.ensures.keys ∙ noted_now c.args.list c.args.written.now.keys

pub returns-clause-place : goal.returns-clause-place
returns-clause-place c = c.in_ok-place.ensures.index ∙ place_now c.args.list.now c.args.written.now.keys
