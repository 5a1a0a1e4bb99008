use Rattle.std.proofs.Common.{ap, arith, sym, ◌∙◌, ◌≤◌, length}
use Rattle.std.proofs.lemmas.List.{length-take-le, take_all}
use Rattle.cli_files.specs.Contents.{content_of}
use Rattle.cli_files.proofs.content.content_within.Goals as goal

pub returns-then-bytes-le-HEAD : goal.returns-then-bytes-le-HEAD
returns-then-bytes-le-HEAD c =
    c.content_of.ensures ∙ ap content_of (sym (take_all 512 c.args.bytes.now c.if-bytes-le-HEAD.true))

pub slice_bounds-content_of-end : goal.slice_bounds-content_of-end
slice_bounds-content_of-end c =
    let long : 512 ≤ length c.args.bytes.now = omega arith in
    sym (length-take-le 512 c.args.bytes.now long)
