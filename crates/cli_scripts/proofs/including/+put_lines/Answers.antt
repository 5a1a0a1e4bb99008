use Rattle.std.proofs.Common.{◌∙◌, arith, string_bytes}
use Rattle.std.proofs.KnownBytes.{Keeps-refl, Keeps-trans}
use Rattle.map_script.specs.Views.{seen}
use Rattle.map_script.specs.Words.{text_words}
use Rattle.cli_scripts.proofs.JoinedLines.{ends_inner, ends_own, puts_all, puts_inner, puts_none, puts_own}
use Rattle.cli_scripts.proofs.including.+put_lines.Goals as goal

pub loop-place-init : goal.loop-place-init
loop-place-init g t c = record {
  put = puts_none c.args.left (string_bytes c.args.file.now.path) c.args.file.now.lines c.args.whole.now.lines c.args.whole.now.files;
  quiet = Keeps-refl (g.F.Write.contents c.args.faults.now);
}

pub loop-place-preserved-in-Ok : goal.loop-place-preserved-in-Ok
loop-place-preserved-in-Ok g t c = record {
  put = puts_own c.args.left (string_bytes c.args.file.now.path) c.as_str.result.now c.args.file.now.lines c.loop-place.place (seen c.line-line.result) _ _ _ _ _ _
      c.loop-place.invariant.put c.line-line.ensures c.in_default.ensures (c.as_str.ensures.value ∙ c.requires) c.in-Ok.ensures.lines c.in-Ok.ensures.files;
  quiet = c.loop-place.invariant.quiet;
}

pub loop-place-preserved : goal.loop-place-preserved
loop-place-preserved g t c =
    let (word, text, one, beside, read) = c.in-Ok-included_by.ensures.read in
    record {
      put = puts_inner c.args.left (string_bytes c.args.file.now.path) c.args.file.now.lines c.loop-place.place (seen c.line-line.result) (text_words c.in-Some.words.now) word text
          _ _ _ _ _ _ _ _ c.loop-place.invariant.put c.line-line.ensures c.in-Some.ensures one beside read c.in-Ok-included_by.ensures.deep c.in-Ok-put_lines.ensures.put;
      quiet = Keeps-trans _ _ _ (Keeps-trans _ _ _ c.loop-place.invariant.quiet c.in-Ok-included_by.ensures.quiet) c.in-Ok-put_lines.ensures.quiet;
    }

pub returns-clause-put : goal.returns-clause-put
returns-clause-put g t c = puts_all _ _ _ _ _ _ _ _ c.loop-place.invariant.put (omega (arith, c.loop-place-test.false))

pub returns-in-Err-included_by-clause-refused : goal.returns-in-Err-included_by-clause-refused
returns-in-Err-included_by-clause-refused g t c =
    ends_own c.args.left (string_bytes c.args.file.now.path) (string_bytes c.args.file.now.shown) c.args.file.now.lines c.loop-place.place (seen c.line-line.result)
    (text_words c.in-Some.words.now) c.in-Err-included_by.how _ _ _ c.line-line.ensures c.in-Some.ensures c.requires c.loop-place.invariant.quiet
    c.in-Err-included_by.ensures.refused

pub returns-in-Err-put_lines-clause-refused : goal.returns-in-Err-put_lines-clause-refused
returns-in-Err-put_lines-clause-refused g t c =
    let (word, text, one, beside, read) = c.in-Ok-included_by.ensures.read in
    ends_inner c.args.left (string_bytes c.args.file.now.path) c.args.file.now.lines c.loop-place.place (seen c.line-line.result) (text_words c.in-Some.words.now) word text
    _ _ c.in-Err-put_lines.how _ _ _ c.line-line.ensures c.in-Some.ensures one beside read c.in-Ok-included_by.ensures.deep
    (Keeps-trans _ _ _ c.loop-place.invariant.quiet c.in-Ok-included_by.ensures.quiet) c.in-Err-put_lines.ensures.refused
