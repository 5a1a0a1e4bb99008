use Rattle.std.specs.Str.Parse.{ParsesUnsigned, ExplainsUnsignedError, HasUnsignedDigitsIfOk}
use Rattle.clap.specs.Words.{found_of}
use Rattle.cli_words.proofs.FromMatches.{none_lacks, within_lacks, within_read}
use Rattle.cli_words.proofs.command_line.number.Goals as goal

pub returns-in-Some-clause-some : goal.returns-in-Some-clause-some
returns-in-Some-clause-some c =
    within_read (λ bs r. ParsesUnsigned 32 10 bs r × ExplainsUnsignedError 10 bs r × HasUnsignedDigitsIfOk bs r)
    (found_of c.args.found.now) c.args.id.now c.args.low c.args.high c.in-Some.n c.get_one.result c.in-Some.is c.get_one.ensures.none
    c.get_one.ensures.value (λ u x g. g.0) c.within.result c.within.ensures.some

pub returns-in-Some-clause-none : goal.returns-in-Some-clause-none
returns-in-Some-clause-none c =
    within_lacks (λ bs r. ParsesUnsigned 32 10 bs r × ExplainsUnsignedError 10 bs r × HasUnsignedDigitsIfOk bs r)
    (found_of c.args.found.now) c.args.id.now c.args.low c.args.high c.in-Some.n c.get_one.result c.in-Some.is
    c.get_one.ensures.value (λ u x g. g.0) c.ranges.high.fits c.within.result c.within.ensures.none

pub returns-in-None-clause-none : goal.returns-in-None-clause-none
returns-in-None-clause-none c =
    none_lacks (λ bs r. ParsesUnsigned 32 10 bs r × ExplainsUnsignedError 10 bs r × HasUnsignedDigitsIfOk bs r)
    (found_of c.args.found.now) c.args.id.now c.args.low c.args.high c.get_one.result c.in-None.is
    c.get_one.ensures.value (λ u x g. g.0) c.ranges.high.fits
