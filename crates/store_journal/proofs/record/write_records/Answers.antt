use Rattle.std.proofs.lemmas.Result.{on_ok_weaker}
use Rattle.store_journal.proofs.Append.{first_moments, both_moments, acknowledged, again}
use Rattle.store_journal.proofs.record.write_records.Goals as goal

pub returns-in_err-write_through-clause-any_moment : goal.returns-in_err-write_through-clause-any_moment
returns-in_err-write_through-clause-any_moment g c more group =
    first_moments c.args.area c.args.next more c.args.behind.now group c.requires.room g.D.Disk
    c.args.disk.now c.write_through.new.disk c.write_through.new.disk c.requires.ready c.write_through.ensures.any_moment

pub returns-clause-any_moment : goal.returns-clause-any_moment
returns-clause-any_moment g c more group =
    both_moments c.args.area c.args.next more c.args.behind.now group c.requires.room g.D.Disk
    c.args.disk.now c.write_through.new.disk c.write_through-2.new.disk c.requires.ready
    c.write_through.ensures.any_moment c.in_ok-write_through.ensures.done c.write_through-2.ensures.any_moment

pub returns-clause-appended : goal.returns-clause-appended
returns-clause-appended g c =
    on_ok_weaker c.write_through-2.result
    (λ opens more group. acknowledged c.args.area c.args.next more c.args.behind.now group c.requires.room g.D.Disk
    c.args.disk.now c.write_through.new.disk c.write_through-2.new.disk c.requires.ready
    c.in_ok-write_through.ensures.done opens)
    c.write_through-2.ensures.done

pub returns-clause-ready : goal.returns-clause-ready
returns-clause-ready g c =
    let (more, group) = c.requires.group in
    on_ok_weaker c.write_through-2.result
    (λ appended. again c.args.area c.args.next more c.args.behind.now group c.requires.room g.D.Disk
    c.args.disk.now c.write_through.new.disk c.write_through-2.new.disk c.requires.ready (appended more group))
    (returns-clause-appended g c)
