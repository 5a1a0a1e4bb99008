use Rattle.lump_records.specs.Names.{name_text}
use Rattle.cli_print.specs.Origins.{items_in, origins_text}
use Rattle.cli_print.proofs.Origins.{line_ended}
use Rattle.cli_print.proofs.told.put_line.Goals as goal

pub returns-clause-put : goal.returns-clause-put
returns-clause-put g c = λ said is.
    line_ended c.put-2.result c.args.text.now.items c.args.front.now said
    (origins_text (g.O.Origin.origin c.args.origin.now) (name_text c.args.map.now) (items_in c.args.about)) c.put.new.text.items c.put_remark.new.text.items
    c.put_origins.new.text.items c.put-2.new.text.items c.in_ok-put.ensures.put (c.in_ok-put_remark.ensures.put said is) c.in_ok-put_origins.ensures.put c.put-2.ensures.put
