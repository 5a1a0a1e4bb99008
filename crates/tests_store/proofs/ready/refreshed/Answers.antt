use Rattle.tests_store.proofs.ready.refreshed.Goals as goal

pub fresh-requires-clause-closed : goal.fresh-requires-clause-closed
fresh-requires-clause-closed g c file left =
    c.in_ok-blank.ensures.closed file (c.in_ok-sync.ensures.reads file (c.in_ok-sync.ensures.durable file left))
