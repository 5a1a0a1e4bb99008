use Rattle.std.proofs.Common.{arith}
use Rattle.store_disk.specs.Memory.{medium_of}
use Rattle.store_disk.proofs.Filling.{stopped_image}
use Rattle.store_disk.proofs.Outcomes.{if_ok}
use Rattle.store_disk.proofs.Stopping.{only_settled}
use Rattle.store_disk.proofs.memory.MemoryDisk.stop.Goals as goal

pub returns-in_err-image-clause-image : goal.returns-in_err-image-clause-image
returns-in_err-image-clause-image c =
    let s = c.args.self.now in
    stopped_image (medium_of s) c.args.fill c.args.longest (omega (arith, s.shows.image.no_shorter, s.shows.image.no_longer))

pub returns-clause-image : goal.returns-clause-image
returns-clause-image c =
    let s = c.args.self.now in
    stopped_image (medium_of s) c.args.fill c.args.longest (omega (arith, s.shows.image.no_shorter, s.shows.image.no_longer))

pub returns-clause-only : goal.returns-clause-only
returns-clause-only c = if_ok c.holding.result (λ d begins. only_settled (medium_of d) _ begins.holds) c.holding.ensures
