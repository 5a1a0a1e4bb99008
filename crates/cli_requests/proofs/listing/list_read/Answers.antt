use Rattle.std.proofs.Common.{◌≡◌, List, None, refl, subst, ℕ}
use Rattle.std.proofs.KnownBytes.{Appends-kept}
use Rattle.std.specs.Io.KnownBytes.{Appends}
use Rattle.wad_levels.specs.Listing.{listing_refusal}
use Rattle.cli_requests.specs.LevelNames.{levels_text}
use Rattle.cli_requests.proofs.listing.list_read.Goals as goal

pub returns-in-Ok-clause-listed : goal.returns-in-Ok-clause-listed
returns-in-Ok-clause-listed g c =
    let u = g.W.Write.contents c.args.writer.now in
    let w = g.W.Write.contents c.write_levels.new.writer in
    let told =
    subst (λ (wad : List ℕ). (listing_refusal wad ≡ None) × Appends u w (levels_text wad)) c.deref.ensures.value c.in_ok-write_levels.ensures in (
      c.in_ok-wad.wad.items,
      c.in_ok-wad.ensures.whole,
      refl,
      told.0,
      Appends-kept u w (g.W.Write.contents c.flush.new.self) _ told.1 c.in-Ok.ensures.bytes,
    )
