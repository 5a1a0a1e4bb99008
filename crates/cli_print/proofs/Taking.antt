-- A WAD that is written lump by lump has fewer than four gigabytes.
use Rattle.std.proofs.Common.{◌≡◌, ◌∙◌, sym, ℕ, ◌+◌, ◌≤◌, Bool, true, [], ◌∷◌, length, arith, length-append}
use Rattle.std.specs.Prelude.{nat_le}
use Rattle.std.proofs.lemmas.Bool.{leb-true}
use Rattle.wad_file.specs.Drafts.{Draft, Puts, Takes}
use Rattle.wad_file.specs.Lumps.{Lump, wad_size}

-- a lump that fits is taken
pub takes_one :
    (d : Draft) (l : Lump) (len : ℕ) (so : Bool) → Takes d [] → len ≡ length l.bytes → so ≡ nat_le (wad_size d.lumps + length d.begun + len + 16) 4294967295 → so ≡ true → Takes d (l ∷ [])
takes_one d l len so t long is fits =
    let le : wad_size d.lumps + length d.begun + len + 16 ≤ 4294967295 = leb-true _ _ (sym is ∙ fits) in
    let n = length-append l.bytes [] in
    record { ready = t.ready; fits = omega (arith, le, long, n) }

-- and the next one may come
pub takes_on : (old new : Draft) (l : Lump) → Takes old (l ∷ []) → Puts old new (l ∷ []) → Takes new []
takes_on old new l t p =
    let g = p.grows in
    let f = t.fits in
    record { ready = p.ready; fits = omega (arith, g, f) }
