-- Bytes that are no WAD have no level that is wanted.
use Rattle.std.proofs.Common.{◌≡◌, ℕ, List, Option, Some, None}
use Rattle.wad_levels.specs.Listing.{RefusesListing, listing_refusal}
use Rattle.wad_levels.specs.declared.error.ReadError.{ReadError}
use Rattle.wad_levels.proofs.ListingLemmas.{by_bytes}
use Rattle.cli_print.specs.WantedLevels.{RefusesAllWanted, RefusesWanted}

pub unread : (wad : List ℕ) (name : Option (List ℕ)) (e : ReadError) → listing_refusal wad ≡ Some e → RefusesWanted wad name e
unread wad name e r = by_bytes wad e (RefusesWanted wad name) (λ q. q) (λ q. q) r

pub all_unread : (wad : List ℕ) (name : Option (List ℕ)) (e : ReadError) → listing_refusal wad ≡ Some e → RefusesAllWanted wad name e
all_unread wad None e r = by_bytes wad e (RefusesListing wad) (λ q. q) (λ q. q) r
all_unread wad (Some name) e r = unread wad (Some name) e r
