-- From what an inspection told to what the request `inspect` promises.
use Rattle.std.proofs.Common.{◌≡◌, ℕ, Bool, List, Option, Some, None, Ok, ◌∙◌}
use Rattle.std.specs.Io.KnownBytes.{Appends, Keeps}
use Rattle.run_edit.specs.Inspections.{IsInspected}
use Rattle.cli_refusals.specs.Statuses.{status_told}
use Rattle.cli_print.specs.Reading.{ReadsAll}
use Rattle.cli_requests.specs.Requests.{IsExaminedOf}

-- what is told stays when it is handed on
kept_on : (u w x : Option (List ℕ)) (text : List ℕ) → Appends u w text → Keeps w x → Appends u x text
kept_on None w x text written kept = tt
kept_on (Some u) None x text written kept = absurd written
kept_on (Some u) (Some w) None text written kept = absurd kept
kept_on (Some u) (Some w) (Some x) text written kept = kept ∙ written

pub examined : (wad name : List ℕ) (sound : Bool) (status : ℕ) (r s u w x : Option (List ℕ)) → ReadsAll r s wad → status ≡ status_told sound
    → IsInspected wad name sound u w → Keeps w x → IsExaminedOf name (Ok status) r s u x
examined wad name sound status r s u w x all is done kept = (
  wad,
  all,
  sound,
  is,
  record {
    level = done.level;
    read = done.read;
    written = kept_on u w x _ done.written kept;
    is = done.is;
  },
)
