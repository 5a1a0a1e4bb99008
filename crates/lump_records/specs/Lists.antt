-- A list of records written as a lump, and read again.
use Rattle.std.specs.Prelude.{◌≡◌, ◌≢◌, ◌%◌, ◌↔◌, ℕ, List, length, flat_map, Result, IfOk, IsOkUnless, IsErrOf, Vec}
use Rattle.std.specs.Global.{Global}
use Rattle.lump_records.specs.Lumps.{records_of}
use Rattle.lump_records.specs.declared.error.LumpError.{LumpError}
use Rattle.lump_records.specs.declared.error.LumpError.TheVariants.{LumpLength, OutOfMemory}

-- the records' bytes, one after the other; exactly these records are in them; only memory can lack
pub record EncodesList {R : Type 0} (bytes_of : R → List ℕ) (value_at : List ℕ → R) (n : ℕ)
    (records : List R) (result : Result (Vec ℕ Global) LumpError) : Type 0 where
  pub bytes : IfOk result (λ v. v.items ≡ flat_map bytes_of records)
  pub inverse : IfOk result (λ v. records_of value_at n v.items ≡ records)
  pub memory : IsOkUnless result OutOfMemory

-- the records in the lump, whose bytes are the lump; refused for its length exactly if the last record is cut short
pub record DecodesList {R : Type 0} (bytes_of : R → List ℕ) (value_at : List ℕ → R) (n : ℕ)
    (lump : List ℕ) (result : Result (Vec R Global) LumpError) : Type 0 where
  pub records : IfOk result (λ v. v.items ≡ records_of value_at n lump)
  pub bytes : IfOk result (λ v. flat_map bytes_of v.items ≡ lump)
  pub length : IsErrOf result LumpLength ↔ (length lump % n ≢ 0)
