-- The laws of a disk's images: what it reads as is one of them, and the images since the current moment are the
-- current ones.
use Rattle.std.proofs.Common.{◌≡◌, ◌≤◌, ℕ, List, length, take, sym, subst}
use Rattle.std.proofs.Math.Nat.{le_refl}
use Rattle.std.proofs.lemmas.List.{take_all}
use Rattle.store_disk.specs.Medium.{Call, Medium, after_calls, IsImage, LeftSince}

-- the file that is read is an image, if the file as it stands is one
pub reads_image : (m : Medium) (file : List ℕ) → IsImage m m.file → file ≡ m.file → IsImage m file
reads_image m file image is = subst (λ (f : List ℕ). IsImage m f) (sym is) image

-- what a stop after all calls may leave is an image of what they leave
pub image_now : (first : Medium) (calls : List Call) (file : List ℕ)
    → LeftSince first calls (length calls) file → IsImage (after_calls first calls) file
image_now first calls file left =
    subst (λ (cs : List Call). IsImage (after_calls first cs) file)
    (take_all left.0 calls left.1) left.3

-- an image after all calls is left by a stop since any moment
pub left_now : (first : Medium) (calls : List Call) (t : ℕ) (file : List ℕ)
    → t ≤ length calls → IsImage (after_calls first calls) file → LeftSince first calls t file
left_now first calls t file le is =
    let whole : take (length calls) calls ≡ calls =
    take_all (length calls) calls (le_refl (length calls)) in (
      length calls,
      le,
      le_refl (length calls),
      subst (λ (cs : List Call). IsImage (after_calls first cs) file) (sym whole) is,
    )
