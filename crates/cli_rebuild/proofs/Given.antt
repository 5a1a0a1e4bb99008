-- From what was done with a WAD that is given to what the request `rebuild` promises of the whole one.
use Rattle.std.proofs.Common.{◌∙◌, ℕ, List, Option, Result, Err, take, inl, inr, refl, sym, ap}
use Rattle.std.proofs.KnownBytes.{Keeps-refl}
use Rattle.wad_file.specs.Lumps.{wad_of}
use Rattle.wad_rebuild.specs.Held.{IsGiven}
use Rattle.wad_rebuild.specs.Whole.{IsAcceptedWith}
use Rattle.wad_rebuild.specs.declared.levels.RebuiltLevel.{RebuiltLevel}
use Rattle.wad_rebuild.proofs.Given.{given_rebuilt, given_refused}
use Rattle.run_edit.specs.declared.error.EditorError.{EditorError}
use Rattle.cli_refusals.specs.declared.refusal.Refusal.{Refusal}
use Rattle.cli_rebuild.specs.Given.{IsMadeOver, IsPutInto, IsRebuiltOver, MakesNoneOver, PutsNone}
use Rattle.cli_rebuild.proofs.Rebuilding.{IsTold, rebuilt_told}

-- what was written is the whole WAD with its levels built anew
pub made_over :
    {F : Type 0} (contents : F → Option (List ℕ)) (wad : List ℕ) (directory : Option (List ℕ)) (len : ℕ) (names : List (List ℕ)) (levels : List RebuiltLevel) (size : ℕ) (file : F)
    → IsGiven wad directory len → IsAcceptedWith wad names levels → IsPutInto contents wad directory len levels size file → IsMadeOver contents wad directory len names levels size file
made_over contents wad directory len names levels size file g a p =
    let r = given_rebuilt p.source wad directory len names levels p.list (contents p.new) (contents file) g a p.is p.written in
    (r.whole, r.is_whole, (wad_of (take 4 wad) p.written.lumps, r.rebuilt, p.size_is ∙ sym p.written.long, (p.new, p.written.put)))

-- or none was
pub makes_none :
    (wad : List ℕ) (directory : Option (List ℕ)) (len : ℕ) (names : List (List ℕ)) (levels : List RebuiltLevel) (unread : EditorError) (refusal : Refusal)
    → IsGiven wad directory len → IsAcceptedWith wad names levels → PutsNone wad directory len levels unread refusal → MakesNoneOver wad directory len names unread refusal
makes_none wad directory len names levels unread refusal g a (inl (e, is, r)) =
    let q = given_refused wad directory len names levels e g a r in
    inl (q.0, inl q.1, inl (e, is, q.2))
makes_none wad directory len names levels unread refusal g a (inr (inl is)) = inl (wad, inr refl, inr is)
makes_none wad directory len names levels unread refusal g a (inr (inr is)) = inr is

-- what was made was told, or a writer failed
pub rebuilt_over :
    {F : Type 0} (contents : F → Option (List ℕ)) (how : Result ℕ Refusal) (wad : List ℕ) (directory : Option (List ℕ)) (len : ℕ) (names : List (List ℕ)) (levels : List RebuiltLevel)
    (unread : EditorError) (size : ℕ) (file : F) (u w d x : Option (List ℕ)) → IsMadeOver contents wad directory len names levels size file → IsTold how levels size u w d x
    → IsRebuiltOver wad directory len names unread how u w d x
rebuilt_over contents how wad directory len names levels unread size file u w d x m told =
    inl (m.0, inl m.1, rebuilt_told how m.0 names levels m.2.0 size u w d x m.2.1 m.2.2 told)

-- nothing was made, and nothing told
pub none_over :
    (wad : List ℕ) (directory : Option (List ℕ)) (len : ℕ) (names : List (List ℕ)) (unread : EditorError) (refusal : Refusal) (u d : Option (List ℕ))
    → MakesNoneOver wad directory len names unread refusal → IsRebuiltOver wad directory len names unread (Err refusal) u u d d
none_over wad directory len names unread refusal u d (inl (whole, is, none)) = inl (whole, is, inl (none, Keeps-refl u, Keeps-refl d))
none_over wad directory len names unread refusal u d (inr is) = inr (ap Err is, Keeps-refl u, Keeps-refl d)
