-- What a contract sees of the fields of a project onto which a script is drawn, and what they keep.
use Rattle.std.specs.Prelude.{◌≡◌, false, IfSome, is_some}
use Rattle.store_project.specs.Groups.{IsGroupFor}
use Rattle.run_edit.specs.Groups.{IsEmptyFor}
use Rattle.run_canvas.specs.Waiting.{Drawing}
use Rattle.run_canvas.specs.declared.project_canvas.ProjectCanvas.TheInside.{Inside}

-- what a contract sees
abbrev pub drawing_of : {D : Type 0} → Inside D → Drawing D
drawing_of c = record {
  project = c.project;
  group = c.group;
  has_spare = is_some c.spare;
  is_alone = c.is_alone;
  holds_earlier = c.holds_earlier;
  has_lost = c.has_lost;
}

-- what waits can be put, and the project needn't be reopened then; so it is with the empty group that
-- is kept
abbrev pub IsSoundDrawing : {D : Type 0} → Inside D → Type 0
IsSoundDrawing c =
    IfSome c.group (λ g. IsGroupFor c.project g × (c.project.must_reopen ≡ false))
    × IfSome c.spare (IsEmptyFor c.project)
