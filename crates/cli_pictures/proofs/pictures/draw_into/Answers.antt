use Rattle.std.proofs.Common.{◌∙◌}
use Rattle.cli_files.specs.NewFile.{file_of}
use Rattle.cli_pictures.proofs.Putting.{made_of}
use Rattle.cli_pictures.proofs.pictures.draw_into.Goals as goal

pub returns-in-Ok-open_new-clause-put : goal.returns-in-Ok-open_new-clause-put
returns-in-Ok-open_new-clause-put g c =
    made_of _ (file_of c.in-Ok-open_new.new) c.put_picture.result c.deref.result.now _ (c.deref.ensures.value ∙ c.in-Ok.ensures.drawn) c.put_picture.ensures.put
