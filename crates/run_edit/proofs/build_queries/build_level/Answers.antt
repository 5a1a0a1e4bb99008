use Rattle.std.proofs.Common.{◌∙◌, List, ℕ, ap, subst}
use Rattle.lump_records.specs.Names.{name_text}
use Rattle.lump_records.specs.declared.records.Name8.{Name8}
use Rattle.wad_levels.specs.Levels.{IsLevel}
use Rattle.wad_levels.specs.Views.{view}
use Rattle.run_edit.proofs.build_queries.build_level.Goals as goal

pub returns-in-Ok-clause-level : goal.returns-in-Ok-clause-level
returns-in-Ok-clause-level c =
    let wad = c.in_ok-wad.wad.items in
    let level = view c.in-Ok.level in
    record {
      wad = wad;
      build = c.in_ok-wad.ensures.sound;
      reads = subst (λ (name : List ℕ). IsLevel wad name level) (c.text.ensures.text ∙ ap (λ (n : Name8). name_text n) c.name-name.ensures)
          (subst (λ (bytes : List ℕ). IsLevel bytes c.text.result.now level) c.deref.ensures.value c.in-Ok.ensures);
    }
