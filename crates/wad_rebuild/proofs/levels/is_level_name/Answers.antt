use Rattle.std.proofs.Common.{◌∙◌, sym, ap, List, ℕ}
use Rattle.wad_file.specs.Directory.{entry_text}
use Rattle.wad_file.specs.Fields.{same_bytes}
use Rattle.wad_levels.specs.declared.entries.LevelEntries.{LevelEntries}
use Rattle.lump_records.specs.Names.{name_text}
use Rattle.wad_rebuild.proofs.WholeLemmas.{any_here, any_none, level_of_name}
use Rattle.wad_rebuild.proofs.levels.is_level_name.Goals as goal

pub returns-then-eq : goal.returns-then-eq
returns-then-eq c =
    let wad = c.args.wad.now in
    let name = c.args.name.now in
    let passes =
    ap (λ (ws : List ℕ). same_bytes ws name) (sym (c.text.ensures.text ∙ ap name_text c.name.ensures)) ∙ sym c.if-eq.ensures in
    sym (level_of_name wad name c.args.levels.now c.requires.levels ∙ c.loop-level.invariant
    ∙ any_here (λ (l : LevelEntries). same_bytes (entry_text wad l.marker) name) c.args.levels.now c.loop-level.level-index _ c.loop-level-test.true passes)

pub returns : goal.returns
returns c =
    let wad = c.args.wad.now in
    let name = c.args.name.now in
    sym (level_of_name wad name c.args.levels.now c.requires.levels ∙ c.loop-level.invariant
    ∙ any_none (λ (l : LevelEntries). same_bytes (entry_text wad l.marker) name) c.args.levels.now c.loop-level.level-index c.loop-level-test.false)
