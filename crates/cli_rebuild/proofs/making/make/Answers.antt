use Rattle.std.proofs.Common.{List, ℕ, inl, inr, map, refl, string_bytes, subst, sym}
use Rattle.wad_rebuild.specs.Held.{IsGiven, directory_of}
use Rattle.wad_rebuild.specs.Whole.{AreReady}
use Rattle.cli_rebuild.specs.Given.{IsPutInto, PutsNone}
use Rattle.cli_rebuild.proofs.Given.{made_over, makes_none}
use Rattle.cli_rebuild.proofs.making.make.Goals as goal

pub returns-in-Err : goal.returns-in-Err
returns-in-Err g c = inl (c.args.given.now.bytes.now, inr refl, inl (c.in-Err.error, c.refusal_of.ensures, c.in-Err.ensures))

pub put_rebuilt-requires : goal.put_rebuilt-requires
put_rebuilt-requires g c =
    let given = c.args.given.now in
    record {
      given = subst (λ (w : List ℕ). IsGiven w (directory_of given.held) given.len) (sym c.in-Ok.ensures.0) c.requires;
      ready = subst (λ (w : List ℕ). AreReady w c.in-Ok.from.levels.items) (sym c.in-Ok.ensures.0) c.in-Ok.ensures.1.ready;
    }

pub returns-in-Err-put_rebuilt : goal.returns-in-Err-put_rebuilt
returns-in-Err-put_rebuilt g c =
    let given = c.args.given.now in
    let levels = c.in-Ok.from.levels.items in
    let refusal = c.in-Err-put_rebuilt.refusal in
    makes_none given.bytes.now (directory_of given.held) given.len (map string_bytes c.args.names.now) levels given.unread refusal c.requires c.in-Ok.ensures.1
    (subst (λ (w : List ℕ). PutsNone w (directory_of given.held) given.len levels given.unread refusal) c.in-Ok.ensures.0 c.in-Err-put_rebuilt.ensures)

pub returns : goal.returns
returns g c =
    let given = c.args.given.now in
    let levels = c.in-Ok.from.levels.items in
    let put = c.in-Ok-put_rebuilt.put in
    let contents = g.E.File.Write.contents in
    made_over contents given.bytes.now (directory_of given.held) given.len (map string_bytes c.args.names.now) levels put.size put.file c.requires c.in-Ok.ensures.1
    (subst (λ (w : List ℕ). IsPutInto contents w (directory_of given.held) given.len levels put.size put.file) c.in-Ok.ensures.0 c.in-Ok-put_rebuilt.ensures)
