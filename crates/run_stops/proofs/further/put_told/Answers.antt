use Rattle.std.proofs.Common.{◌∙◌, ◌++◌, ℕ, List, None, Some, ap, append-nil, arith, refl, sym}
use Rattle.std.specs.Prelude.{not}
use Rattle.run_stops.proofs.further.put_told.Goals as goal

pub returns-then-hangs-clause-put : goal.returns-then-hangs-clause-put
returns-then-hangs-clause-put c = record {
  told = None;
  hung = sym (ap not (sym c.hangs.ensures ∙ c.if-hangs.true));
  is = tt;
  tells = record { text = sym (append-nil c.args.telling.now.text.items); count = omega arith };
  lines = refl;
  files = refl;
  out = refl;
}

pub returns-in-Ok-clause-put : goal.returns-in-Ok-clause-put
returns-in-Ok-clause-put c = record {
  told = Some c.args.found.now.text.items;
  hung = sym (ap not (sym c.hangs.ensures ∙ c.if-hangs.false));
  is = refl;
  tells = record {
    text = c.in-Ok.ensures.items ∙ ap (λ (s : List ℕ). c.args.telling.now.text.items ++ s) c.deref.ensures.value;
    count = refl;
  };
  lines = refl;
  files = refl;
  out = refl;
}
