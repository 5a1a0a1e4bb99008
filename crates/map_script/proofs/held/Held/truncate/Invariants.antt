use Rattle.std.proofs.Common.{◌≡◌, drop}
use Rattle.map_script.proofs.held.Held.truncate.Given as goal

-- so many names are gone
abbrev pub invariant-loop-name : goal.invariant-loop-name
invariant-loop-name l = l.self ≡ drop l._name l.fn.self
