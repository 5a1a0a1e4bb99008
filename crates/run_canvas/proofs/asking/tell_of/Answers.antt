use Rattle.std.proofs.Common.{◌≡◌, ℕ, List, Option, Some, None, Result, Ok, Err, subst}
use Rattle.std.specs.Prelude.{MatchOption, MatchResult}
use Rattle.std.specs.Io.KnownBytes.{Keeps}
use Rattle.std.specs.Option.{option_map}
use Rattle.map_tables.specs.Projects.{ProjectMaps, project_of}
use Rattle.run_edit.specs.Queries.{query_of}
use Rattle.run_edit.specs.declared.query.Query.{Query}
use Rattle.run_canvas.specs.Canvases.{TellsOfMaps, TellsQuery}
use Rattle.run_canvas.specs.declared.error.ScriptError.{ScriptError}
use Rattle.run_canvas.specs.declared.error.ScriptError.TheVariants.{WriterFailed}
use Rattle.run_canvas.proofs.asking.tell_of.Goals as goal

-- the line is this query
told : (p : ProjectMaps) (line : List ℕ) (q : Query) (r : Result (Option ℕ) ScriptError) (u w : Option (List ℕ)) → Some q ≡ option_map (λ q. q.1) (query_of line)
    → MatchResult r (λ refusal. TellsQuery p q refusal u w) (λ e. e ≡ WriterFailed)
    → MatchResult r (λ refusal. TellsOfMaps p line refusal u w) (λ e. e ≡ WriterFailed)
told p line q (Err e) u w some failed = failed
told p line q (Ok refusal) u w some is = go (query_of line) some
  where
    go : (o : Option (List ℕ × Query)) → Some q ≡ option_map (λ q. q.1) o
        → MatchOption o ((refusal ≡ Some 1) × Keeps u w) (λ r. TellsQuery p r.1 refusal u w)
    go None e = cc
    go (Some r) e = let same : q ≡ r.1 = cc in subst (λ (x : Query). TellsQuery p x refusal u w) same is

pub returns-in-Some : goal.returns-in-Some
returns-in-Some g c =
    told (project_of c.args.maps.now) c.args.line.now c.in-Some.query c.tell_query.result (g.W.Write.contents c.args.writer.now)
    (g.W.Write.contents c.tell_query.new.writer) c.in-Some.ensures c.tell_query.ensures
