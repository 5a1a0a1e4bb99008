use Rattle.std.proofs.Common.{◌≡◌, ℕ, ◌∷◌, [], ◌++◌, List, true, false, length, get_or, ap, ◌∙◌, sym, arith}
use Rattle.std.proofs.lemmas.List.FromFn.{get_or-map-range_with_len, length-map-range_with_len, map-range_with_len_more}
use Rattle.lump_records.specs.declared.records.Vertex.{Vertex}
use Rattle.map_tables.specs.Edits.{with_vertex}
use Rattle.map_tables.specs.Faults.{is_taken, vertex_faults}
use Rattle.map_tables.specs.Outcomes.{least}
use Rattle.map_tables.specs.Tables.{Tables}
use Rattle.map_tables.specs.WellFormed.{nth_vertex}
use Rattle.wad_import.specs.Once.{comes_again, kept_number, kept_vertex, number_at, place_change}
use Rattle.wad_import.proofs.NextLemmas.{edited, only_memory, vertex_free}
use Rattle.wad_import.proofs.OnceLemmas.{again-none, again_before, again_is, again_number, first_number, made_none, made_some, once-some, once_to-length, told-again, told-none}
use Rattle.wad_import.specs.declared.change.Change.{Change}
use Rattle.wad_import.specs.declared.change.Change.TheVariants.{VertexAgain}
use Rattle.wad_import.proofs.vertices.add_vertices.Goals as goal
use Rattle.wad_import.proofs.vertices.add_vertices.Goals.{then-has_place+in_ok-push+in_ok-push-2, else-has_place+in_ok-push-3+in-Ok}

pub index-requires : goal.index-requires
index-requires c =
    let vs = c.args.vertices.now in
    let n = c.loop-n.n in
    let m = c.current.result.now.tables in
    let is = again_is c.args.maps.now.tables m vs n c.has_place.result c.has_place.ensures (c.current.ensures.tables ∙ c.loop-n.invariant.tables) c.loop-n-test.true in
    let before = again_before vs n c.loop-n-test.true (sym is ∙ c.if-has_place.true) in
    let count : length c.loop-n.numbers.items ≡ n = ap length c.loop-n.invariant.numbers ∙ length-map-range_with_len (kept_number vs) 0 n in
    let first = c.number_at-first.ensures in
    omega (arith, before, count, first)

pub lack_of-requires : goal.lack_of-requires
lack_of-requires c =
    let vs = c.args.vertices.now in
    let n = c.loop-n.n in
    let v = nth_vertex vs n in
    let m = c.loop-n.maps.tables in
    let free : is_taken m.vertices v ≡ false =
    ap (λ (t : Tables). is_taken t.vertices v) (sym c.current.ensures.tables) ∙ sym c.has_place.ensures ∙ c.if-has_place.false in
    let kept = ap (λ (t : Tables). length t.vertices) c.loop-n.invariant.tables in
    let most = once_to-length vs n in
    let more = c.loop-n-test.true in
    let room = c.requires.room in
    only_memory c.in-Err.error (least (vertex_faults m v)) _ _ (vertex_free m v free (omega (arith, kept, most, more, room))) c.in-Err.ensures.edit.0

pub loop-n-preserved : goal.loop-n-preserved
loop-n-preserved c =
    let vs = c.args.vertices.now in
    let n = c.loop-n.n in
    let v = nth_vertex vs n in
    let start = c.args.maps.now.tables in
    let within = c.loop-n-test.true in
    let is = again_is start c.current.result.now.tables vs n c.has_place.result c.has_place.ensures (c.current.ensures.tables ∙ c.loop-n.invariant.tables) within in
    let more = map-range_with_len_more (kept_number vs) 0 n n (omega arith) in
    elim c.if-has_place.branch [
      | then-has_place+in_ok-push+in_ok-push-2 w ↦
          let again : comes_again vs n ≡ true = sym is ∙ w.if-has_place.true in
          let before = again_before vs n within again in
          let first : w.number_at-first.result ≡ number_at vs v = w.number_at-first.ensures in
          let found : w.index.result.now ≡ kept_number vs n =
          w.index.ensures ∙ ap (λ (xs : List ℕ). get_or xs w.number_at-first.result w.index.result.now) c.loop-n.invariant.numbers
          ∙ get_or-map-range_with_len (kept_number vs) 0 n w.number_at-first.result w.number_at-first.result w.index.result.now (omega (arith, before, first)) (omega arith)
          ∙ ap (kept_number vs) first ∙ again_number vs n within again in
          record {
            tables =
                (λ i. (w.maps-is i).tables) ∙ c.loop-n.invariant.tables
                ∙ ap (λ (xs : List Vertex). record start { vertices = xs }) (sym (made_none (kept_vertex vs) n (again-none vs n again)));
            others = (λ i. (w.maps-is i).others) ∙ c.loop-n.invariant.others;
            numbers = (λ i. (w.numbers-is i).items) ∙ w.in_ok-push.ensures.items ∙ (λ i. c.loop-n.invariant.numbers i ++ found i ∷ []) ∙ sym more;
            changes =
                (λ i. (w.changes-is i).items) ∙ w.in_ok-push-2.ensures.items
                ∙ ap (λ (xs : List Change). xs ++ VertexAgain n w.number_at-first.result ∷ []) c.loop-n.invariant.changes
                ∙ sym (made_some (place_change vs) n (VertexAgain n w.number_at-first.result) (told-again vs n w.number_at-first.result again first));
          }
      | else-has_place+in_ok-push-3+in-Ok w ↦
          let fresh : comes_again vs n ≡ false = sym is ∙ w.if-has_place.false in
          let counted : w.count.result ≡ kept_number vs n =
          w.count.ensures.number ∙ ap (λ (t : Tables). length t.vertices) (w.current-else-has_place.ensures.tables ∙ c.loop-n.invariant.tables)
          ∙ sym (first_number vs n within fresh) in
          record {
            tables =
                (λ i. (w.maps-is i).tables) ∙ edited _ _ _ _ _ w.in-Ok.ensures.edit ∙ ap (λ (t : Tables). with_vertex t v) c.loop-n.invariant.tables
                ∙ ap (λ (xs : List Vertex). record start { vertices = xs }) (sym (made_some (kept_vertex vs) n v (once-some vs n fresh)));
            others = (λ i. (w.maps-is i).others) ∙ w.in-Ok.ensures.others ∙ c.loop-n.invariant.others;
            numbers = (λ i. (w.numbers-is i).items) ∙ w.in_ok-push-3.ensures.items ∙ (λ i. c.loop-n.invariant.numbers i ++ counted i ∷ []) ∙ sym more;
            changes = (λ i. (w.changes-is i).items) ∙ c.loop-n.invariant.changes ∙ sym (made_none (place_change vs) n (told-none vs n fresh));
          }
    ]
