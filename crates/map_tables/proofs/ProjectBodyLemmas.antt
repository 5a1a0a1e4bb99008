-- A project's body holds exactly that project, in either version.
use Rattle.std.proofs.Common.{◌≡◌, ℕ, ◌<◌, ◌≤◌, List, [], ◌∷◌, length, get_or, drop, refl, sym, ◌∙◌, ap, subst, arith, inl, inr}
use Rattle.map_tables.specs.Tables.{Tables, empty_tables}
use Rattle.map_tables.specs.WellFormed.{WellFormed}
use Rattle.map_tables.specs.Body.{body, NoMapHas, IsMapOf}
use Rattle.map_tables.specs.Projects.{ProjectMaps, WellFormedProject, current_map}
use Rattle.map_tables.specs.ProjectBody.{project_body, alone, HasBody, NoProjectHas, IsProjectOf, AreMapsOf, NoMapsHave}
use Rattle.map_tables.proofs.PartsLemmas.{one_list}

-- a single map is a project
pub alone_keeps : (m : Tables) → WellFormed m → WellFormedProject (alone m)
alone_keeps m w =
    record {
      count = omega arith;
      current = omega arith;
      maps = λ k d within. let first : k ≡ 0 = omega arith in subst (λ n. WellFormed (get_or (m ∷ []) n d)) (sym first) w;
      names = λ i j d before within. absurd (omega arith);
    }

pub current_fine : (p : ProjectMaps) → WellFormedProject p → WellFormed (current_map p)
current_fine p w = w.maps p.current empty_tables w.current

-- the versions differ
pub apart : (p : ProjectMaps) (m : Tables) (bs : List ℕ) → project_body p ≡ bs → body m ≡ bs → ⊥
apart p m bs e f =
    let first : ◌≡◌ {A = ℕ} 2 1 = ap (λ xs. get_or xs 0 0) (e ∙ sym f) in
    omega arith

module _ (bs rest : List ℕ) (k : ℕ) (version : bs ≡ 2 ∷ k ∷ rest) where
  not_old : (m : Tables) → body m ≡ bs → ⊥
  not_old m e =
      let first : ◌≡◌ {A = ℕ} 1 2 = ap (λ xs. get_or xs 0 0) (e ∙ version) in
      omega arith

  -- if no maps have the rest, no project has the bytes
  pub no_project : NoMapsHave rest → NoProjectHas bs
  no_project none p w (inl e) = none p w (ap (drop 2) (e ∙ version))
  no_project none p w (inr e) = not_old (current_map p) e.1

  module _ (q : ProjectMaps) (read : AreMapsOf rest q) where
    same_maps : (p : ProjectMaps) → WellFormedProject p → project_body p ≡ bs → p.maps ≡ q.maps
    same_maps p w e = one_list q.maps p.maps read.well_formed.maps w.maps (ap (drop 2) (e ∙ version) ∙ sym read.encoded)

    same_number : (p : ProjectMaps) → project_body p ≡ bs → p.current ≡ k
    same_number p e = ap (λ xs. get_or xs 1 0) (e ∙ version)

    -- if there are too few maps for the current number, no project has the bytes
    pub no_current : length q.maps ≤ k → NoProjectHas bs
    no_current past p w (inl e) = omega (arith, w.current, ap length (same_maps p w e), same_number p e)
    no_current past p w (inr e) = not_old (current_map p) e.1

    only_read : (other : ProjectMaps) → WellFormedProject other → HasBody other bs → other ≡ record { maps = q.maps; current = k }
    only_read other w (inl e) = λ i. record { maps = same_maps other w e i; current = same_number other e i }
    only_read other w (inr e) = absurd (not_old (current_map other) e.1)

    -- otherwise the project of these maps has them
    pub project_read : k < length q.maps → IsProjectOf bs (record { maps = q.maps; current = k })
    project_read within =
        record {
          well_formed = record { count = read.well_formed.count; current = within; maps = read.well_formed.maps; names = read.well_formed.names };
          encoded = inl (ap (λ r. 2 ∷ k ∷ r) read.encoded ∙ sym version);
          only = only_read;
        }

module _ (bs : List ℕ) (old : bs ≡ 2 ∷ get_or bs 1 0 ∷ drop 2 bs → ⊥) where
  not_new : (p : ProjectMaps) → project_body p ≡ bs → ⊥
  not_new p e = old (subst (λ (x : List ℕ). x ≡ 2 ∷ get_or x 1 0 ∷ drop 2 x) e refl)

  -- if no map has the bytes, no project has them
  pub no_old_project : NoMapHas bs → NoProjectHas bs
  no_old_project none p w (inl e) = not_new p e
  no_old_project none p w (inr e) = none (current_map p) (current_fine p w) e.1

  only_alone : (m : Tables) → IsMapOf bs m → (other : ProjectMaps) → WellFormedProject other → HasBody other bs → other ≡ alone m
  only_alone m is other w (inl e) = absurd (not_new other e)
  only_alone m is other w (inr e) = e.0 ∙ ap alone (is.only (current_map other) (current_fine other w) e.1)

  -- if a map has them, the project of that map has them
  pub old_project : (m : Tables) → IsMapOf bs m → IsProjectOf bs (alone m)
  old_project m is =
      record {
        well_formed = alone_keeps m is.well_formed;
        encoded = inr (refl, is.encoded);
        only = only_alone m is;
      }
