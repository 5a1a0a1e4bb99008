-- Where a file is damaged, and what it stands for if it isn't.
use Rattle.std.proofs.Common.{◌≡◌, ◌⊎◌, inl, inr, ◌<◌, ◌+◌, ℕ, Bool, true, false, List, [], ◌∷◌, ◌++◌, length, Option, None, Some, IfSome, IfNone, refl, sym, ◌∙◌, ap, subst, arith}
use Rattle.std.proofs.lemmas.List.{append-nil}
use Rattle.store_disk.specs.declared.area.Area.{Area}
use Rattle.store_journal.specs.Damage.{IsJournalDamagedAt}
use Rattle.store_journal.specs.Records.{IsJournal, records_bytes}
use Rattle.store_slots.specs.Bodies.{IsLive}
use Rattle.map_tables.specs.Projects.{ProjectMaps}
use Rattle.map_tables.specs.ProjectBody.{IsProjectOf}
use Rattle.map_commands.specs.ProjectLines.{Leads}
use Rattle.store_project.specs.Damage.{IsBadLine, IsLeastGateFault, IsProjectDamagedAt}
use Rattle.store_project.specs.Places.{cap_of, which_parts}
use Rattle.store_project.specs.Stands.{HasGeometry, Stands, StandsAt}
use Rattle.store_project.specs.declared.geometry.Geometry.{Geometry}
use Rattle.store_project.specs.declared.places.Places.{Places}
use Rattle.store_project.specs.declared.places.Parts.{Parts}
use Rattle.store_project.proofs.Gates.{alone, both, missing}
use Rattle.store_project.proofs.Excluding.{stands_bad, stands_blank, stands_damaged, stands_foreign}
use Rattle.store_project.proofs.OneMap.{one_map}
use Rattle.store_salvage.specs.Live.{IsLiveOf}
use Rattle.store_salvage.specs.Records.{AreRecordsOf, BreakOffAt, RefusesFirst}
use Rattle.store_salvage.specs.Refusals.{IsLostAt, RefusesGeometry, RefusesLiveBody, RefusesSalvage, RefusesLiveSlot}
use Rattle.store_salvage.specs.Replays.{IsDamageOf, IsReplayed}
use Rattle.store_salvage.specs.Salvages.{IsSalvaged, StandsForMaps}
use Rattle.store_salvage.specs.declared.replaying.Replayed.{Replayed}
use Rattle.store_salvage.specs.declared.error.SalvageError.{SalvageError}
use Rattle.store_salvage.specs.declared.error.SalvageError.TheVariants.{Damaged, Blank, NotAProject, BadGeometry, OutOfMemory}
use Rattle.store_salvage.proofs.Finding.{live_parts, which}

-- ---- the refusals

pub header_refused : (file : List ℕ) (e : SalvageError) → RefusesGeometry file e → RefusesSalvage file e
header_refused file NotAProject r = r
header_refused file BadGeometry r = r
header_refused file (Damaged place) r = absurd r
header_refused file Blank r = absurd r
header_refused file OutOfMemory r = absurd r

module _ (g : Geometry) (p : Places) (file : List ℕ) (has : HasGeometry g p file) where
  pub slots_refused : (e : SalvageError) → RefusesLiveSlot p.a p.b file e → RefusesSalvage file e
  slots_refused Blank r = (g, p, has, r)
  slots_refused (Damaged place) r = (g, p, has, inl r)
  slots_refused NotAProject r = absurd r
  slots_refused BadGeometry r = absurd r
  slots_refused OutOfMemory r = absurd r

  pub body_refused : (slot generation : ℕ) (body : List ℕ) (place : ℕ) → IsLiveOf p.a p.b slot generation body file → place ≡ (which_parts p slot).live.base
      → (e : SalvageError) → RefusesLiveBody body place e → RefusesSalvage file e
  body_refused slot generation body place live there OutOfMemory r = tt
  body_refused slot generation body place live there (Damaged at) r = (
    g,
    p,
    has,
    inr (record {
      slot = slot;
      which = which g p slot generation body file live;
      generation = generation;
      body = body;
      live = live_parts g p slot generation body file live;
      none = r.0;
      there = r.1 ∙ there;
    }),
  )
  body_refused slot generation body place live there Blank r = absurd r
  body_refused slot generation body place live there NotAProject r = absurd r
  body_refused slot generation body place live there BadGeometry r = absurd r

-- a file from which nothing can be read is damaged at that offset
pub lost_damaged : (file : List ℕ) (place : ℕ) → IsLostAt place file → IsProjectDamagedAt place file
lost_damaged file place (g, p, has, inl bad) = (g, p, has, inl bad)
lost_damaged file place (g, p, has, inr none) =
    (g, p, has, inr (none.slot, none.generation, none.body, none.which, none.live, inl (none.none, none.there)))

-- salvaging a file that stands for a project fails only if memory runs out
pub refused_whole : (file : List ℕ) (cap k : ℕ) (m : ProjectMaps) → Stands cap m k file → (e : SalvageError) → RefusesSalvage file e → e ≡ OutOfMemory
refused_whole file cap k m st OutOfMemory r = refl
refused_whole file cap k m st NotAProject r = absurd (stands_foreign cap m k file st r)
refused_whole file cap k m st BadGeometry r = absurd (stands_bad cap m k file st r)
refused_whole file cap k m st Blank r = absurd (stands_blank cap m k file st r)
refused_whole file cap k m st (Damaged place) r = absurd (stands_damaged cap m k place file st (lost_damaged file place r))

-- ---- the journal

broken_damaged : (area : Area) (lines : List (List ℕ)) (place : ℕ) (file : List ℕ) → BreakOffAt area lines place file → IsJournalDamagedAt area place file
broken_damaged area lines place file (inl breaks) = inr breaks.0
broken_damaged area lines place file (inr none) = inl (none.1, none.2)

-- all whole records were read
pub all_read : (cap : ℕ) (area : Area) (base maps : ProjectMaps) (r : Replayed) (file : List ℕ) → (read : IsReplayed cap area base maps r file)
    → AreRecordsOf area (read.kept ++ read.lost) file
all_read cap area base maps r file read = at r.is_closed refl
  where
    at : (t : Bool) → r.is_closed ≡ t → AreRecordsOf area (read.kept ++ read.lost) file
    at true is = inl (read.closed is)
    at false is = inr (r.end, read.broken is)

module _ (cap : ℕ) (q : Parts) (base maps : ProjectMaps) (r : Replayed) (file : List ℕ) (read : IsReplayed cap q.journal base maps r file) where
  -- the first line that isn't kept
  bad_line : (kept lost : List (List ℕ)) (place : ℕ) → IsJournal q.journal (kept ++ lost) file → Leads cap base kept maps → RefusesFirst cap maps lost → 0 < length lost
      → q.other_journal.base < length file → place ≡ q.journal.base + length (records_bytes kept) → IsBadLine cap q base place file
  bad_line kept [] place journal leads refused some long there = absurd (omega (arith, some))
  bad_line kept (line ∷ back) place journal leads refused some long there = record {
    front = kept;
    line = line;
    back = back;
    journal = journal;
    other = long;
    map = maps;
    leads = leads;
    refused = refused;
    there = there;
  }

  pub told : (place : ℕ) → IsDamageOf r (length file) q.other_journal.base place → IsLeastGateFault q place file ⊎ IsBadLine cap q base place file
  told place (inl (cut, short, is)) = inl (both q file r.end place (broken_damaged q.journal (read.kept ++ read.lost) r.end file (read.broken cut)) short is)
  told place (inr (inl (cut, long, is))) =
      inl (subst (λ (k : ℕ). IsLeastGateFault q k file) (sym is) (alone q file r.end (broken_damaged q.journal (read.kept ++ read.lost) r.end file (read.broken cut)) long))
  told place (inr (inr (inl (shut, short, is)))) =
      inl (subst (λ (k : ℕ). IsLeastGateFault q k file) (sym is) (missing q file (read.kept ++ read.lost) (read.closed shut) short))
  told place (inr (inr (inr (shut, long, some, is)))) =
      inr (bad_line read.kept read.lost place (read.closed shut) read.leads read.refused (omega (arith, some, read.lost_count)) long (is ∙ read.kept_to))

  -- without damage
  no_lost : (lost : List (List ℕ)) → length lost ≡ 0 → lost ≡ []
  no_lost [] none = refl
  no_lost (x ∷ lost) none = absurd (omega (arith, none))

  all_led : (lost : List (List ℕ)) → lost ≡ [] → Leads cap base (read.kept ++ lost) maps
  all_led lost none =
      let same : read.kept ++ lost ≡ read.kept = ap (λ (ls : List (List ℕ)). read.kept ++ ls) none ∙ append-nil read.kept in
      subst (λ (ls : List (List ℕ)). Leads cap base ls maps) (sym same) read.leads

  pub stands : (k : ℕ) (body : List ℕ) → IsLive q.live q.other k body file → IsProjectOf body base → r.is_closed ≡ true → q.other_journal.base < length file → r.behind ≡ 0
      → StandsAt cap q maps k file
  stands k body live is shut long none = record {
    base = base;
    bytes = body;
    lines = read.kept ++ read.lost;
    well_formed = is.well_formed;
    body = is.encoded;
    live = live;
    journal = read.closed shut;
    other = long;
    leads = all_led read.lost (no_lost read.lost (sym read.lost_count ∙ none));
  }

-- ---- the whole file

module _ (g : Geometry) (p : Places) (slot k : ℕ) (body : List ℕ) (base maps : ProjectMaps) (r : Replayed) (file : List ℕ)
    (has : HasGeometry g p file) (live : IsLiveOf p.a p.b slot k body file) (is : IsProjectOf body base)
    (read : IsReplayed (cap_of g) (which_parts p slot).journal base maps r file) where
  pub salvaged : IsSalvaged maps r.kept r.behind file
  salvaged = record {
    geometry = g;
    places = p;
    has = has;
    slot = slot;
    which = which g p slot k body file live;
    generation = k;
    body = body;
    live = live_parts g p slot k body file live;
    base = base;
    well_formed = is.well_formed;
    has_body = is.encoded;
    kept = read.kept;
    lost = read.lost;
    all = all_read (cap_of g) (which_parts p slot).journal base maps r file read;
    leads = read.leads;
    refused = read.refused;
    kept_count = read.kept_count;
    lost_count = read.lost_count;
  }

  pub damaged_at : (place : ℕ) → IsDamageOf r (length file) (which_parts p slot).other_journal.base place → IsProjectDamagedAt place file
  damaged_at place at = (
    g,
    p,
    has,
    inr (
      slot,
      k,
      body,
      which g p slot k body file live,
      live_parts g p slot k body file live,
      inr (base, is.well_formed, is.encoded, told (cap_of g) (which_parts p slot) base maps r file read place at),
    ),
  )

  pub stands_for : (r.is_closed ≡ true) × ((which_parts p slot).other_journal.base < length file) × (r.behind ≡ 0) → Stands (cap_of g) maps k file
  stands_for (shut, long, none) = record {
    geometry = g;
    places = p;
    has = has;
    cap_is = refl;
    slot = slot;
    which = which g p slot k body file live;
    at = stands (cap_of g) (which_parts p slot) base maps r file read k body (live_parts g p slot k body file live) is shut long none;
  }

  pub damaged_if : (d : Option ℕ) → IfSome d (IsDamageOf r (length file) (which_parts p slot).other_journal.base) → IfSome d (λ place. IsProjectDamagedAt place file)
  damaged_if None at = tt
  damaged_if (Some place) at = damaged_at place at

  pub stands_if : (d : Option ℕ) → IfNone d ((r.is_closed ≡ true) × ((which_parts p slot).other_journal.base < length file) × (r.behind ≡ 0)) → IfNone d (StandsForMaps maps file)
  stands_if None whole = (cap_of g, (k, stands_for whole))
  stands_if (Some place) whole = tt

  -- a file that stands for a project is read as that one
  pub whole_if : (d : Option ℕ) → IfSome d (IsDamageOf r (length file) (which_parts p slot).other_journal.base)
      → IfNone d ((r.is_closed ≡ true) × ((which_parts p slot).other_journal.base < length file) × (r.behind ≡ 0))
      → (cap h : ℕ) (m : ProjectMaps) → Stands cap m h file → (maps ≡ m) × (d ≡ None) × (r.behind ≡ 0)
  whole_if None at whole cap h m st = ((one_map (cap_of g) cap maps m k h file (stands_for whole) st).1, refl, whole.2)
  whole_if (Some place) at whole cap h m st = absurd (stands_damaged cap m h place file st (damaged_at place at))
