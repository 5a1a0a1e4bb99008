-- The file of each line, part by part.
use Rattle.std.proofs.Common.{◌≡◌, ◌∙◌, ℕ, zero, suc, ◌+◌, ◌-◌, ◌<◌, ◌≤◌, List, [], ◌∷◌, ◌++◌, length, get_or, set, drop, refl, sym, ap, ap₂, subst, arith, append_assoc}
use Rattle.std.specs.Prelude.{replicate, slice_get, Some, string_bytes}
use Rattle.std.proofs.lemmas.List.{append-nil, drop_more, get_or_default, length-append, length-replicate, replicate-append-replicate}
use Rattle.map_script.specs.Files.{files_of}
use Rattle.map_script.specs.declared.files.FilePart.{FilePart}

-- the last part has so many lines more
pub grown : (ps : List FilePart) (n : ℕ) (d q : FilePart) (name : List ℕ) (count : ℕ) → n + 1 ≡ length ps → string_bytes q.name ≡ name
    → q.count ≡ (get_or ps n d).count + count → string_bytes (get_or ps n d).name ≡ name → files_of (set ps n q) ≡ files_of ps ++ replicate count name
grown [] n d q name count len named more is = absurd (omega (arith, len))
grown (p ∷ []) zero d q name count len named more is =
    append-nil (replicate q.count (string_bytes q.name))
    ∙ ap₂ (λ (k : ℕ) (t : List ℕ). replicate k t) more named
    ∙ sym (replicate-append-replicate p.count count name)
    ∙ ap (λ (r : List (List ℕ)). r ++ replicate count name)
    (ap (λ (t : List ℕ). replicate p.count t) (sym is) ∙ sym (append-nil (replicate p.count (string_bytes p.name))))
grown (p ∷ []) (suc n) d q name count len named more is = absurd (omega (arith, len))
grown (p ∷ r ∷ ps) zero d q name count len named more is = absurd (omega (arith, len))
grown (p ∷ r ∷ ps) (suc n) d q name count len named more is =
    let front : List (List ℕ) = replicate p.count (string_bytes p.name) in
    ap (λ (fs : List (List ℕ)). front ++ fs) (grown (r ∷ ps) n d q name count (omega (arith, len)) named more is)
    ∙ sym (append_assoc front (files_of (r ∷ ps)) (replicate count name))

-- the same, as the code reads and writes it
pub grown_last : (ps : List FilePart) (n all count : ℕ) (a b d : FilePart) (name : List ℕ) → n + 1 ≡ length ps → a ≡ get_or ps n a → b ≡ get_or ps n b → d ≡ get_or ps n d
    → string_bytes a.name ≡ name → all ≡ b.count + count → files_of (set ps n (record { name = d.name; count = all })) ≡ files_of ps ++ replicate count name
grown_last ps n all count a b d name len a_is b_is d_is is more =
    let inside : n < length ps = omega (arith, len) in
    let named : string_bytes d.name ≡ name =
    ap (λ (p : FilePart). string_bytes p.name) (d_is ∙ get_or_default ps n d a inside ∙ sym a_is) ∙ is in
    let longer : all ≡ (get_or ps n d).count + count = more ∙ ap (λ (p : FilePart). p.count + count) (b_is ∙ get_or_default ps n b d inside) in
    grown ps n d (record { name = d.name; count = all }) name count len named longer (ap (λ (p : FilePart). string_bytes p.name) (sym d_is) ∙ named)

-- one part more
pub one_more : (ps : List FilePart) (p : FilePart) → files_of (ps ++ p ∷ []) ≡ files_of ps ++ replicate p.count (string_bytes p.name)
one_more [] p = append-nil (replicate p.count (string_bytes p.name))
one_more (q ∷ ps) p =
    let front : List (List ℕ) = replicate q.count (string_bytes q.name) in
    ap (λ (fs : List (List ℕ)). front ++ fs) (one_more ps p) ∙ sym (append_assoc front (files_of ps) (replicate p.count (string_bytes p.name)))

-- ---- The file of a line

front_get : (n : ℕ) (x : List ℕ) (ys : List (List ℕ)) (k : ℕ) → k < n → slice_get (replicate n x ++ ys) k ≡ Some x
front_get zero x ys k below = absurd (omega (arith, below))
front_get (suc n) x ys zero below = refl
front_get (suc n) x ys (suc k) below = front_get n x ys k (omega (arith, below))

behind_get : (n : ℕ) (x : List ℕ) (ys : List (List ℕ)) (k : ℕ) → n ≤ k → slice_get (replicate n x ++ ys) k ≡ slice_get ys (k - n)
behind_get zero x ys k le =
    let same : k ≡ k - 0 = omega arith in
    ap (slice_get ys) same
behind_get (suc n) x ys zero le = absurd (omega (arith, le))
behind_get (suc n) x ys (suc k) le =
    let same : k - n ≡ suc k - suc n = omega arith in
    behind_get n x ys k (omega (arith, le)) ∙ ap (slice_get ys) same

-- the line is one of the part
pub here : (ps : List FilePart) (i left : ℕ) (d : FilePart) → i < length ps → left < (get_or ps i d).count
    → slice_get (files_of (drop i ps)) left ≡ Some (string_bytes (get_or ps i d).name)
here ps i left d inside below =
    let p : FilePart = get_or ps i d in
    ap (λ (qs : List FilePart). slice_get (files_of qs) left) (drop_more ps i d inside)
    ∙ front_get p.count (string_bytes p.name) (files_of (drop (i + 1) ps)) left below

-- it stands behind the part
pub behind : (ps : List FilePart) (i left : ℕ) (d : FilePart) → i < length ps → (get_or ps i d).count ≤ left
    → slice_get (files_of (drop (i + 1) ps)) (left - (get_or ps i d).count) ≡ slice_get (files_of (drop i ps)) left
behind ps i left d inside le =
    let p : FilePart = get_or ps i d in
    sym (ap (λ (qs : List FilePart). slice_get (files_of qs) left) (drop_more ps i d inside)
    ∙ behind_get p.count (string_bytes p.name) (files_of (drop (i + 1) ps)) left le)

pub behind_within : (ps : List FilePart) (i left : ℕ) (d : FilePart) → i < length ps → (get_or ps i d).count ≤ left → left < length (files_of (drop i ps))
    → left - (get_or ps i d).count < length (files_of (drop (i + 1) ps))
behind_within ps i left d inside le below =
    let p : FilePart = get_or ps i d in
    let rest : List (List ℕ) = files_of (drop (i + 1) ps) in
    let long : length (files_of (drop i ps)) ≡ p.count + length rest =
    ap (λ (qs : List FilePart). length (files_of qs)) (drop_more ps i d inside)
    ∙ length-append (replicate p.count (string_bytes p.name)) rest ∙ ap (λ (n : ℕ). n + length rest) (length-replicate p.count (string_bytes p.name)) in
    omega (arith, le, below, long)

-- the line is looked for behind the part
pub past : (ps : List FilePart) (i left place : ℕ) (p : FilePart) → i < length ps → p ≡ get_or ps i p → p.count ≤ left
    → slice_get (files_of (drop i ps)) left ≡ slice_get (files_of ps) place → left < length (files_of (drop i ps))
    → (slice_get (files_of (drop (i + 1) ps)) (left - p.count) ≡ slice_get (files_of ps) place) × (left - p.count < length (files_of (drop (i + 1) ps)))
past ps i left place p inside is le at below =
    let same : p.count ≡ (get_or ps i p).count = ap (λ (q : FilePart). q.count) is in
    let over : (get_or ps i p).count ≤ left = omega (arith, le, same) in (
      ap (λ (n : ℕ). slice_get (files_of (drop (i + 1) ps)) (left - n)) same ∙ behind ps i left p inside over ∙ at,
      subst (λ (n : ℕ). left - n < length (files_of (drop (i + 1) ps))) (sym same) (behind_within ps i left p inside over below),
    )
