-- The style of a picture: how its classes look. None of its rules hides what is drawn.
use Rattle.std.specs.Prelude.{ℕ, List, [], ◌∷◌, ◌++◌, codes, flat_map}

-- the rules for a wide page in a light scheme
abbrev pub style_rules : List (List ℕ)
style_rules =
    codes "svg{color-scheme:light dark}"
    ∷ codes ".page{fill:#fff}"
    ∷ (codes "path{fill:none;stroke-width:2px;stroke-linecap:round;"
    ++ codes "stroke-linejoin:round;vector-effect:non-scaling-stroke}")
    ∷ codes ".one{stroke:#222}"
    ∷ codes ".one path{stroke-width:3px}"
    ∷ codes ".two{stroke:#888}"
    ∷ codes ".special{stroke:#c2410c}"
    ∷ codes ".one .tick,.two .tick{stroke-width:1.5px}"
    ∷ codes ".vertex{stroke:#1d4ed8;stroke-width:6px}"
    ∷ codes "[id^=sub] path{stroke-width:3px}"
    ∷ codes ".sub0{stroke:#e11d48}"
    ∷ codes ".sub1{stroke:#2563eb}"
    ∷ codes ".sub2{stroke:#16a34a}"
    ∷ codes ".sub3{stroke:#d97706}"
    ∷ codes ".sub4{stroke:#9333ea}"
    ∷ codes ".sub5{stroke:#0891b2}"
    ∷ codes ".node path{stroke:#0f766e;stroke-width:1px;stroke-dasharray:6 4}"
    ∷ codes ".lint path{stroke:#ef4444;stroke-width:14px;stroke-opacity:.5}"
    ∷ codes ".player path{fill:#15803d;stroke:#14532d}"
    ∷ codes ".deathmatch path{fill:#a855f7;stroke:#581c87}"
    ∷ codes ".monster path{fill:#dc2626;stroke:#7f1d1d}"
    ∷ codes ".item path{fill:#eab308;stroke:#854d0e}"
    ∷ codes ".other path{fill:#9ca3af;stroke:#374151}"
    ∷ codes "text{font-family:sans-serif;text-anchor:middle;dominant-baseline:central}"
    ∷ codes "text{stroke:#fff;stroke-width:.2em;paint-order:stroke}"
    ∷ codes ".of-vertex{fill:#1d4ed8}"
    ∷ codes ".of-line{fill:#222}"
    ∷ codes ".of-thing{fill:#7e22ce}"
    ∷ codes ".of-sector{fill:#15803d;font-size:1.5em}"
    ∷ codes ".left-out{fill:#222;text-anchor:start}"
    ∷ codes "svg:has(#vertex299) .vertex{vector-effect:none;stroke-width:8px}"
    ∷ codes "svg:has(#vertex299) .tick{vector-effect:none;stroke-width:2px}" ∷ []

-- the rules that hold on a phone instead
abbrev pub phone_rules : List (List ℕ)
phone_rules =
    codes "@media (max-width:600px){"
    ∷ codes ".vertex{vector-effect:none;stroke-width:8px}"
    ∷ codes ".one path,[id^=sub] path{stroke-width:1.5px}"
    ∷ codes ".two path{stroke-width:1px}"
    ∷ codes ".one .tick,.two .tick{vector-effect:none;stroke-width:2px}"
    ∷ codes ".lint path{stroke-width:10px}"
    ∷ codes "}" ∷ []

-- the colours in a dark scheme
abbrev pub dark_rules : List (List ℕ)
dark_rules =
    codes "@media (prefers-color-scheme:dark){"
    ∷ codes ".page{fill:#111}"
    ∷ codes ".one{stroke:#eee}"
    ∷ codes ".two{stroke:#888}"
    ∷ codes ".special{stroke:#fb923c}"
    ∷ codes ".vertex{stroke:#60a5fa}"
    ∷ codes ".sub0{stroke:#fb7185}"
    ∷ codes ".sub1{stroke:#93c5fd}"
    ∷ codes ".sub2{stroke:#86efac}"
    ∷ codes ".sub3{stroke:#fcd34d}"
    ∷ codes ".sub4{stroke:#d8b4fe}"
    ∷ codes ".sub5{stroke:#67e8f9}"
    ∷ codes ".node path{stroke:#2dd4bf}"
    ∷ codes ".lint path{stroke:#f87171}"
    ∷ codes ".player path{stroke:#4ade80}"
    ∷ codes ".deathmatch path{stroke:#d8b4fe}"
    ∷ codes ".monster path{stroke:#fca5a5}"
    ∷ codes ".item path{stroke:#fde047}"
    ∷ codes ".other path{stroke:#e5e7eb}"
    ∷ codes "text{stroke:#111}"
    ∷ codes ".of-vertex{fill:#93c5fd}"
    ∷ codes ".of-line{fill:#eee}"
    ∷ codes ".of-thing{fill:#d8b4fe}"
    ∷ codes ".of-sector{fill:#4ade80}"
    ∷ codes ".left-out{fill:#eee}"
    ∷ codes "}" ∷ []

-- rules, each in a line of its own
abbrev pub rule_lines : List (List ℕ) → List ℕ
rule_lines rules = flat_map (λ rule. rule ++ 10 ∷ []) rules

-- the element of the style
unfoldable pub style_text : List ℕ
style_text =
    codes "<style type=\"text/css\">\n" ++ rule_lines style_rules ++ rule_lines phone_rules
    ++ rule_lines dark_rules ++ codes "</style>\n"

-- the rules of the legend, the scale, the grid and the filled sectors
abbrev pub sheet_rules : List (List ℕ)
sheet_rules =
    codes ".grid{stroke:#94a3b8;stroke-opacity:.35;stroke-linecap:butt;vector-effect:none}"
    ∷ codes ".grid{stroke-width:65536px;stroke-dasharray:2 62;stroke-dashoffset:1}"
    ∷ codes "[class^=floor]{fill-opacity:.55}"
    ∷ codes ".floor0{fill:#2c5aa0}"
    ∷ codes ".floor1{fill:#4a86c5}"
    ∷ codes ".floor2{fill:#7db4dd}"
    ∷ codes ".floor3{fill:#b5d8e8}"
    ∷ codes ".floor4{fill:#f3dc8a}"
    ∷ codes ".floor5{fill:#f2b357}"
    ∷ codes ".floor6{fill:#e07b39}"
    ∷ codes ".floor7{fill:#bf3b2b}"
    ∷ codes ".bar{fill:#222}"
    ∷ codes "svg #legend text{font-size:1em;text-anchor:start;stroke:none;fill:#222}"
    ∷ codes "@media (prefers-color-scheme:dark){"
    ∷ codes ".bar{fill:#eee}"
    ∷ codes "svg #legend text{fill:#eee}"
    ∷ codes "}" ∷ []

-- the element of their style
unfoldable pub sheet_style : List ℕ
sheet_style =
    codes "<style type=\"text/css\">\n" ++ rule_lines sheet_rules ++ codes "</style>\n"
