-- What shows a filter: labels, and after each the numbers that it names, put after what is used of a page. Definitions only.
use Rattle.std.specs.Prelude.{ℕ, Bool, ◌≡◌, ◌*◌, ◌&&◌, cond, List, [], ◌∷◌, take, eqb, leb, Float}
use Rattle.std.specs.Float.{Format}
use Rattle.angles.specs.Kinds.{Kind}
use Rattle.angles.specs.declared.Kind.TheVariants.{Plain, Turn}
use Rattle.sigma.specs.Weights.{Params}
use Rattle.filter.specs.Types.{Filter}
use Rattle.filter.specs.Calls.{observed_numbers}
use Rattle.script.specs.Page.{Page, put_of, Decimal, bit_text, stage_text, way_text, put_number, put_numbers}

-- the bytes of the page p, and how many of them are used
abbrev pub Shown : Page → ℕ → List ℕ → Type 0
Shown p used bytes = (used ≡ p.used) × (bytes ≡ p.bytes)

-- n in decimal after what is used of p, then the rest
pub record Counted (n : ℕ) (p : Page) (rest : Page → ℕ → List ℕ → Type 0) (used : ℕ) (bytes : List ℕ) : Type 0 where
  pub counted : Page
  pub count : Decimal n p counted.used counted.bytes
  pub after : rest counted used bytes

-- how many numbers a square matrix has, and 2n+1 points of d; none for more than 8 states
abbrev pub square : ℕ → ℕ
square n = cond (leb n 8) (n * n) 0

abbrev pub points : ℕ → ℕ → ℕ
points n d = cond (leb n 8 && leb d 8) (observed_numbers n d) 0

-- a product of two numbers up to 32, and none of larger ones
abbrev pub times : ℕ → ℕ → ℕ
times a b = cond (leb a 32 && leb b 32) (a * b) 0

-- how many numbers the images so far have: n each, or in a correction the m that the first has named
abbrev pub kept_numbers : ℕ → ℕ → ℕ → ℕ
kept_numbers n at m = cond (eqb m 0) (times at n) (times at m)

-- 0 0 n and the size, then the rest
abbrev pub Sized : ℕ → (Page → Page) → Page → ℕ → List ℕ → Type 0
Sized n rest p = Counted n (put_of (48 ∷ 32 ∷ 48 ∷ 32 ∷ 110 ∷ 32 ∷ []) p) (λ q. Shown (rest q))

module _ (f : Format) where
  -- a label, and the first k of some numbers
  abbrev pub put_labelled : List ℕ → List Float → ℕ → Page → Page
  put_labelled label l k p = put_numbers f (take k l) (put_of label p)

  -- the three parameters
  abbrev pub put_params : Params → Page → Page
  put_params v p = put_number f v.kappa (put_number f v.beta (put_number f v.alpha p))

  -- a plain kind is the letter p, a turn the letter t with its half-turn
  abbrev pub put_kind : Kind → Page → Page
  put_kind Plain p = put_of (32 ∷ 112 ∷ []) p
  put_kind (Turn h) p = put_number f h (put_of (32 ∷ 116 ∷ []) p)

  -- the kinds of a list, one after another
  unfoldable pub put_kinds : List Kind → Page → Page
  put_kinds [] p = p
  put_kinds (k ∷ l) p = put_kinds l (put_kind k p)

  module _ (s : Filter) where
    -- x and P: each after its letter
    abbrev pub put_moments : Page → Page
    put_moments p = put_labelled (32 ∷ 80 ∷ []) s.track.p (square s.sheet.n) (put_labelled (32 ∷ 120 ∷ []) s.track.x s.sheet.n p)

    -- x, P and Q
    abbrev pub put_lists : Page → Page
    put_lists p = put_labelled (32 ∷ 81 ∷ []) s.sheet.q (square s.sheet.n) (put_moments p)

    -- par and kinds: the parameters, and a kind for each state
    abbrev pub put_settings : Page → Page
    put_settings p = put_kinds (take s.sheet.n s.sheet.kinds) (put_of (32 ∷ 107 ∷ 105 ∷ 110 ∷ 100 ∷ 115 ∷ []) (put_params s.sheet.params (put_of (32 ∷ 112 ∷ 97 ∷ 114 ∷ []) p)))

    -- w, pts and stale: the first two weights, the points, the stale mark
    abbrev pub put_current : Page → Page
    put_current p = put_of (bit_text s.track.stale) (put_of (32 ∷ 115 ∷ 116 ∷ 97 ∷ 108 ∷ 101 ∷ []) (put_labelled (32 ∷ 112 ∷ 116 ∷ 115 ∷ []) s.track.points (points s.sheet.n s.sheet.n) (put_labelled (32 ∷ 119 ∷ []) s.track.weights 2 p)))

    -- what is open; dw and dpts: the first two weights and the points that this has drawn
    abbrev pub put_drawn : Page → Page
    put_drawn p = put_labelled (32 ∷ 100 ∷ 112 ∷ 116 ∷ 115 ∷ []) s.track.drawn_points (points s.sheet.n s.sheet.n) (put_labelled (32 ∷ 100 ∷ 119 ∷ []) s.track.drawn_weights 2 (put_of (stage_text s.track.stage) p))

    -- the used places of a filter, all but the way a call is open and what a stepped one keeps
    abbrev pub FilterShown : Page → ℕ → List ℕ → Type 0
    FilterShown = Sized s.sheet.n (λ p. put_drawn (put_current (put_settings (put_lists p))))

-- at, asked and m: how far a stepped call is, whether the point that is due has been asked for, its m; then the rest
abbrev pub Progressed : ℕ → Bool → ℕ → (Page → ℕ → List ℕ → Type 0) → Page → ℕ → List ℕ → Type 0
Progressed at asked m rest p =
    Counted at (put_of (32 ∷ 97 ∷ 116 ∷ 32 ∷ []) p) (λ q.
    Counted m (put_of (32 ∷ 109 ∷ 32 ∷ []) (put_of (bit_text asked) (put_of (32 ∷ 97 ∷ 115 ∷ 107 ∷ 101 ∷ 100 ∷ []) q))) rest)

-- which way a call is open, how far a stepped one is, and img: its images
abbrev pub KeptShown : Format → Filter → Page → ℕ → List ℕ → Type 0
KeptShown f s p =
    let k = s.track.kept in
    Progressed k.at k.asked k.m (λ q. Shown (put_labelled f (32 ∷ 105 ∷ 109 ∷ 103 ∷ []) k.images (kept_numbers s.sheet.n k.at k.m) q)) (put_of (way_text s.track.stage) p)
