-- Document 02, A7: an open call point by point, and the same with the whole list, by its sort: a prediction, or a correction of m. Definitions only.
use Rattle.std.specs.Prelude.{ℕ, zero, suc, ◌+◌, ◌*◌, ◌≤◌, ◌≡◌, true, List, [], ◌∷◌, ◌++◌, length, take, drop, Float}
use Rattle.floats.specs.Numbers.{all_finite}
use Rattle.filter.specs.Calls.{SetCall, open_prediction, open_correction, open_prediction_stepped, open_correction_stepped, StepCall, ask, image_prediction, image_correction, Call, stepping}
use Rattle.stepped.specs.Ways.{Sort, predicts, corrects}

-- how it is opened, stepped and with a buffer for the whole list
abbrev pub stepped_open : Sort → SetCall
stepped_open predicts = open_prediction_stepped
stepped_open (corrects m) = open_correction_stepped

abbrev pub whole_open : Sort → List Float → SetCall
whole_open predicts b = open_prediction b
whole_open (corrects m) b = open_correction b

-- the numbers of an image, of n states, and the call that hands it in
abbrev pub image_numbers : ℕ → Sort → ℕ
image_numbers n predicts = n
image_numbers n (corrects m) = m

abbrev pub handing : Sort → List Float → StepCall
handing predicts v = image_prediction v
handing (corrects m) v = image_correction m v

abbrev pub Measured : Sort → Type 0
Measured predicts = Unit {0}
Measured (corrects m) = (1 ≤ m) × (m ≤ 4)

-- finite images of 2n+1 points: image k is lent as i k, and v is the list of them, image after image; slices may be longer
pub record Images (n : ℕ) (c : Sort) (i : ℕ → List Float) (v : List Float) : Type 0 where
  pub measured : Measured c
  pub long : (k : ℕ) → k ≤ n + n → image_numbers n c ≤ length (i k)
  pub listed : (k : ℕ) → k ≤ n + n → take (image_numbers n c) (i k) ≡ take (image_numbers n c) (drop (k * image_numbers n c) v)
  pub enough : (n + n + 1) * image_numbers n c ≤ length v
  pub bounded : all_finite (take ((n + n + 1) * image_numbers n c) v) ≡ true

-- the first k points in turn, each asked for and its image handed in; point j is asked for into a j
unfoldable pub rounds : Sort → (ℕ → List Float) → (ℕ → List Float) → ℕ → List Call
rounds c a i zero = []
rounds c a i (suc k) = rounds c a i k ++ (stepping (ask (a k)) ∷ stepping (handing c (i k)) ∷ [])
