-- The setters over `Number`: what their tests have told, as what is asked of the filter of floats, and the filter that each leaves. Each law takes the `same` of the bound first. Assumes nothing.
use Prim.Native.Nat.{ℕ, ◌≤◌, ◌<◌, ◌-◌, ◌*◌, ◌^◌}
use mathlib.Core.Path.{◌≡◌, refl, sym, ap, ◌∙◌}
use mathlib.Core.Bool.{Bool, true, false, ◌&&◌, cond}
use mathlib.Core.List.{List, [], ◌∷◌}
use native.Mathlib.Nat.{mul-le-mul_right}
use native.Mathlib.Omega.{arith}
use lib.ListN.{length, take, set}
use lib.Dec.{leb, ltb}
use lib.Ieee.{Float, Format}
use Rattle.std.proofs.Common.{Fits, w64}
use Rattle.floats.specs.declared.Slice.{Slice}
use Rattle.floats.specs.declared.Slice.TheVariants.{State, Covariance, Noise, Lone}
use Rattle.floats.specs.declared.Verdict.{Verdict}
use Rattle.floats.specs.Refusal.{earlier, refusal, nothing}
use Rattle.floats.specs.Search.{input, searched}
use Rattle.floats.specs.Numbers.{zeros}
use Rattle.floats.specs.Fronts.{front}
use Rattle.floats.proofs.Refusals.{number_of}
use Rattle.angles.specs.declared.Kind.{Kind as KindOf}
use Rattle.sigma.specs.declared.Params.{Params as ParamsOf}
use Rattle.filter.specs.declared.Sheet.{Sheet as SheetOf}
use Rattle.filter.specs.declared.Track.{Track as TrackOf}
use Rattle.filter.specs.declared.Filter.{Filter as FilterOf}
use Rattle.filter.specs.declared.Answer.{Answer as AnswerOf}
use Rattle.angles.specs.Kinds.{Kind, half_of, passes}
use Rattle.sigma.specs.Weights.{Params, weights_pass}
use Rattle.filter.specs.Asked.{in_range, within, every, in_order, first_refusal}
use Rattle.filter.specs.Filters.{seen, is_shut, changed, x_set, p_set, q_set, params_set, kinds_set, sets, writes}
use Rattle.filter.specs.Calls.{setting, writing, set_x, set_p, set_q, set_params, set_kind, sized, lend, values_of, line, asks}
use Rattle.filter.proofs.Sizes.{and_left, and_right, and_true, range_ge, range_le, passing_8, state_in}
use Rattle.filter.proofs.Order.{Passed, passed, tested}
use Rattle.filter.proofs.Lines.{states_le, slice_first, matrix_first}
use Rattle.filter.proofs.Taken.{Told, answering}

-- what `tests::slice_refusal` tells of k numbers
abbrev pub OfSlice : Format → Bool → ℕ → ℕ → Slice → List Float → Verdict → Type 0
OfSlice f b n k s v r = r ≡ first_refusal f (line b n [] (lend v k) false (input s (take k v)) [])

-- and what has passed of a matrix counted by `square`
pub matrix_passed : (f : Format) (s : Slice) (v : List Float) (n : ℕ) {k : ℕ} {b : Bool} {r : Verdict} → k ≡ cond (leb n 8) (n * n) 0 → OfSlice f b n k s v r → r.number ≡ 0 → Passed f (line b n [] (lend v (n * n)) false (input s (take (n * n) v)) [])
matrix_passed f s v n e t z = passed f _ (sym (number_of (matrix_first f s v n e t refl)) ∙ z)

-- what `checks::first_refusal` tells by its tests, where nothing is stale and no kind has to be plain
abbrev pub Tested : Bool → Verdict → Verdict → Bool → Bool → Bool → Type 0
Tested long r found fits sized pass = r ≡ earlier (refusal (in_order fits sized long true false false nothing true true nothing)) (earlier found (refusal (in_order true true true true false false nothing true pass nothing)))

-- a state's index, as its tests have it: below 8
pub state_index : (n i : ℕ) → every within (record { value = n; from = 1; to = 8 } ∷ sized i 0 (n - 1)) ≡ true → i < 8
state_index n i p =
    let a = and_left (in_range 1 8 n) _ p in
    let b = and_left (in_range 0 (n - 1) i) true (and_right (in_range 1 8 n) _ p) in
    omega (arith, range_ge 1 8 n a, range_le 1 8 n a, range_le 0 (n - 1) i b)

-- where the kind at it lies, in bytes
pub index_fits : (i size : ℕ) → i < 8 → 8 * size < 2 ^ 64 → Fits w64 (i * size)
index_fits i size h k = let m : i * size ≤ 8 * size = mul-le-mul_right size (omega arith) in omega arith

module _ {A : Type 0} {look : (F : Type 0 → Type 0) → F A → F Float} (same : (P : (B : Type 0) → ((F : Type 0 → Type 0) → F B → F Float) → Type 0) → P Float (λ F x. x) → P A look) where
  module _ (f : Format) (self : FilterOf A) (v : List Float) {r : Verdict} {b : Bool} where
    abbrev pub x_told : OfSlice f b self.sheet.n self.sheet.n State v r → b ≡ is_shut self.track.stage → Told f (look FilterOf self) (setting (set_x v))
    x_told t d = record {
      told = r;
      is =
          same (λ B s. (a : FilterOf B) → OfSlice f b a.sheet.n a.sheet.n State v r → b ≡ is_shut a.track.stage → r ≡ first_refusal f (asks (seen (s FilterOf a)) (setting (set_x v))))
          (λ a t d. slice_first f State v t d (λ h. refl)) self t d;
    }

    abbrev pub p_told : {k : ℕ} → k ≡ cond (leb self.sheet.n 8) (self.sheet.n * self.sheet.n) 0 → OfSlice f b self.sheet.n k Covariance v r → b ≡ is_shut self.track.stage → Told f (look FilterOf self) (setting (set_p v))
    p_told {k} e t d = record {
      told = r;
      is =
          same (λ B s. (a : FilterOf B) → k ≡ cond (leb a.sheet.n 8) (a.sheet.n * a.sheet.n) 0 → OfSlice f b a.sheet.n k Covariance v r → b ≡ is_shut a.track.stage → r ≡ first_refusal f (asks (seen (s FilterOf a)) (setting (set_p v))))
          (λ a e t d. matrix_first f Covariance v a.sheet.n e t d) self e t d;
    }

    abbrev pub q_told : {k : ℕ} → k ≡ cond (leb self.sheet.n 8) (self.sheet.n * self.sheet.n) 0 → OfSlice f b self.sheet.n k Noise v r → b ≡ is_shut self.track.stage → Told f (look FilterOf self) (writing (set_q v))
    q_told {k} e t d = record {
      told = r;
      is =
          same (λ B s. (a : FilterOf B) → k ≡ cond (leb a.sheet.n 8) (a.sheet.n * a.sheet.n) 0 → OfSlice f b a.sheet.n k Noise v r → b ≡ is_shut a.track.stage → r ≡ first_refusal f (asks (seen (s FilterOf a)) (writing (set_q v))))
          (λ a e t d. matrix_first f Noise v a.sheet.n e t d) self e t d;
    }

  module _ (f : Format) (self : FilterOf A) {r found : Verdict} {b u w : Bool} where
    abbrev pub params_told : (params : Params) → Tested true r found b u w → found ≡ refusal (searched (input Lone (values_of params))) → b ≡ is_shut self.track.stage → u ≡ in_range 1 8 self.sheet.n → w ≡ (leb self.sheet.n 8 && weights_pass f self.sheet.n params) → Told f (look FilterOf self) (writing (set_params params))
    params_told params t e d i h = record {
      told = r;
      is =
          same (λ B s. (a : FilterOf B) → b ≡ is_shut a.track.stage → u ≡ in_range 1 8 a.sheet.n → w ≡ (leb a.sheet.n 8 && weights_pass f a.sheet.n params) → r ≡ first_refusal f (asks (seen (s FilterOf a)) (writing (set_params params))))
          (λ a d i h. tested f _ _ t e d (i ∙ sym (and_true _)) (λ k. refl) refl refl refl (λ k. refl) refl (λ k. h ∙ passing_8 _ _ (states_le _ [] k))) self d i h;
    }

    abbrev pub kind_told : (i : ℕ) (kind : Kind) → Tested true r found b u w → found ≡ refusal (searched (input Lone (half_of kind ∷ []))) → b ≡ is_shut self.track.stage → u ≡ (in_range 1 8 self.sheet.n && ltb i self.sheet.n) → w ≡ passes f kind → Told f (look FilterOf self) (writing (set_kind i kind))
    kind_told i kind t e d j h = record {
      told = r;
      is =
          same (λ B s. (a : FilterOf B) → b ≡ is_shut a.track.stage → u ≡ (in_range 1 8 a.sheet.n && ltb i a.sheet.n) → r ≡ first_refusal f (asks (seen (s FilterOf a)) (writing (set_kind i kind))))
          (λ a d j. tested f _ _ t e d (j ∙ state_in i a.sheet.n) (λ k. refl) refl refl refl (λ k. refl) refl (λ k. h ∙ sym (and_true _))) self d j;
    }

  -- ---- what each leaves

  pub x_left : (self : FilterOf A) (x : List A) (r : Verdict) → look AnswerOf (record { filter = record { sheet = self.sheet; track = record { x = x; p = self.track.p; weights = self.track.weights; points = self.track.points; stale = true; stage = self.track.stage; drawn_weights = self.track.drawn_weights; drawn_points = self.track.drawn_points; kept = self.track.kept } }; refusal = r }) ≡ answering r (changed (look FilterOf self) (sets (x_set (look List x))))
  x_left =
      same
      (λ B s. (a : FilterOf B) (x : List B) (r : Verdict) → s AnswerOf (record { filter = record { sheet = a.sheet; track = record { x = x; p = a.track.p; weights = a.track.weights; points = a.track.points; stale = true; stage = a.track.stage; drawn_weights = a.track.drawn_weights; drawn_points = a.track.drawn_points; kept = a.track.kept } }; refusal = r }) ≡ answering r (changed (s FilterOf a) (sets (x_set (s List x)))))
      (λ a x r. refl)

  pub p_left : (self : FilterOf A) (p : List A) (r : Verdict) → look AnswerOf (record { filter = record { sheet = self.sheet; track = record { x = self.track.x; p = p; weights = self.track.weights; points = self.track.points; stale = true; stage = self.track.stage; drawn_weights = self.track.drawn_weights; drawn_points = self.track.drawn_points; kept = self.track.kept } }; refusal = r }) ≡ answering r (changed (look FilterOf self) (sets (p_set (look List p))))
  p_left =
      same
      (λ B s. (a : FilterOf B) (p : List B) (r : Verdict) → s AnswerOf (record { filter = record { sheet = a.sheet; track = record { x = a.track.x; p = p; weights = a.track.weights; points = a.track.points; stale = true; stage = a.track.stage; drawn_weights = a.track.drawn_weights; drawn_points = a.track.drawn_points; kept = a.track.kept } }; refusal = r }) ≡ answering r (changed (s FilterOf a) (sets (p_set (s List p)))))
      (λ a p r. refl)

  pub q_left : (self : FilterOf A) (q : List A) (r : Verdict) → look AnswerOf (record { filter = record { sheet = record { n = self.sheet.n; q = q; params = self.sheet.params; kinds = self.sheet.kinds }; track = self.track }; refusal = r }) ≡ answering r (changed (look FilterOf self) (writes (q_set (look List q))))
  q_left =
      same
      (λ B s. (a : FilterOf B) (q : List B) (r : Verdict) → s AnswerOf (record { filter = record { sheet = record { n = a.sheet.n; q = q; params = a.sheet.params; kinds = a.sheet.kinds }; track = a.track }; refusal = r }) ≡ answering r (changed (s FilterOf a) (writes (q_set (s List q)))))
      (λ a q r. refl)

  pub params_left : (self : FilterOf A) (params : ParamsOf A) (r : Verdict) → look AnswerOf (record { filter = record { sheet = record { n = self.sheet.n; q = self.sheet.q; params = params; kinds = self.sheet.kinds }; track = record { x = self.track.x; p = self.track.p; weights = self.track.weights; points = self.track.points; stale = true; stage = self.track.stage; drawn_weights = self.track.drawn_weights; drawn_points = self.track.drawn_points; kept = self.track.kept } }; refusal = r }) ≡ answering r (changed (look FilterOf self) (writes (params_set (look ParamsOf params))))
  params_left =
      same
      (λ B s. (a : FilterOf B) (params : ParamsOf B) (r : Verdict) → s AnswerOf (record { filter = record { sheet = record { n = a.sheet.n; q = a.sheet.q; params = params; kinds = a.sheet.kinds }; track = record { x = a.track.x; p = a.track.p; weights = a.track.weights; points = a.track.points; stale = true; stage = a.track.stage; drawn_weights = a.track.drawn_weights; drawn_points = a.track.drawn_points; kept = a.track.kept } }; refusal = r }) ≡ answering r (changed (s FilterOf a) (writes (params_set (s ParamsOf params)))))
      (λ a params r. refl)

  pub kind_left : (self : FilterOf A) (i : ℕ) (kind : KindOf A) (r : Verdict) → look AnswerOf (record { filter = record { sheet = record { n = self.sheet.n; q = self.sheet.q; params = self.sheet.params; kinds = set self.sheet.kinds i kind }; track = record { x = self.track.x; p = self.track.p; weights = self.track.weights; points = self.track.points; stale = true; stage = self.track.stage; drawn_weights = self.track.drawn_weights; drawn_points = self.track.drawn_points; kept = self.track.kept } }; refusal = r }) ≡ answering r (changed (look FilterOf self) (writes (kinds_set (set (look FilterOf self).sheet.kinds i (look KindOf kind)))))
  kind_left =
      same
      (λ B s. (a : FilterOf B) (i : ℕ) (kind : KindOf B) (r : Verdict) → s AnswerOf (record { filter = record { sheet = record { n = a.sheet.n; q = a.sheet.q; params = a.sheet.params; kinds = set a.sheet.kinds i kind }; track = record { x = a.track.x; p = a.track.p; weights = a.track.weights; points = a.track.points; stale = true; stage = a.track.stage; drawn_weights = a.track.drawn_weights; drawn_points = a.track.drawn_points; kept = a.track.kept } }; refusal = r }) ≡ answering r (changed (s FilterOf a) (writes (kinds_set (set (s FilterOf a).sheet.kinds i (s KindOf kind))))))
      (λ a i kind r. refl)
