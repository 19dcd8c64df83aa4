-- Filters and their parts over `Number` in the terms of their floats: what `seen` makes of each, by its fields. Each law takes the `floats_seen_law` and the `same` of the bound first. Assumes nothing.
use Prim.Native.Nat.{ℕ}
use mathlib.Core.Path.{◌≡◌, refl, ◌∙◌}
use mathlib.Core.Bool.{Bool}
use mathlib.Core.List.{List}
use lib.Ieee.{Float}
use Rattle.floats.specs.declared.Verdict.{Verdict}
use Rattle.floats.specs.Numbers.{plus_zero}
use Rattle.floats.specs.Fronts.{front}
use Rattle.angles.specs.declared.Kind.{Kind}
use Rattle.sigma.specs.declared.Params.{Params}
use Rattle.sigma.proofs.Generic.{seen_params}
use Rattle.filter.specs.declared.Stage.{Stage}
use Rattle.filter.specs.declared.Weighted.{Weighted}
use Rattle.filter.specs.declared.Sheet.{Sheet}
use Rattle.filter.specs.declared.Kept.{Kept}
use Rattle.filter.specs.declared.Track.{Track}
use Rattle.filter.specs.declared.Filter.{Filter}
use Rattle.filter.specs.declared.Answer.{Answer}
use Rattle.filter.specs.declared.ParamsRead.{ParamsRead}
use Rattle.filter.specs.declared.new.NewSheet.{NewSheet}
use Rattle.filter.specs.declared.new.NewTrack.{NewTrack}
use Rattle.filter.specs.Filters.{sheet, track, filter, keeping}

-- ---- what holds a filter, or a part of it

module _ {A : Type 0} {seen : (F : Type 0 → Type 0) → F A → F Float} (same : (P : (B : Type 0) → ((F : Type 0 → Type 0) → F B → F Float) → Type 0) → P Float (λ F x. x) → P A seen) where
  pub seen_filter : (s : Sheet A) (t : Track A) → seen Filter (record { sheet = s; track = t }) ≡ filter (seen Sheet s) (seen Track t)
  seen_filter = same (λ B s. (a : Sheet B) (b : Track B) → s Filter (record { sheet = a; track = b }) ≡ filter (s Sheet a) (s Track b)) (λ a b. refl)

  pub seen_answer : (s : Filter A) (v : Verdict) → seen Answer (record { filter = s; refusal = v }) ≡ record { filter = seen Filter s; refusal = v }
  seen_answer = same (λ B s. (a : Filter B) (v : Verdict) → s Answer (record { filter = a; refusal = v }) ≡ record { filter = s Filter a; refusal = v }) (λ a v. refl)

  pub seen_new_sheet : (v : Verdict) (s : Sheet A) → seen NewSheet (record { refusal = v; sheet = s }) ≡ record { refusal = v; sheet = seen Sheet s }
  seen_new_sheet = same (λ B s. (v : Verdict) (a : Sheet B) → s NewSheet (record { refusal = v; sheet = a }) ≡ record { refusal = v; sheet = s Sheet a }) (λ v a. refl)

  pub seen_new_track : (v : Verdict) (t : Track A) → seen NewTrack (record { refusal = v; track = t }) ≡ record { refusal = v; track = seen Track t }
  seen_new_track = same (λ B s. (v : Verdict) (a : Track B) → s NewTrack (record { refusal = v; track = a }) ≡ record { refusal = v; track = s Track a }) (λ v a. refl)

  pub seen_params_read : (v : Verdict) (p : Params A) → seen ParamsRead (record { refusal = v; params = p }) ≡ record { refusal = v; params = seen Params p }
  seen_params_read = same (λ B s. (v : Verdict) (a : Params B) → s ParamsRead (record { refusal = v; params = a }) ≡ record { refusal = v; params = s Params a }) (λ v a. refl)

  -- ---- the fields with no number in them stay as they are

  pub states_seen : (s : Filter A) → (seen Filter s).sheet.n ≡ s.sheet.n
  states_seen = same (λ B s. (a : Filter B) → (s Filter a).sheet.n ≡ a.sheet.n) (λ a. refl)

  pub stage_seen : (s : Filter A) → (seen Filter s).track.stage ≡ s.track.stage
  stage_seen = same (λ B s. (a : Filter B) → (s Filter a).track.stage ≡ a.track.stage) (λ a. refl)

  pub stale_seen : (s : Filter A) → (seen Filter s).track.stale ≡ s.track.stale
  stale_seen = same (λ B s. (a : Filter B) → (s Filter a).track.stale ≡ a.track.stale) (λ a. refl)

  pub sheet_seen : (s : Filter A) → (seen Filter s).sheet ≡ seen Sheet s.sheet
  sheet_seen = same (λ B s. (a : Filter B) → (s Filter a).sheet ≡ s Sheet a.sheet) (λ a. refl)

  pub track_seen : (s : Filter A) → (seen Filter s).track ≡ seen Track s.track
  track_seen = same (λ B s. (a : Filter B) → (s Filter a).track ≡ s Track a.track) (λ a. refl)

-- ---- what holds numbers

module _ {A : Type 0} {floats : List A → List Float} {seen : (F : Type 0 → Type 0) → F A → F Float} (law : (l : List A) → floats l ≡ seen List l) (same : (P : (B : Type 0) → ((F : Type 0 → Type 0) → F B → F Float) → Type 0) → P Float (λ F x. x) → P A seen) where
  pub seen_weighted : (w p : List A) → seen Weighted (record { weights = w; points = p }) ≡ record { weights = floats w; points = floats p }
  seen_weighted w p = rw (law w, law p) (same (λ B s. (w p : List B) → s Weighted (record { weights = w; points = p }) ≡ record { weights = s List w; points = s List p }) (λ w p. refl) w p)

  pub seen_sheet : (n : ℕ) (q : List A) (params : Params A) (kinds : List (Kind A)) → seen Sheet (record { n = n; q = q; params = params; kinds = kinds }) ≡ sheet n (floats q) (seen Params params) (seen (λ B. List (Kind B)) kinds)
  seen_sheet n q params kinds = rw (law q) (same (λ B s. (q : List B) (params : Params B) (kinds : List (Kind B)) → s Sheet (record { n = n; q = q; params = params; kinds = kinds }) ≡ sheet n (s List q) (s Params params) (s (λ C. List (Kind C)) kinds)) (λ q params kinds. refl) q params kinds)

  pub seen_kept : (at : ℕ) (asked : Bool) (m : ℕ) (images : List A) → seen Kept (record { at = at; asked = asked; m = m; images = images }) ≡ keeping at asked m (floats images)
  seen_kept at asked m images = rw (law images) (same (λ B s. (l : List B) → s Kept (record { at = at; asked = asked; m = m; images = l }) ≡ keeping at asked m (s List l)) (λ l. refl) images)

  pub seen_track : (x p weights points : List A) (stale : Bool) (stage : Stage) (dw dp : List A) (k : Kept A) → seen Track (record { x = x; p = p; weights = weights; points = points; stale = stale; stage = stage; drawn_weights = dw; drawn_points = dp; kept = k }) ≡ track (floats x) (floats p) (floats weights) (floats points) stale stage (floats dw) (floats dp) (seen Kept k)
  seen_track x p weights points stale stage dw dp k =
      rw (law x, law p, law weights, law points, law dw, law dp)
      (same (λ B s. (x p weights points dw dp : List B) (k : Kept B) → s Track (record { x = x; p = p; weights = weights; points = points; stale = stale; stage = stage; drawn_weights = dw; drawn_points = dp; kept = k }) ≡ track (s List x) (s List p) (s List weights) (s List points) stale stage (s List dw) (s List dp) (s Kept k)) (λ x p weights points dw dp k. refl) x p weights points dw dp k)

  -- ---- a field of a filter as it is seen

  pub x_seen : (s : Filter A) → floats s.track.x ≡ (seen Filter s).track.x
  x_seen s = law s.track.x ∙ same (λ B s. (a : Filter B) → s List a.track.x ≡ (s Filter a).track.x) (λ a. refl) s

  pub p_seen : (s : Filter A) → floats s.track.p ≡ (seen Filter s).track.p
  p_seen s = law s.track.p ∙ same (λ B s. (a : Filter B) → s List a.track.p ≡ (s Filter a).track.p) (λ a. refl) s

  pub q_seen : (s : Filter A) → floats s.sheet.q ≡ (seen Filter s).sheet.q
  q_seen s = law s.sheet.q ∙ same (λ B s. (a : Filter B) → s List a.sheet.q ≡ (s Filter a).sheet.q) (λ a. refl) s

  pub points_seen : (s : Filter A) → floats s.track.points ≡ (seen Filter s).track.points
  points_seen s = law s.track.points ∙ same (λ B s. (a : Filter B) → s List a.track.points ≡ (s Filter a).track.points) (λ a. refl) s

  pub weights_seen : (s : Filter A) → floats s.track.weights ≡ (seen Filter s).track.weights
  weights_seen s = law s.track.weights ∙ same (λ B s. (a : Filter B) → s List a.track.weights ≡ (s Filter a).track.weights) (λ a. refl) s

  pub drawn_points_seen : (s : Filter A) → floats s.track.drawn_points ≡ (seen Filter s).track.drawn_points
  drawn_points_seen s = law s.track.drawn_points ∙ same (λ B s. (a : Filter B) → s List a.track.drawn_points ≡ (s Filter a).track.drawn_points) (λ a. refl) s

  pub drawn_weights_seen : (s : Filter A) → floats s.track.drawn_weights ≡ (seen Filter s).track.drawn_weights
  drawn_weights_seen s = law s.track.drawn_weights ∙ same (λ B s. (a : Filter B) → s List a.track.drawn_weights ≡ (s Filter a).track.drawn_weights) (λ a. refl) s

  -- ---- a list put over another

  pub floats_front : (k : ℕ) (l d : List A) → floats (front k l d) ≡ front k (floats l) (floats d)
  floats_front k l d = rw (law l, law d) (law (front k l d) ∙ same (λ B s. (u v : List B) → s List (front k u v) ≡ front k (s List u) (s List v)) (λ u v. refl) l d)

-- ---- parameters at +0

module _ {A : Type 0} {float : A → Float} {seen : (F : Type 0 → Type 0) → F A → F Float} (law : (x : A) → float x ≡ seen (λ B. B) x) (same : (P : (B : Type 0) → ((F : Type 0 → Type 0) → F B → F Float) → Type 0) → P Float (λ F x. x) → P A seen) where
  pub no_params : {a b k o : A} → a ≡ o → b ≡ o → k ≡ o → float o ≡ plus_zero → seen Params (record { alpha = a; beta = b; kappa = k }) ≡ record { alpha = plus_zero; beta = plus_zero; kappa = plus_zero }
  no_params d e h z = rw (d, e, h) (seen_params law same _ ∙ rw z refl)
