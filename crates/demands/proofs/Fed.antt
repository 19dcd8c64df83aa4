-- The numbers of a filter stay an f64's: New makes them so, load does, and every call that is lent an f64's numbers keeps them so. Those of a side of a pair too. Assumes nothing.
use Prim.Native.Nat.{ℕ, zero, suc, ◌*◌}
use mathlib.Core.Path.{◌≡◌, refl, sym, ap, ap₂, subst}
use mathlib.Core.Bool.{Bool, true, ◌&&◌}
use mathlib.Core.List.{List, [], ◌∷◌}
use mathlib.Core.Logic.{⊎_elim}
use native.Mathlib.Omega.{arith}
use lib.ListN.{take, drop, set}
use lib.Ieee.{Float, binary64, fits, add, sub}
use lib.Ieee.Bits.{is_true}
use lib.Ieee.Fits.{add-fits, sub-fits}
use Rattle.floats.specs.Refusal.{or}
use Rattle.floats.specs.Numbers.{zeros}
use Rattle.floats.specs.Fronts.{front}
use Rattle.floats.proofs.Refusals.{number_above, number_of}
use Rattle.pieces.specs.Bytes.{kind_fits}
use Rattle.matrix.specs.Folds.{places_of}
use Rattle.correction.specs.Correct.{Head}
use Rattle.sigma.specs.Weights.{Params}
use Rattle.filter.specs.Types.{Filter}
use Rattle.filter.specs.Asked.{every}
use Rattle.filter.specs.Filters.{x_set, p_set, closed_with}
use Rattle.filter.specs.Calls.{Call, writing, setting, stepping, closing, closing_stepped, abandon, reading, set_q, set_params, set_kind, SetCall, set_x, set_p, open_prediction, open_correction, open_prediction_stepped, open_correction_stepped, close_prediction, close_correction, close_correction_flat, close_prediction_stepped, close_correction_stepped, close_correction_flat_stepped, values_of, weighted_from, flat_from}
use Rattle.filter.specs.Steps.{step}
use Rattle.filter.specs.New.{empty, from, new_asks, new_of, new_answer}
use Rattle.filter.proofs.Sizes.{and_left, and_right}
use Rattle.filter.proofs.Closing.{predicting}
use Rattle.pairs.specs.declared.Pair.{Pair}
use Rattle.pairs.specs.declared.Side.{Side}
use Rattle.pairs.specs.Pairs.{solo}
use Rattle.demands.specs.Listed.{state, covariance}
use Rattle.demands.specs.Sound.{Yielded, fresh_made, loaded, stepped_on, put_at_will}
use Rattle.demands.specs.Settings.{Unmarking}
use Rattle.demands.specs.PairSound.{PairYielded, pair_made, pair_stepped, pair_at_will}
use Rattle.demands.specs.Records.{Fit, FitKinds, Storable, FitCall, Fed, fed_new, fed_load, fed_call, fed_at_will, PairFed, pair_fed_new, pair_fed_call, pair_fed_at_will}
use Rattle.demands.proofs.Passed.{by_cases, made}
use Rattle.demands.proofs.Exactly.{ends_so, refused_nothing}
use Rattle.demands.proofs.Leftover.{step_cases}
use Rattle.demands.proofs.Sound.{load_cases}
use Rattle.demands.proofs.Accepted.{prediction_closed, correction_closed, flat_correction_closed, stepped_closed, writing_taken, setting_taken}
use Rattle.demands.proofs.SincePredicted.{taken_bare}
use Rattle.demands.proofs.PairSound.{empty_new, new_holds, side_holds, will_hold}
use Rattle.demands.proofs.Restored.{every_front, every_back, every_both, zeros_fit, read_storable}

-- ---- lists

every_set : {A : Type 0} (t : A → Bool) (l : List A) (i : ℕ) (a : A) → every t l ≡ true → t a ≡ true → every t (set l i a) ≡ true
every_set t [] i a h k = h
every_set t (b ∷ l) zero a h k = ap₂ (λ (x y : Bool). x && y) k (and_right (t b) _ h)
every_set t (b ∷ l) (suc i) a h k = ap₂ (λ (x y : Bool). x && y) (and_left (t b) (every t l) h) (every_set t l i a (and_right (t b) _ h) k)

fit_places : (e : ℕ → Float) → ((i : ℕ) → fits binary64 (e i) ≡ true) → (k : ℕ) (l : List Float) → Fit l → Fit (places_of e k l)
unfolding places_of
fit_places e h zero l g = g
fit_places e h (suc k) l g = every_set (fits binary64) (places_of e k l) k (e k) (fit_places e h k l g) (h k)

fit_front : (k : ℕ) (v : List Float) (m : ℕ) → Fit v → Fit (front k v (zeros m))
unfolding front
fit_front k v m h = every_both (fits binary64) (take k v) (drop k (zeros m)) (every_front (fits binary64) k v h) (every_back (fits binary64) k (zeros m) (zeros_fit m))

added : (x y : Float) → fits binary64 (add binary64 x y) ≡ true
added x y = is_true (fits binary64 (add binary64 x y)) (add-fits binary64 x y)

subtracted : (x y : Float) → fits binary64 (sub binary64 x y) ≡ true
subtracted x y = is_true (fits binary64 (sub binary64 x y)) (sub-fits binary64 x y)

-- ---- the same sheet, state and covariance; and the same sheet

same_storable : (s t : Filter) → s.sheet ≡ t.sheet → s.track.x ≡ t.track.x → s.track.p ≡ t.track.p → Storable s → Storable t
same_storable s t e h k g = record { x = subst Fit h g.x; p = subst Fit k g.p; q = subst (λ u. Fit u.q) e g.q; params = subst (λ u. Fit (values_of u.params)) e g.params; kinds = subst (λ u. FitKinds u.kinds) e g.kinds }

closed_storable : (s : Filter) → Storable s → (v : List Float) (m : Bool) {x p : List Float} → Fit x → Fit p → Storable (closed_with s v m x p)
closed_storable s g v m h k = record { x = h; p = k; q = g.q; params = g.params; kinds = g.kinds }

-- ---- a call

module _ (s : Filter) (g : Storable s) where
  abbrev After : Call → Type 0
  After c = Storable (step binary64 s c).filter

  corrected : (h : Head) → Fit (state binary64 h) × Fit (covariance binary64 h)
  corrected h = (fit_places _ (λ i. added _ _) h.n (zeros 8) (zeros_fit 8), fit_places _ (λ i. subtracted _ _) (h.n * h.n) (zeros 64) (zeros_fit 64))

  predicted : (v : List Float) → let m = made (predicting binary64 s v) in Fit m.x × Fit m.p
  predicted v = (fit_places _ (λ i. added _ _) s.sheet.n (zeros 8) (zeros_fit 8), fit_places _ (λ i. added _ _) (s.sheet.n * s.sheet.n) (zeros 64) (zeros_fit 64))

  -- one that leaves x, P, the parameters and kinds, and isn't one of the sheet
  kept : (c : Call) → Unmarking c → (step binary64 s c).reply.refusal.number ≡ 0 → (step binary64 s c).filter.sheet ≡ s.sheet → After c
  kept c u z e = let b = taken_bare binary64 s c u z in same_storable s _ (sym e) (ap (λ (t : Filter). t.track.x) b) (ap (λ (t : Filter). t.track.p) b) g

  sheet_left : (c : SetCall) → (step binary64 s (setting c)).filter.sheet ≡ s.sheet
  sheet_left c = step_cases binary64 s (setting c) (λ t. t.sheet ≡ s.sheet) refl (λ d o h n. rw o.1)

  taken : (c : Call) → FitCall c → (step binary64 s c).reply.refusal.number ≡ 0 → After c
  taken (writing (set_q v)) h z = subst Storable (sym (writing_taken binary64 s (set_q v) z)) (record { x = g.x; p = g.p; q = fit_front _ v 64 h; params = g.params; kinds = g.kinds })
  taken (writing (set_params p)) h z = subst Storable (sym (writing_taken binary64 s (set_params p) z)) (record { x = g.x; p = g.p; q = g.q; params = h; kinds = g.kinds })
  taken (writing (set_kind i k)) h z = subst Storable (sym (writing_taken binary64 s (set_kind i k) z)) (record { x = g.x; p = g.p; q = g.q; params = g.params; kinds = every_set kind_fits s.sheet.kinds i k g.kinds h })
  taken (setting (set_x v)) h z = subst Storable (sym (setting_taken binary64 s (set_x v) (x_set (front s.sheet.n v (zeros 8))) refl z)) (record { x = fit_front _ v 8 h; p = g.p; q = g.q; params = g.params; kinds = g.kinds })
  taken (setting (set_p v)) h z = subst Storable (sym (setting_taken binary64 s (set_p v) (p_set (front (s.sheet.n * s.sheet.n) v (zeros 64))) refl z)) (record { x = g.x; p = fit_front _ v 64 h; q = g.q; params = g.params; kinds = g.kinds })
  taken (setting (open_prediction b)) h z = kept (setting (open_prediction b)) refl z (sheet_left (open_prediction b))
  taken (setting (open_correction b)) h z = kept (setting (open_correction b)) refl z (sheet_left (open_correction b))
  taken (setting open_prediction_stepped) h z = kept (setting open_prediction_stepped) refl z (sheet_left open_prediction_stepped)
  taken (setting open_correction_stepped) h z = kept (setting open_correction_stepped) refl z (sheet_left open_correction_stepped)
  taken (stepping c) h z = kept (stepping c) tt z (step_cases binary64 s (stepping c) (λ t. t.sheet ≡ s.sheet) refl (λ d o k n. rw o.1))
  taken (closing (close_prediction v)) h z = let f = predicted v in subst Storable (sym (prediction_closed binary64 s v z)) (closed_storable s g _ _ f.0 f.1)
  taken (closing (close_correction m w r kinds observed)) h z = let f = corrected (weighted_from binary64 s m w r kinds observed) in subst Storable (sym (correction_closed binary64 s m w r kinds observed z)) (closed_storable s g _ _ f.0 f.1)
  taken (closing (close_correction_flat m w r observed)) h z = let f = corrected (flat_from binary64 s m w r observed) in subst Storable (sym (flat_correction_closed binary64 s m w r observed z)) (closed_storable s g _ _ f.0 f.1)
  taken (closing_stepped close_prediction_stepped) h z = let f = predicted s.track.kept.images in subst Storable (sym (stepped_closed binary64 s close_prediction_stepped z)) (closed_storable s g _ _ f.0 f.1)
  taken (closing_stepped (close_correction_stepped m w r kinds)) h z = let f = corrected (weighted_from binary64 s m w r kinds s.track.kept.images) in subst Storable (sym (stepped_closed binary64 s (close_correction_stepped m w r kinds) z)) (closed_storable s g _ _ f.0 f.1)
  taken (closing_stepped (close_correction_flat_stepped m w r)) h z = let f = corrected (flat_from binary64 s m w r s.track.kept.images) in subst Storable (sym (stepped_closed binary64 s (close_correction_flat_stepped m w r) z)) (closed_storable s g _ _ f.0 f.1)
  taken abandon h z = kept abandon tt z (step_cases binary64 s abandon (λ t. t.sheet ≡ s.sheet) refl (λ d o k n. rw o))
  taken (reading c) h z = kept (reading c) tt z (step_cases binary64 s (reading c) (λ t. t.sheet ≡ s.sheet) refl (λ d o k n. rw o))

  step_storable : (c : Call) → FitCall c → After c
  step_storable c h = ⊎_elim (λ e. taken c h (number_of e)) (λ q. subst Storable (sym (refused_nothing binary64 s c (λ z. absurd (omega (arith, number_above q.0, number_of q.1, z)))).0) g) (ends_so binary64 s c)

-- ---- New, load, and all that follows

empty_storable : Storable empty
unfolding fits
empty_storable = record { x = zeros_fit 8; p = zeros_fit 64; q = zeros_fit 64; params = refl; kinds = refl }

new_storable : (n : ℕ) (x p q : List Float) (params : Params) → Fit x → Fit p → Fit q → Fit (values_of params) → Storable (new_answer binary64 n x p q params).filter
unfolding new_of
new_storable n x p q params hx hp hq hv =
    by_cases (λ o. Storable (or empty o)) (λ r. empty_storable) binary64 (new_asks n (from x p ∷ []) q params) _ (λ h. record { x = fit_front n x 8 hx; p = fit_front (n * n) p 64 hp; q = fit_front (n * n) q 64 hq; params = hv; kinds = refl })

pub fed_storable : {s : Filter} → Fed s → Storable s
fed_storable (fed_new n x p q params hx hp hq hv) = new_storable n x p q params hx hp hq hv
fed_storable (fed_load b) = load_cases binary64 b Storable empty_storable (λ h. read_storable b)
fed_storable (fed_call {s = s} y c h) = step_storable s (fed_storable y) c h
fed_storable (fed_at_will {s = s} t y a) = same_storable s t a.sheet a.track.x a.track.p (fed_storable y)

pub fed_yielded : {s : Filter} → Fed s → Yielded binary64 s
fed_yielded (fed_new n x p q params hx hp hq hv) = fresh_made n x p q params
fed_yielded (fed_load b) = loaded b
fed_yielded (fed_call y c h) = stepped_on (fed_yielded y) c
fed_yielded (fed_at_will t y a) = put_at_will t (fed_yielded y) a

-- ---- a side of a pair

empty_fed : Fed empty
unfolding fits
empty_fed = subst Fed (sym (empty_new binary64)) (fed_new 0 [] [] [] _ refl refl refl refl)

pub side_fed : {p : Pair} → PairFed p → (w : Side) → Fed (solo p w)
side_fed (pair_fed_new n x₁ p₁ x₂ p₂ q params h₁ k₁ h₂ k₂ g v) w = new_holds binary64 n q params x₁ p₁ x₂ p₂ Fed empty_fed (fed_new n x₁ p₁ q params h₁ k₁ g v) (fed_new n x₂ p₂ q params h₂ k₂ g v) w
side_fed (pair_fed_call {p = p} y v c h) w = side_holds binary64 Fed c (λ s z. fed_call z c h) p v w (side_fed y w)
side_fed (pair_fed_at_will {p = p} q y e a) w = will_hold binary64 Fed (λ s t z k. fed_at_will t z k) p q w (side_fed y w) e (a w)

pub pair_fed_yielded : {p : Pair} → PairFed p → PairYielded binary64 p
pair_fed_yielded (pair_fed_new n x₁ p₁ x₂ p₂ q params h₁ k₁ h₂ k₂ g v) = pair_made n x₁ p₁ x₂ p₂ q params
pair_fed_yielded (pair_fed_call y w c h) = pair_stepped (pair_fed_yielded y) w c
pair_fed_yielded (pair_fed_at_will q y e a) = pair_at_will q (pair_fed_yielded y) e a
