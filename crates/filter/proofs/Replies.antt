-- Readings over `Number`, as the code takes them: their tests, the buffer that is written, and what a reading of one part of a filter replies by its field. Assumes nothing.
use Prim.Native.Nat.{ℕ, ◌≤◌, ◌*◌}
use mathlib.Core.Path.{◌≡◌, refl, sym, ap, ap₂, ◌∙◌}
use mathlib.Core.Bool.{Bool, true, false, ◌&&◌, cond}
use mathlib.Core.List.{List, []}
use lib.Dec.{leb}
use lib.ListN.{length, take}
use lib.Ieee.{Float, Format}
use Rattle.floats.specs.declared.Verdict.{Verdict}
use Rattle.floats.specs.Refusal.{Outcome, accepted, refusal, or, nothing}
use Rattle.floats.specs.Fronts.{front, over}
use Rattle.floats.proofs.Refusals.{number_of}
use Rattle.floats.proofs.Fronts.{front_over}
use Rattle.sigma.specs.Draw.{point_numbers}
use Rattle.sigma.specs.declared.Params.{Params}
use Rattle.filter.specs.declared.Filter.{Filter}
use Rattle.filter.specs.Asked.{Asks, in_range, in_order, guarded, first_refusal}
use Rattle.filter.specs.Calls.{Call, reading, read_x, read_p, read_q, read_points, read_params, read_stale, lend, line, observed_numbers}
use Rattle.filter.specs.Steps.{Stepped, step, params_read, stale_read}
use Rattle.filter.specs.New.{empty_params}
use Rattle.filter.proofs.Seen.{states_seen, stale_seen, x_seen, p_seen, q_seen, points_seen}
use Rattle.filter.proofs.Sizes.{and_true, within_8, within_both}
use Rattle.filter.proofs.Order.{none, tested_early, passed, goes_on, refuses}
use Rattle.filter.proofs.Lines.{sized_le, long_le}
use Rattle.filter.proofs.Taken.{Told, refused_before, told_taken, finished, has_read}

-- ---- `read`: the first k of v into b, stopped where they are stale

module _ (f : Format) (n k : ℕ) (stale : Bool) (v b : List Float) where
  abbrev pub asked : Asks
  asked = line true n [] (lend b k) stale [] []

  abbrev pub held : List Float
  held = over (or [] (guarded f asked (accepted (take k v)))) b

  pub tests : {r : Verdict} {sized long' : Bool} → sized ≡ in_range 1 8 n → long' ≡ leb k (length b) → r ≡ refusal (in_order true sized long' true stale false nothing true true nothing) → r ≡ first_refusal f asked
  tests e h d = tested_early f asked nothing d refl (e ∙ sym (and_true _)) (λ z. h ∙ sym (and_true _)) refl refl refl (λ z. none) refl (λ z. refl)

  module _ {r : Verdict} (told : r ≡ first_refusal f asked) where
    pub room : r.number ≡ 0 → (n ≤ 8) × (k ≤ length b)
    room z = let p = passed f asked (sym (number_of told) ∙ z) in (sized_le f p, long_le f p)

    pub written : r.number ≡ 0 → k ≤ length v → front k v b ≡ held
    written z h = front_over k v b h ∙ sym (ap (λ (o : Outcome (List Float)). over (or [] o) b) (goes_on f asked (accepted (take k v)) (sym (number_of told) ∙ z)))

    pub left : (r.number ≡ 0 → ⊥) → b ≡ held
    left h = sym (ap (λ (o : Outcome (List Float)). over (or [] o) b) (refuses f asked (accepted (take k v)) (λ z. h (number_of told ∙ z))).1)

-- what `read` has told and written, by n, how many numbers, stale, the numbers and the buffer; and what a step replies
abbrev pub Reads : Format → ℕ → ℕ → Bool → List Float → List Float → Verdict → List Float → Type 0
Reads f n k stale v b r b' = (r ≡ first_refusal f (asked f n k stale v b)) × (b' ≡ held f n k stale v b)

abbrev pub Replies : Format → Filter Float → Call → List Float → Verdict → List Float → Type 0
Replies f s c b r b' = (r ≡ (step f s c).reply.refusal) × (b' ≡ over (step f s c).reply.given b)

-- the same told by equal parts
alike : (f : Format) {n n' : ℕ} (k : ℕ) {t t' : Bool} {v v' : List Float} (b : List Float) {r : Verdict} {b' : List Float} → n ≡ n' → t ≡ t' → v ≡ v' → Reads f n k t v b r b' → Reads f n' k t' v' b r b'
alike f k b d e h p = rw (d, e, h) at p

-- ---- of a filter: each list by its field

module _ {A : Type 0} {floats : List A → List Float} {seen : (F : Type 0 → Type 0) → F A → F Float} (law : (l : List A) → floats l ≡ seen List l) (same : (P : (B : Type 0) → ((F : Type 0 → Type 0) → F B → F Float) → Type 0) → P Float (λ F x. x) → P A seen) (f : Format) (self : Filter A) where
  abbrev it : Filter Float
  it = seen Filter self

  states : self.sheet.n ≡ it.sheet.n
  states = sym (states_seen same self)

  squared : {j : ℕ} → j ≡ cond (leb self.sheet.n 8) (self.sheet.n * self.sheet.n) 0 → it.sheet.n ≤ 8 → j ≡ it.sheet.n * it.sheet.n
  squared e h = e ∙ ap (λ (m : ℕ). cond (leb m 8) (m * m) 0) states ∙ within_8 _ _ h

  module _ (b : List Float) {r : Verdict} {b' : List Float} where
    pub reads_x : Reads f self.sheet.n self.sheet.n false (floats self.track.x) b r b' → Replies f (seen Filter self) (reading (read_x b)) b r b'
    reads_x d = has_read f it (reading (read_x b)) it.sheet.n false b it.track.x it.track.x refl refl (λ z. refl) (λ h. states) (alike f self.sheet.n b states refl (x_seen law same self) d)

    pub reads_p : {j : ℕ} → j ≡ cond (leb self.sheet.n 8) (self.sheet.n * self.sheet.n) 0 → Reads f self.sheet.n j false (floats self.track.p) b r b' → Replies f (seen Filter self) (reading (read_p b)) b r b'
    reads_p {j} e d = has_read f it (reading (read_p b)) (it.sheet.n * it.sheet.n) false b it.track.p it.track.p refl refl (λ z. refl) (λ h. squared e h) (alike f j b states refl (p_seen law same self) d)

    pub reads_q : {j : ℕ} → j ≡ cond (leb self.sheet.n 8) (self.sheet.n * self.sheet.n) 0 → Reads f self.sheet.n j false (floats self.sheet.q) b r b' → Replies f (seen Filter self) (reading (read_q b)) b r b'
    reads_q {j} e d = has_read f it (reading (read_q b)) (it.sheet.n * it.sheet.n) false b it.sheet.q it.sheet.q refl refl (λ z. refl) (λ h. squared e h) (alike f j b states refl (q_seen law same self) d)

    pub reads_points : {j : ℕ} → j ≡ cond (leb self.sheet.n 8 && leb self.sheet.n 8) (observed_numbers self.sheet.n self.sheet.n) 0 → Reads f self.sheet.n j self.track.stale (floats self.track.points) b r b' → Replies f (seen Filter self) (reading (read_points b)) b r b'
    reads_points {j} e d =
        has_read f it (reading (read_points b)) (point_numbers it.sheet.n) it.track.stale b it.track.points (cond it.track.stale [] it.track.points) refl refl (λ z. rw z)
        (λ h. e ∙ ap (λ (m : ℕ). cond (leb m 8 && leb m 8) (observed_numbers m m) 0) states ∙ within_both _ _ _ h h)
        (alike f j b states (sym (stale_seen same self)) (points_seen law same self) d)

-- ---- the parameters and the stale mark

module _ {A : Type 0} {seen : (F : Type 0 → Type 0) → F A → F Float} (same : (P : (B : Type 0) → ((F : Type 0 → Type 0) → F B → F Float) → Type 0) → P Float (λ F x. x) → P A seen) (f : Format) (self : Filter A) {r : Verdict} {sized : Bool} (e : sized ≡ in_range 1 8 self.sheet.n) (d : r ≡ refusal (in_order true sized true true false false nothing true true nothing)) where
  sized_so : sized ≡ (in_range 1 8 (seen Filter self).sheet.n && true)
  sized_so = e ∙ ap (in_range 1 8) (sym (states_seen same self)) ∙ sym (and_true _)

  params_seen : seen Params self.sheet.params ≡ (seen Filter self).sheet.params
  params_seen = same (λ B s. (a : Filter B) → s Params a.sheet.params ≡ (s Filter a).sheet.params) (λ a. refl) self

  abbrev params_told : Told f (seen Filter self) (reading read_params)
  params_told = record { told = r; is = tested_early f _ nothing d refl sized_so (λ h. refl) refl refl refl (λ h. none) refl (λ h. refl) }

  abbrev stale_told : Told f (seen Filter self) (reading read_stale)
  stale_told = record { told = r; is = tested_early f _ nothing d refl sized_so (λ h. refl) refl refl refl (λ h. none) refl (λ h. refl) }

  pub params_refused : (r.number ≡ 0 → ⊥) → record { refusal = r; params = empty_params } ≡ params_read (step f (seen Filter self) (reading read_params)).reply
  params_refused h = ap (λ (t : Stepped). params_read t.reply) (sym (refused_before params_told h))

  pub params_given : r.number ≡ 0 → record { refusal = r; params = seen Params self.sheet.params } ≡ params_read (step f (seen Filter self) (reading read_params)).reply
  params_given z =
      ap₂ (λ (v : Verdict) (p : Params Float). record { refusal = v; params = p }) (told_taken params_told z) params_seen
      ∙ ap (λ (t : Stepped). params_read t.reply) (sym (finished params_told z refl))

  pub stale_refused : (r.number ≡ 0 → ⊥) → record { refusal = r; stale = true } ≡ stale_read (step f (seen Filter self) (reading read_stale)).reply
  stale_refused h = ap (λ (t : Stepped). stale_read t.reply) (sym (refused_before stale_told h))

  pub stale_given : r.number ≡ 0 → record { refusal = r; stale = self.track.stale } ≡ stale_read (step f (seen Filter self) (reading read_stale)).reply
  stale_given z =
      ap₂ (λ (v : Verdict) (t : Bool). record { refusal = v; stale = t }) (told_taken stale_told z) (sym (stale_seen same self))
      ∙ ap (λ (t : Stepped). stale_read t.reply) (sym (finished stale_told z refl))
