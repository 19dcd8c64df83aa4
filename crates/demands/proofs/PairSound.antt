-- Each side of a pair that the demands speak of is a filter that they speak of: what is proved of filters holds of the sides. So every number handed out is finite. Assumes nothing.
use Prim.Native.Nat.{ℕ, ◌*◌}
use native.Mathlib.Omega.{arith}
use mathlib.Core.Path.{◌≡◌, refl, sym, ap, ap₂, subst}
use mathlib.Core.Bool.{Bool, true, false, cond}
use mathlib.Core.List.{List, [], ◌∷◌}
use mathlib.Core.Logic.{⊎_elim}
use lib.Dec.{leb}
use lib.ListN.{length, take}
use lib.Ieee.{Float, Format}
use Rattle.floats.specs.declared.Refusal.TheVariants.{Stage as STAGE}
use Rattle.floats.specs.Refusal.{taken, Outcome, refused, accepted, refusal, or}
use Rattle.floats.specs.Numbers.{plus_zero, all_finite}
use Rattle.floats.proofs.Refusals.{number_above}
use Rattle.sigma.specs.Weights.{Params}
use Rattle.filter.specs.Types.{Filter}
use Rattle.filter.specs.Asked.{by_params, in_range, fit, every}
use Rattle.filter.specs.Filters.{filter}
use Rattle.filter.specs.Calls.{Call, values_of}
use Rattle.filter.specs.Steps.{stepped, step}
use Rattle.filter.specs.New.{empty, answer_of, from, inputs_for, sheet_from, track_from, new_of, new_answer}
use Rattle.pairs.specs.declared.Pair.{Pair}
use Rattle.pairs.specs.declared.Side.{Side}
use Rattle.pairs.specs.declared.Side.TheVariants.{First, Second}
use Rattle.pairs.specs.Pairs.{track_at, solo, pair_step}
use Rattle.pairs.specs.NewPair.{empty_pair, new_pair_asks, new_pair_of, new_pair_answer}
use Rattle.demands.specs.Runs.{tells, Alike}
use Rattle.demands.specs.Sound.{Sound, Reached, made, further, Yielded, fresh_made, stepped_on, put_at_will, handed_out, Each, end, and}
use Rattle.demands.specs.PairRuns.{SideCall, on, pair_tells, pair_told, barred, reaches}
use Rattle.demands.specs.PairSound.{AtWill, PairReached, pair_new, pair_further, PairYielded, pair_made, pair_stepped, pair_at_will}
use Rattle.demands.proofs.Exactly.{or_refused}
use Rattle.demands.proofs.Passed.{by_cases}
use Rattle.demands.proofs.Places.{finite_searched}
use Rattle.demands.proofs.Arrays.{all_both, filled_all}
use Rattle.demands.proofs.Sound.{sound, tells_finite}
use Rattle.demands.proofs.PairSteps.{on_is, side_barred, reached, unreached}

module _ (f : Format) where
  -- ---- New

  -- the empty filter is what New gives for no states
  pub empty_new : empty ≡ (new_answer f 0 [] [] [] (record { alpha = plus_zero; beta = plus_zero; kappa = plus_zero })).filter
  unfolding new_of in_range
  empty_new = refl

  module _ (n : ℕ) (q : List Float) (params : Params) where
    -- a New that has passed
    new_made : (x p : List Float) → in_range 1 8 n ≡ true → leb n (length x) ≡ true → leb (n * n) (length p) ≡ true → leb (n * n) (length q) ≡ true
        → all_finite (take n x) ≡ true → all_finite (take (n * n) p) ≡ true → all_finite (take (n * n) q) ≡ true → all_finite (values_of params) ≡ true → every (fit f) (by_params n params ∷ []) ≡ true
        → new_of f n x p q params ≡ accepted (filter (sheet_from n q params) (track_from n (from x p)))
    unfolding new_of
    new_made x p s a b c i j k l m = let u = finite_searched (inputs_for n (from x p ∷ []) q params) (i, (j, (k, (l, tt)))) in rw (s, a, b, c, u, m)

    module _ (x₁ p₁ x₂ p₂ : List Float) where
      abbrev Sides : Outcome Pair → Type 0
      Sides (refused r) = Unit {0}
      Sides (accepted p) = (new_of f n x₁ p₁ q params ≡ accepted (solo p First)) × (new_of f n x₂ p₂ q params ≡ accepted (solo p Second))

      new_made_sides : Sides (new_pair_of f n x₁ p₁ x₂ p₂ q params)
      unfolding new_pair_of
      new_made_sides =
          by_cases Sides (λ r. tt) f (new_pair_asks n x₁ p₁ x₂ p₂ q params) _ (λ h.
          let second = h.inputs.1.1 in
          let sheet = second.1.1 in (
            new_made x₁ p₁ h.sizes.0 h.lent.0 h.lent.1.0 h.lent.1.1.1.1.0 h.inputs.0 h.inputs.1.0 sheet.0 sheet.1.0 h.params,
            new_made x₂ p₂ h.sizes.0 h.lent.1.1.0 h.lent.1.1.1.0 h.lent.1.1.1.1.0 second.0 second.1.0 sheet.0 sheet.1.0 h.params,
          ))

      -- EACH SIDE OF A NEW PAIR is what New makes of its own start; of a refused one, the empty filter
      pub new_sides : (new_pair_answer f n x₁ p₁ x₂ p₂ q params).refusal.number ≡ 0 → let p = (new_pair_answer f n x₁ p₁ x₂ p₂ q params).pair in
          (new_answer f n x₁ p₁ q params ≡ record { filter = solo p First; refusal = taken }) × (new_answer f n x₂ p₂ q params ≡ record { filter = solo p Second; refusal = taken })
      new_sides = go (new_pair_of f n x₁ p₁ x₂ p₂ q params) new_made_sides
        where
          go : (o : Outcome Pair) → Sides o → (refusal o).number ≡ 0 → (new_answer f n x₁ p₁ q params ≡ record { filter = solo (or empty_pair o) First; refusal = taken }) × (new_answer f n x₂ p₂ q params ≡ record { filter = solo (or empty_pair o) Second; refusal = taken })
          go (refused r) s e = absurd (omega (arith, number_above r))
          go (accepted p) s e = (ap answer_of s.0, ap answer_of s.1)

      pub new_empty : ((new_pair_answer f n x₁ p₁ x₂ p₂ q params).refusal.number ≡ 0 → ⊥) → (new_pair_answer f n x₁ p₁ x₂ p₂ q params).pair ≡ empty_pair
      new_empty = or_refused empty_pair (new_pair_of f n x₁ p₁ x₂ p₂ q params)

      -- so what holds of the empty filter and of what New gives for each start holds of each
      pub new_holds : (P : Filter → Type 0) → P empty → P (new_answer f n x₁ p₁ q params).filter → P (new_answer f n x₂ p₂ q params).filter → (w : Side) → P (solo (new_pair_answer f n x₁ p₁ x₂ p₂ q params).pair w)
      new_holds P e h₁ h₂ = go (new_pair_of f n x₁ p₁ x₂ p₂ q params) new_made_sides
        where
          go : (o : Outcome Pair) → Sides o → (w : Side) → P (solo (or empty_pair o) w)
          go (refused r) s First = e
          go (refused r) s Second = e
          go (accepted p) s First = subst P (ap (or empty) s.0) h₁
          go (accepted p) s Second = subst P (ap (or empty) s.1) h₂

  -- ---- EACH SIDE IS A FILTER THAT THE DEMANDS SPEAK OF

  -- what a solo call keeps, the call on a pair keeps of each side
  pub side_holds : (P : Filter → Type 0) (c : Call) → ((s : Filter) → P s → P (step f s c).filter) → (p : Pair) (v w : Side) → P (solo p w) → P (solo (pair_step f p v c).pair w)
  side_holds P c h p v w y = go (reaches v c w) refl
    where
      mine : (b : Bool) → P (cond b (stepped (solo p w) (refused STAGE)) (step f (solo p w) c)).filter
      mine true = y
      mine false = h (solo p w) y

      go : (r : Bool) → reaches v c w ≡ r → P (solo (pair_step f p v c).pair w)
      go true h = rw (reached f p v c w h, side_barred f p w c) (mine (barred p w c))
      go false h = rw (unreached f p v c w h) y

  -- what alike filters have, a side has with points, weights and scratch put at will
  pub will_hold : (P : Filter → Type 0) → ((s t : Filter) → P s → Alike s t → P t) → (p q : Pair) (w : Side) → P (solo p w) → p.sheet ≡ q.sheet → AtWill (track_at p w) (track_at q w) → P (solo q w)
  will_hold P h p q w y e = ⊎_elim (λ d. subst P (ap₂ filter e d) y) (λ a. h (solo p w) (solo q w) y (record { sheet = e; track = a }))

  pub side_yielded : {p : Pair} → PairYielded f p → (w : Side) → Yielded f (solo p w)
  side_yielded (pair_made n x₁ p₁ x₂ p₂ q params) w = new_holds n q params x₁ p₁ x₂ p₂ (Yielded f) (subst (Yielded f) (sym empty_new) (fresh_made 0 [] [] [] _)) (fresh_made n x₁ p₁ q params) (fresh_made n x₂ p₂ q params) w
  side_yielded (pair_stepped {p = p} y v c) w = side_holds (Yielded f) c (λ s z. stepped_on z c) p v w (side_yielded y w)
  side_yielded (pair_at_will {p = p} q y e a) w = will_hold (Yielded f) (λ s t z k. put_at_will t z k) p q w (side_yielded y w) e (a w)

  pub side_reached : {p : Pair} → PairReached f p → (w : Side) → Reached f (solo p w)
  side_reached (pair_new n x₁ p₁ x₂ p₂ q params) w = new_holds n q params x₁ p₁ x₂ p₂ (Reached f) (subst (Reached f) (sym empty_new) (made 0 [] [] [] _)) (made n x₁ p₁ q params) (made n x₂ p₂ q params) w
  side_reached (pair_further {p = p} y v c) w = side_holds (Reached f) c (λ s z. further z c) p v w (side_reached y w)

  -- ---- EVERY NUMBER HANDED OUT IS FINITE

  turned_finite : (s : Filter) → Sound f s → all_finite (handed_out (tells (stepped s (refused STAGE)))) ≡ true
  unfolding tells
  turned_finite s o = all_both s.track.x s.track.p (filled_all o.x) (filled_all o.p)

  side_finite : (p : Pair) (w : Side) (c : Call) → Sound f (solo p w) → all_finite (handed_out (tells (on w (pair_step f p w c)))) ≡ true
  side_finite p w c o = rw (on_is f p w c, side_barred f p w c) (go (barred p w c))
    where
      go : (b : Bool) → all_finite (handed_out (tells (cond b (stepped (solo p w) (refused STAGE)) (step f (solo p w) c)))) ≡ true
      go true = turned_finite (solo p w) o
      go false = tells_finite f (solo p w) c o

  pub pair_finite : (p : Pair) → PairYielded f p → (cs : List SideCall) → Each (λ t. all_finite (handed_out t.told) ≡ true) (pair_told f p cs)
  unfolding pair_told pair_tells
  pair_finite p y [] = end
  pair_finite p y (t ∷ ts) = and (side_finite p t.side t.call (sound f (side_yielded y t.side))) (pair_finite (pair_step f p t.side t.call).pair (pair_stepped y t.side t.call) ts)
