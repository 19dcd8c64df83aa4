-- One step of a pair, as the code of a call takes it: the solo call on its side, or a change of the sheet on both. Assumes nothing.
use Prim.Native.Nat.{ℕ}
use mathlib.Core.Path.{◌≡◌, refl, ap, ap₂, ◌∙◌}
use mathlib.Core.Bool.{Bool, true, false, ◌&&◌, cond}
use mathlib.Core.List.{List, []}
use borrow.Author.Tests.{eqb-true}
use lib.Dec.{eqb}
use lib.Ieee.{Float, Format}
use Rattle.floats.specs.Fronts.{over}
use Rattle.floats.specs.declared.Verdict.{Verdict}
use Rattle.floats.specs.declared.Refusal.{Refusal}
use Rattle.floats.specs.declared.Refusal.TheVariants.{Stage as STAGE}
use Rattle.floats.specs.Refusal.{verdict, Outcome, refused, accepted}
use Rattle.floats.proofs.Refusals.{number, named, by_number}
use Rattle.matrix.specs.Results.{finish, run}
use Rattle.filter.specs.Asked.{guarded}
use Rattle.filter.specs.Types.{Filter}
use Rattle.filter.specs.Types.{Answer}
use Rattle.filter.specs.Filters.{is_shut, seen, writes}
use Rattle.filter.specs.Calls.{SheetCall, Call, writing, sheet_needs, asking, Done, done, writing_of}
use Rattle.filter.specs.Types.{ParamsRead}
use Rattle.filter.specs.declared.StaleRead.{StaleRead}
use Rattle.filter.specs.Steps.{outcome, Reply, stepped, step, answered, params_read, stale_read}
use Rattle.pairs.specs.declared.Pair.{Pair}
use Rattle.pairs.specs.declared.PairAnswer.{PairAnswer}
use Rattle.pairs.specs.declared.Side.{Side}
use Rattle.pairs.specs.declared.Side.TheVariants.{First, Second}
use Rattle.pairs.specs.Pairs.{solo, on_sheet, leaves, pair_step, pair_answered, put, rewritten}

module _ (f : Format) (p : Pair) where
  -- ---- a call on one side

  by_outcome : (w : Side) (c : Call) (o : Outcome Done) → on_sheet c ≡ false → put p w (answered (stepped (solo p w) o)) ≡ record { pair = leaves c p w o; refusal = (stepped (solo p w) o).reply.refusal }
  by_outcome First c (refused r) h = refl
  by_outcome First c (accepted d) h = rw h
  by_outcome Second c (refused r) h = refl
  by_outcome Second c (accepted d) h = rw h

  on_own : (w : Side) (c : Call) → on_sheet c ≡ false → put p w (answered (step f (solo p w) c)) ≡ pair_answered (pair_step f p w c)
  unfolding step pair_step
  on_own w c h = by_outcome w c (outcome f (seen (solo p w)) c) h ∙ rw h

  pub own_call : (w : Side) (c : Call) {s : Filter} {a : Answer} {r : PairAnswer} → on_sheet c ≡ false → s ≡ solo p w → a ≡ answered (step f s c) → r ≡ put p w a → r ≡ pair_answered (pair_step f p w c)
  own_call w c h e d b = b ∙ ap (put p w) (d ∙ ap (λ (t : Filter). answered (step f t c)) e) ∙ on_own w c h

  own_reply : (w : Side) (c : Call) → on_sheet c ≡ false → (step f (solo p w) c).reply ≡ (pair_step f p w c).reply
  unfolding step pair_step
  own_reply w c h = rw h

  -- what is made of its reply, and a buffer b that its numbers or its bytes go to
  pub own_told : {A : Type 0} (g : Reply → A) (w : Side) (c : Call) {s : Filter} {r : A} → on_sheet c ≡ false → s ≡ solo p w → r ≡ g (step f s c).reply → r ≡ g (pair_step f p w c).reply
  own_told g w c h e d = d ∙ ap (λ (t : Filter). g (step f t c).reply) e ∙ ap g (own_reply w c h)

  pub own_refusal : (w : Side) (c : Call) {s : Filter} {r : Verdict} → on_sheet c ≡ false → s ≡ solo p w → r ≡ (step f s c).reply.refusal → r ≡ (pair_step f p w c).reply.refusal
  own_refusal = own_told (λ (r : Reply). r.refusal)

  pub own_params : (w : Side) (c : Call) {s : Filter} {r : ParamsRead} → on_sheet c ≡ false → s ≡ solo p w → r ≡ params_read (step f s c).reply → r ≡ params_read (pair_step f p w c).reply
  own_params = own_told params_read

  pub own_stale : (w : Side) (c : Call) {s : Filter} {r : StaleRead} → on_sheet c ≡ false → s ≡ solo p w → r ≡ stale_read (step f s c).reply → r ≡ stale_read (pair_step f p w c).reply
  own_stale = own_told stale_read

  own_lent : {A : Type 0} (g : Reply → List A) (w : Side) (c : Call) (b : List A) {s : Filter} {b' : List A} → on_sheet c ≡ false → s ≡ solo p w → b' ≡ over (g (step f s c).reply) b → b' ≡ over (g (pair_step f p w c).reply) b
  own_lent g w c b h e d = own_told (λ (r : Reply). over (g r) b) w c h e d

  pub own_given : (w : Side) (c : Call) (b : List Float) {s : Filter} {b' : List Float} → on_sheet c ≡ false → s ≡ solo p w → b' ≡ over (step f s c).reply.given b → b' ≡ over (pair_step f p w c).reply.given b
  own_given = own_lent (λ (r : Reply). r.given)

  pub own_bytes : (w : Side) (c : Call) (b : List ℕ) {s : Filter} {b' : List ℕ} → on_sheet c ≡ false → s ≡ solo p w → b' ≡ over (step f s c).reply.bytes b → b' ≡ over (pair_step f p w c).reply.bytes b
  own_bytes = own_lent (λ (r : Reply). r.bytes)

  -- ---- a change of the sheet

  abbrev kept : Verdict → PairAnswer
  kept k = record { pair = p; refusal = k }

  -- by what it comes to on each side
  abbrev on_both : Outcome Done → Outcome Done → PairAnswer
  on_both a b = rewritten p (answered (stepped (solo p First) a)) (answered (stepped (solo p Second) b))

  abbrev through : SheetCall → Side → Outcome Done → PairAnswer
  through c w o = record { pair = leaves (writing c) p w o; refusal = (stepped (solo p w) o).reply.refusal }

  -- 3 from the second
  second_open : (a : Outcome Done) → on_both a (refused STAGE) ≡ kept (verdict STAGE)
  unfolding named
  second_open (accepted d) = refl
  second_open (refused r) = go (eqb (number r) 3) (eqb-true _ _)
    where
      go : (t : Bool) → (t ≡ true → number r ≡ 3) → cond t (kept (verdict r)) (kept (verdict STAGE)) ≡ kept (verdict STAGE)
      go true h = ap (λ (q : Refusal). kept (verdict q)) (by_number r (h refl))
      go false h = refl

  -- one outcome of both
  both_refused : (r : Refusal) → on_both (refused r) (refused r) ≡ kept (verdict r)
  both_refused r = go (eqb (number r) 3) (eqb (number r) 0) (eqb-true _ _)
    where
      go : (s t : Bool) → (t ≡ true → number r ≡ 0) → cond s (kept (verdict r)) (record { pair = cond t p p; refusal = verdict r }) ≡ kept (verdict r)
      go true t k = refl
      go false true k = refl
      go false false k = refl

  both_come : (c : SheetCall) (w : Side) (o : Outcome Done) → on_both o o ≡ through c w o
  both_come c w (refused r) = both_refused r
  both_come c First (accepted d) = refl
  both_come c Second (accepted d) = refl

  -- by whether it fits: on each side alone, and on the pair, the rest is the same
  abbrev fitting : SheetCall → Bool → Outcome Done
  fitting c b = guarded f (asking b p.sheet.n (sheet_needs p.sheet c)) (run (finish (done (writes (writing_of p.sheet c)) [])))

  sheet_answer : (c : SheetCall) (w : Side) → rewritten p (answered (step f (solo p First) (writing c))) (answered (step f (solo p Second) (writing c))) ≡ pair_answered (pair_step f p w (writing c))
  unfolding step pair_step guarded
  sheet_answer c w = go (is_shut p.first.stage) (is_shut p.second.stage)
    where
      go : (x y : Bool) → on_both (fitting c x) (fitting c y) ≡ through c w (fitting c (x && y))
      go true true = both_come c w (fitting c true)
      go true false = second_open (fitting c true)
      go false y = refl

  pub sheet_call : (c : SheetCall) {s t : Filter} {a b : Answer} {r : PairAnswer} → s ≡ solo p First → t ≡ solo p Second → a ≡ answered (step f s (writing c)) → b ≡ answered (step f t (writing c)) → r ≡ rewritten p a b
      → (w : Side) → r ≡ pair_answered (pair_step f p w (writing c))
  sheet_call c ds dt da db e w =
      e ∙ ap₂ (rewritten p) (da ∙ ap (λ (u : Filter). answered (step f u (writing c))) ds) (db ∙ ap (λ (u : Filter). answered (step f u (writing c))) dt) ∙ sheet_answer c w
