-- What one side can notice of the other: over any run a side tells what a filter alone tells of what the side hears. Assumes nothing.
use Prim.Native.Nat.{ℕ, zero, suc}
use native.Mathlib.Omega.{arith}
use mathlib.Core.Path.{◌≡◌, refl, sym, ap, ap₂, ◌∙◌}
use mathlib.Core.Bool.{Bool, true, false, cond}
use mathlib.Core.List.{List, [], ◌∷◌, ◌++◌, map}
use lib.Ieee.{Format}
use Rattle.floats.specs.declared.Refusal.TheVariants.{Stage as STAGE}
use Rattle.floats.specs.Refusal.{refused}
use Rattle.filter.specs.Types.{Filter}
use Rattle.filter.specs.Calls.{Call, writing, setting, stepping, closing, closing_stepped, abandon, reading}
use Rattle.filter.specs.Steps.{Reply, Stepped, stepped, step}
use Rattle.pairs.specs.declared.Pair.{Pair}
use Rattle.pairs.specs.declared.Side.{Side}
use Rattle.pairs.specs.declared.Side.TheVariants.{First, Second}
use Rattle.pairs.specs.Pairs.{solo, on_sheet, pair_step}
use Rattle.demands.specs.Runs.{Told, tells, told}
use Rattle.demands.specs.PairRuns.{same, SideCall, on, pair_tells, pair_told, of_side, Heard, own, turned_away, barred, from_partner, hears, alone_told}
use Rattle.demands.proofs.Rows.{two_ways}
use Rattle.demands.proofs.PairSteps.{on_is, side_barred, replies_agree, reply_is, reached, unreached, refused_whole, taken_solo}

abbrev number : Reply → ℕ
number r = r.refusal.number

module _ (f : Format) where
  -- ---- what the partner's call leaves: nothing has changed, but where it is a sheet change that is taken

  module _ (p : Pair) (v w : Side) (c : Call) (e : same v w ≡ false) where
    left : (on_sheet c ≡ true → (pair_step f p v c).reply.refusal.number ≡ 0 → ⊥) → solo (pair_step f p v c).pair w ≡ solo p w
    left n = go (on_sheet c) refl
      where
        go : (b : Bool) → on_sheet c ≡ b → solo (pair_step f p v c).pair w ≡ solo p w
        go true h = ap (λ (q : Pair). solo q w) (refused_whole f p v c (n h))
        go false h = unreached f p v c w (rw (e, h))

    made : on_sheet c ≡ true → (pair_step f p v c).reply.refusal.number ≡ 0 → solo (pair_step f p v c).pair w ≡ (step f (solo p w) c).filter
    made h z = reached f p v c w (rw (e, h)) ∙ ap (λ (t : Stepped). t.filter) (taken_solo f p w c (ap number (sym (replies_agree f p v w c h) ∙ sym (reply_is f p v c)) ∙ z))

  -- ---- NOTICE

  -- at a call of its own
  at_own : (s : Filter) (c : Call) (b : Bool) (t : Stepped) → t ≡ cond b (stepped s (refused STAGE)) (step f s c) → (hs : List Heard) (ts : List Told) → ts ≡ alone_told f t.filter hs
      → tells t ∷ ts ≡ alone_told f s (cond b turned_away (own c) ∷ hs)
  unfolding alone_told
  at_own s c true t e hs ts i = ap₂ ◌∷◌ (ap tells e) (i ∙ ap (λ (u : Stepped). alone_told f u.filter hs) e)
  at_own s c false t e hs ts i = ap₂ ◌∷◌ (ap tells e) (i ∙ ap (λ (u : Stepped). alone_told f u.filter hs) e)

  -- at a call of the partner, by the filter u that it leaves
  at_partner : (s u : Filter) (c : Call) (r : ℕ) → ((on_sheet c ≡ true → r ≡ 0 → ⊥) → u ≡ s) → (on_sheet c ≡ true → r ≡ 0 → u ≡ (step f s c).filter) → (hs : List Heard)
      → alone_told f u hs ≡ alone_told f s (from_partner c r ++ hs)
  unfolding alone_told
  at_partner s u (writing c) zero l m hs = ap (λ (t : Filter). alone_told f t hs) (m refl refl)
  at_partner s u (writing c) (suc r) l m hs = ap (λ (t : Filter). alone_told f t hs) (l (λ a b. omega arith))
  at_partner s u (setting c) r l m hs = ap (λ (t : Filter). alone_told f t hs) (l (λ a b. two_ways a refl))
  at_partner s u (stepping c) r l m hs = ap (λ (t : Filter). alone_told f t hs) (l (λ a b. two_ways a refl))
  at_partner s u (closing c) r l m hs = ap (λ (t : Filter). alone_told f t hs) (l (λ a b. two_ways a refl))
  at_partner s u (closing_stepped c) r l m hs = ap (λ (t : Filter). alone_told f t hs) (l (λ a b. two_ways a refl))
  at_partner s u abandon r l m hs = ap (λ (t : Filter). alone_told f t hs) (l (λ a b. two_ways a refl))
  at_partner s u (reading c) r l m hs = ap (λ (t : Filter). alone_told f t hs) (l (λ a b. two_ways a refl))

  module _ (p : Pair) (c : Call) (hs : List Heard) (ts : List Told) where
    mine : (w : Side) → ts ≡ alone_told f (solo (pair_step f p w c).pair w) hs → tells (on w (pair_step f p w c)) ∷ ts ≡ alone_told f (solo p w) (cond (barred p w c) turned_away (own c) ∷ hs)
    mine w i = at_own (solo p w) c (barred p w c) (on w (pair_step f p w c)) (on_is f p w c ∙ side_barred f p w c) hs ts i

    theirs : (v w : Side) → same v w ≡ false → ts ≡ alone_told f (solo (pair_step f p v c).pair w) hs → ts ≡ alone_told f (solo p w) (from_partner c (pair_step f p v c).reply.refusal.number ++ hs)
    theirs v w e i = i ∙ at_partner (solo p w) (solo (pair_step f p v c).pair w) c (pair_step f p v c).reply.refusal.number (left p v w c e) (made p v w c e) hs

    at_call : (v w : Side) → ts ≡ alone_told f (solo (pair_step f p v c).pair w) hs
        → cond (same v w) (tells (on v (pair_step f p v c)) ∷ ts) ts ≡ alone_told f (solo p w) (cond (same v w) (cond (barred p w c) turned_away (own c) ∷ []) (from_partner c (pair_step f p v c).reply.refusal.number) ++ hs)
    at_call First First i = mine First i
    at_call First Second i = theirs First Second refl i
    at_call Second First i = theirs Second First refl i
    at_call Second Second i = mine Second i

  pub notice : (w : Side) (p : Pair) (cs : List SideCall) → of_side w (pair_told f p cs) ≡ alone_told f (solo p w) (hears f w p cs)
  unfolding of_side pair_told pair_tells alone_told hears
  notice w p [] = refl
  notice w p (t ∷ ts) = let q = (pair_step f p t.side t.call).pair in at_call p t.call (hears f w q ts) (of_side w (pair_told f q ts)) t.side w (notice w q ts)

  -- given calls of its own only, a filter alone tells what any filter tells
  pub alone_told_lem : (s : Filter) (cs : List Call) → alone_told f s (map own cs) ≡ told f s cs
  unfolding alone_told told
  alone_told_lem s [] = refl
  alone_told_lem s (c ∷ cs) = ap (λ (ts : List Told). tells (step f s c) ∷ ts) (alone_told_lem (step f s c).filter cs)
