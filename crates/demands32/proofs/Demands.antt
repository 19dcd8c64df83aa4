-- The demands of the f32 filter (document 02, A6), said of its own calls, steps, runs and filters; the flat close, which document 01 hasn't, is in Flat. Each is by a theorem of `demands`, which are over the format, at binary32. What isn't said again here holds so too: the first section leads from one to the other. Assumes nothing.
use Prim.Native.Nat.{ℕ}
use mathlib.Core.Path.{◌≡◌, refl, sym, ap, ◌∙◌, subst}
use mathlib.Core.Bool.{true, false, ◌||◌}
use mathlib.Core.List.{List, [], ◌∷◌, ◌++◌, map}
use mathlib.Core.Logic.{◌↔◌, ◌≢◌, ◌⊎◌}
use lib.Dec.{T}
use lib.Ieee.{Float, binary32, fits}
use lib.Ieee.Scale.{finite}
use Rattle.floats.specs.declared.Slice.{Slice}
use Rattle.floats.specs.declared.Refusal.{Refusal}
use Rattle.floats.specs.declared.Refusal.TheVariants.{Number as NUMBER, Pivot as PIVOT, Innovation as INNOV}
use Rattle.floats.specs.Refusal.{verdict, taken, Outcome, accepted}
use Rattle.floats.specs.Numbers.{all_finite}
use Rattle.floats.specs.Fronts.{over}
use Rattle.root.specs.Definition.{root_of, rooted}
use Rattle.root.specs.Nearest.{Nearest}
use Rattle.root.specs.Answer.{root_outcome, Asked}
use Rattle.angles.specs.Wrap.{wrap_of}
use Rattle.angles.specs.Kinds.{Kind, through_of, kind_of}
use Rattle.angles.specs.declared.Kind.TheVariants.{Turn}
use Rattle.angles.specs.Exact.{Wraps}
use Rattle.matrix.specs.Results.{planned}
use Rattle.matrix.specs.Factored.{BadPivot}
use Rattle.sigma.specs.Weights.{Params, weights_of}
use Rattle.filter.specs.Types.{Filter, Answer}
use Rattle.filter.specs.Filters.{is_shut, seen, nothing_kept, abandoned}
use Rattle.filter.specs.Calls.{asks, plan, weighted_from}
use Rattle.filter.specs.Steps.{step, answered}
use Rattle.filter.specs.New.{empty, from, new_asks, new_answer}
use Rattle.demands.specs.Rows.{Some, Fails, FirstBad, searches, IsOpen, of_prediction, of_correction, Cause, Applies, Due, Free, Placed, Neither}
use Rattle.demands.specs.Listed.{listed_at_head}
use Rattle.demands.specs.Runs.{told as told_at, Alike}
use Rattle.demands.specs.Settings.{sheet_marks, marks}
use Rattle.demands.specs.Sound.{Sound, Tidy, Yielded as YieldedAt, Reached as ReachedAt, handed_out, Each}
use Rattle.demands.proofs.Demand1 as demand1
use Rattle.demands.proofs.Demand2 as demand2
use Rattle.demands.proofs.Demand3 as demand3
use Rattle.demands.proofs.Settings as settings
use Rattle.demands.proofs.Instances.{f32}
use Rattle.demands.proofs.Wrapping.{AreValues, HandsBack}
use Rattle.demands32.specs.Calls.{SheetCall, SetCall, open_prediction, open_correction, close_correction, Call, writing, setting, closing, abandon, as_sheet_call, as_set_call, as_call}
use Rattle.demands32.specs.Runs.{step32, new32, told, ran_to, StaysOpen, Struck, rest, Reached, Yielded}
use Rattle.demands32.proofs.Carried as carried
use Rattle.demands32.proofs.Carried.{none_flat, none_saves, told_carried, reached_carried, yielded_carried, stays_carried, abandoned_carried, struck_carried}

-- ---- From the code to here, and from here to `demands`

-- An answer that meets the contract of a call on s has the filter, the number and the place of `step32`, and one that meets New's is `new32`.
pub handed_back : (s : Filter) (c : Call) (a : Answer) → a ≡ answered (step binary32 s (as_call c)) → (a.filter ≡ (step32 s c).filter) × (a.refusal ≡ (step32 s c).reply.refusal)
handed_back s c a e = (ap (λ (v : Answer). v.filter) e, ap (λ (v : Answer). v.refusal) e)

pub new_handed_back : (n : ℕ) (x p q : List Float) (params : Params) (a : Answer) → a ≡ new_answer binary32 n x p q params → a ≡ new32 n x p q params
new_handed_back n x p q params a e = e

-- It is `filter`'s own step at binary32, so that the contracts of opens and readings, which say what is handed out, speak of it as they stand.
pub step_at_binary32 : (s : Filter) (c : Call) → step32 s c ≡ step binary32 s (as_call c)
step_at_binary32 s c = refl

-- So a run tells what it tells there, and the filters that the demands speak of belong to those there.
pub told_at_binary32 : (s : Filter) (cs : List Call) → told s cs ≡ told_at binary32 s (map as_call cs)
told_at_binary32 = told_carried

pub yielded_at_binary32 : {s : Filter} → Yielded s → YieldedAt binary32 s
yielded_at_binary32 = yielded_carried

pub reached_at_binary32 : {s : Filter} → Reached s → ReachedAt binary32 s
reached_at_binary32 = reached_carried

-- The room for images stays as it was made: a call of the f32 filter on a filter that keeps nothing leaves one that keeps nothing, and so does New,
pub step_keeps_nothing : (s : Filter) (c : Call) → s.track.kept ≡ nothing_kept → (step32 s c).filter.track.kept ≡ nothing_kept
step_keeps_nothing = carried.step_keeps_nothing

pub new_keeps_nothing : (n : ℕ) (x p q : List Float) (params : Params) → (new32 n x p q params).filter.track.kept ≡ nothing_kept
new_keeps_nothing = carried.new_keeps_nothing

-- so that nothing is kept in any filter that New and these calls reach.
pub reached_keeps_nothing : {s : Filter} → Reached s → s.track.kept ≡ nothing_kept
reached_keeps_nothing = carried.reached_keeps_nothing

-- ---- Demand 1

-- Any call on any bits ends with 0 at place 0, or with a refusal's number at its place; a number at its place is given exactly when its row applies there and none before it, and the call is taken exactly when none does.
pub a_result_or_a_refusal : (s : Filter) (c : Call) → ((step32 s c).reply.refusal ≡ taken) ⊎ ((r : Refusal) × ((step32 s c).reply.refusal ≡ verdict r))
a_result_or_a_refusal s c = demand1.a_result_or_a_refusal binary32 s (as_call c)

pub exactly_when : (s : Filter) (c : Call) (r : Refusal) → ((step32 s c).reply.refusal ≡ verdict r) ↔ Due binary32 (asks (seen s) (as_call c)) (planned (plan binary32 (seen s) (as_call c))) r
exactly_when s c = demand1.exactly_when binary32 s (as_call c)

pub taken_when : (s : Filter) (c : Call) → ((step32 s c).reply.refusal ≡ taken) ↔ ((d : Cause) → Applies binary32 (asks (seen s) (as_call c)) (planned (plan binary32 (seen s) (as_call c))) d → ⊥)
taken_when s c = demand1.taken_when binary32 s (as_call c)

-- The same of New.
pub new_exactly_when : (n : ℕ) (x p q : List Float) (params : Params) (r : Refusal) → ((new32 n x p q params).refusal ≡ verdict r) ↔ Due binary32 (new_asks n (from x p ∷ []) q params) [] r
new_exactly_when n x p q params = demand1.new_exactly_when binary32 n x p q params

pub new_taken_when : (n : ℕ) (x p q : List Float) (params : Params) → ((new32 n x p q params).refusal ≡ taken) ↔ ((d : Cause) → Applies binary32 (new_asks n (from x p ∷ []) q params) [] d → ⊥)
new_taken_when n x p q params = demand1.new_taken_when binary32 n x p q params

-- From every call but the opens, 51 to 56 tell the first bad number in the order of the search (no images are kept, and none are searched),
pub number_when : (s : Filter) (c : Call) → (IsOpen (as_call c) → ⊥) → (t : Slice) (i : ℕ) → ((step32 s c).reply.refusal ≡ verdict (NUMBER t i)) ↔ (Free binary32 6 s (as_call c) × FirstBad t i (searches s (as_call c)))
number_when s c = demand1.number_when binary32 s (as_call c)

-- 7 the row of the first bad pivot of P, and 8 that of S;
pub pivot_at_open_prediction : (s : Filter) (b : List Float) (j : ℕ) → let c = setting (open_prediction b) in ((step32 s c).reply.refusal ≡ verdict (PIVOT j)) ↔ (Free binary32 9 s (as_call c) × BadPivot binary32 s.track.p s.sheet.n j)
pivot_at_open_prediction s = demand1.pivot_at_open_prediction binary32 s

pub pivot_at_open_correction : (s : Filter) (b : List Float) (j : ℕ) → let c = setting (open_correction b) in ((step32 s c).reply.refusal ≡ verdict (PIVOT j)) ↔ (Free binary32 9 s (as_call c) × ((s.track.stale ≡ true) × BadPivot binary32 s.track.p s.sheet.n j))
pivot_at_open_correction s = demand1.pivot_at_open_correction binary32 s

pub pivot_at_correction : (s : Filter) (m : ℕ) (z r : List Float) (kinds : List Kind) (observed : List Float) (j : ℕ) → let c = closing (close_correction m z r kinds observed) in let h = weighted_from binary32 (seen s) m z r kinds observed in
    ((step32 s c).reply.refusal ≡ verdict (INNOV j)) ↔ (Free binary32 9 s (as_call c) × ((Some Fails (listed_at_head binary32 h) → ⊥) × BadPivot binary32 h.s m j))
pivot_at_correction s m z r kinds = demand1.pivot_at_correction binary32 s m z r kinds

-- beside every other answer stands place 0. None of these calls gives 10, which is the flat close's (`kind_when` in Flat says when), 11, which is save's, or 12, which is load's,
pub no_other_place : (s : Filter) (c : Call) → Placed (step32 s c).reply.refusal
no_other_place s c = demand1.no_other_place binary32 s (as_call c)

pub no_kind : (s : Filter) (c : Call) → (step32 s c).reply.refusal.number ≢ 10
no_kind s c e = none_flat c (demand1.kind_by_flat_alone binary32 s (as_call c) e)

pub no_fresh : (s : Filter) (c : Call) → (step32 s c).reply.refusal.number ≢ 11
no_fresh s c e = none_saves c (demand1.fresh_by_save_alone binary32 s (as_call c) e)

pub no_record : (s : Filter) (c : Call) → (step32 s c).reply.refusal.number ≢ 12
no_record s c = demand1.no_call_gives_12 binary32 s (as_call c)

-- and opening gives none of 51 to 56 and not 6, on any filter that the demands speak of.
pub opening_prediction_never : {s : Filter} → Yielded s → (b : List Float) → Neither (step32 s (setting (open_prediction b))).reply.refusal.number
opening_prediction_never y b = demand1.opening_gives_neither binary32 (yielded_carried y) of_prediction

pub opening_correction_never : {s : Filter} → Yielded s → (b : List Float) → Neither (step32 s (setting (open_correction b))).reply.refusal.number
opening_correction_never y b = demand1.opening_gives_neither binary32 (yielded_carried y) of_correction

-- A refused call leaves the filter and a lent buffer as they were, and a refused New gives the empty filter.
pub refused_changes_nothing : (s : Filter) (c : Call) → (step32 s c).reply.refusal.number ≢ 0 → ((step32 s c).filter ≡ s) × ((b : List Float) → over (step32 s c).reply.given b ≡ b)
refused_changes_nothing s c h = let k = demand1.refused_changes_nothing binary32 s (as_call c) h in (k.0, k.1)

pub refused_new : (n : ℕ) (x p q : List Float) (params : Params) → (new32 n x p q params).refusal.number ≢ 0 → (new32 n x p q params).filter ≡ empty
refused_new n x p q params h = demand1.refused_new binary32 n x p q params h

-- Every number handed out, and x and P after every call, is finite, over any run on any filter that the demands speak of; such a filter is sound, and one that New and calls yield is tidy too.
pub every_number_is_finite : (s : Filter) → Yielded s → (cs : List Call) → Each (λ t. all_finite (handed_out t) ≡ true) (told s cs)
every_number_is_finite s y cs = subst (Each (λ t. all_finite (handed_out t) ≡ true)) (sym (told_carried s cs)) (demand1.every_number_is_finite binary32 s (yielded_carried y) (map as_call cs))

pub yielded_is_sound : {s : Filter} → Yielded s → Sound binary32 s
yielded_is_sound y = demand1.yielded_is_sound binary32 (yielded_carried y)

pub reached_is_tidy : {s : Filter} → Reached s → Sound binary32 s × Tidy s
reached_is_tidy y = demand1.reached_is_tidy binary32 (reached_carried y)

-- ---- Demand 2: the contracts of the f32 functions cite the definitions that those of f64 cite, at binary32, and Demand2 has a line for each step; here are the root and the wrap

-- The root is the nearest f32; for every f32 the outcome is what document 01 asks, and of two answers with such an outcome each is the other.
pub root_nearest : (x : Float) → T (fits binary32 x) → T (rooted x) → Nearest binary32 x (root_of binary32 x)
root_nearest = demand2.root_nearest binary32

pub root_asked : (x : Float) → T (fits binary32 x) → Asked binary32 x (root_outcome binary32 x)
root_asked = demand2.root_asked binary32

pub root_one : (x : Float) (a b : Outcome Float) → T (fits binary32 x) → Asked binary32 x a → Asked binary32 x b → a ≡ b
root_one = demand2.root_one binary32

-- An accepted wrap is exact, and within (−h, h]; so is a finite difference passed through a turn that has passed its check.
pub wrap_is_exact : (d h w : Float) → T (fits binary32 d) → T (fits binary32 h) → wrap_of binary32 d h ≡ accepted w → Wraps binary32 d h w
wrap_is_exact = demand2.wrap_is_exact binary32

pub turn_is_exact : (h d : Float) → T (fits binary32 d) → T (finite d) → T (fits binary32 h) → kind_of binary32 (Turn h) ≡ accepted (Turn h) → Wraps binary32 d h (through_of binary32 (Turn h) d)
turn_is_exact = demand2.turn_is_exact binary32

-- The laws of the wrap (A9) are over the format: crates/demands/proofs/Wrapping.antt. They are of this wrap too: d and h of a call at f32 are values of binary32, and what it hands back is the outcome that they speak of.
pub wrap_answers : (d h : Float) (z : Outcome Float) → AreValues f32 d h → HandsBack f32 d h z → T (fits binary32 d) × T (fits binary32 h) × (z ≡ wrap_of binary32 d h)
wrap_answers d h z g p = (subst T (sym g.0.1) tt, subst T (sym g.1.0.1) tt, p)

-- ---- Settings (A3)

-- An accepted setting of x, P, the parameters or a kind marks the filter stale, one of Q does not;
pub setting_marks : (s : Filter) (c : SetCall) → (step32 s (setting c)).reply.refusal.number ≡ 0 → (step32 s (setting c)).filter.track.stale ≡ (marks (as_set_call c) || s.track.stale)
setting_marks s c = settings.setting_marks binary32 s (as_set_call c)

pub writing_marks : (s : Filter) (c : SheetCall) → (step32 s (writing c)).reply.refusal.number ≡ 0 → (step32 s (writing c)).filter.track.stale ≡ (sheet_marks (as_sheet_call c) || s.track.stale)
writing_marks s c = settings.writing_marks binary32 s (as_sheet_call c)

-- so the weights that count, current or drawn, are those of the parameters as they stand.
pub current_weights : {s : Filter} → Yielded s → s.track.stale ≡ false → s.track.weights ≡ weights_of binary32 s.sheet.n s.sheet.params
current_weights y = settings.current_weights binary32 (yielded_carried y)

pub drawn_weights_lem : {s : Filter} → Yielded s → is_shut s.track.stage ≡ false → s.track.drawn_weights ≡ weights_of binary32 s.sheet.n s.sheet.params
drawn_weights_lem y = settings.drawn_weights_lem binary32 (yielded_carried y)

-- ---- Demand 3

-- Two filters of one size, nothing open, both stale, alike but for points, weights and scratch: any same calls, refused ones included, tell the same.
pub same_told : (s t : Filter) → Alike s t → (cs : List Call) → told s cs ≡ told t cs
same_told s t a cs = told_carried s cs ∙ demand3.same_told binary32 s t a (map as_call cs) ∙ sym (told_carried t cs)

-- Striking refused calls, or an open with everything up to its abandon, changes none of the rest.
pub same_rest : {s : Filter} {cs ds : List Call} (k : Struck s cs ds) → rest k ≡ told s ds
same_rest {s} {cs} {ds} k = let h = struck_carried k in sym h.same ∙ demand3.same_rest binary32 h.struck ∙ sym (told_carried s ds)

-- For an open call, abandoned, leaves the filter as it was in every bit but scratch, which is +0.
pub abandon_restores : (s : Filter) (c : Call) (mid : List Call) → is_shut s.track.stage ≡ true → StaysOpen (step32 s c).filter mid → ran_to s (c ∷ mid ++ (abandon ∷ [])) ≡ abandoned s
abandon_restores s c mid h k = abandoned_carried s c mid ∙ demand3.abandon_restores binary32 s (as_call c) (map as_call mid) h (stays_carried (step32 s c).filter mid k)
