-- The flat close of the f32 filter, which the one text of both widths has: the demands with it among the calls. `Demands` has document 01's calls, with a `Call` of their own; here a call is any of a filter's (crates/filter/specs/Calls.antt: those, the flat close, and the stepped ones and save, which are at f64 alone).
-- From Demand 1 on each is the theorem of `demands` of the same name, at binary32. Assumes nothing.
use Prim.Native.Nat.{ℕ}
use mathlib.Core.Path.{◌≡◌, ap}
use mathlib.Core.Bool.{true, false, ◌||◌}
use mathlib.Core.List.{List, [], ◌∷◌, ◌++◌}
use mathlib.Core.Logic.{◌↔◌, ◌≢◌, ◌⊎◌}
use lib.ListN.{take}
use lib.Ieee.{Float, binary32}
use mir.Syntax.{Dict}
use contract.Lifetimes.{Lfts}
use denote.Triple.Clauses.{Lasts}
use borrow.Fn.Kinds.{Dens, ended_of}
use Rattle.floats.specs.declared.Slice.{Slice}
use Rattle.floats.specs.declared.Refusal.{Refusal}
use Rattle.floats.specs.declared.Refusal.TheVariants.{Number as NUMBER, Innovation as INNOV, Kind as KIND}
use Rattle.floats.specs.Refusal.{verdict, taken}
use Rattle.floats.specs.Numbers.{all_finite}
use Rattle.floats.specs.Fronts.{over}
use Rattle.root.specs.declared.Rooted
use Rattle.matrix.specs.Results.{planned}
use Rattle.matrix.specs.Factored.{BadPivot}
use Rattle.sigma.specs.Weights.{weights_of}
use Rattle.filter.specs.Types.{Filter, Answer}
use Rattle.filter.specs.Filters.{is_shut, seen, nothing_kept, abandoned, closed_with}
use Rattle.filter.specs.Calls.{SheetCall, SetCall, Call, writing, setting, closing, abandon, close_correction_flat, asks, plan, flat_from}
use Rattle.filter.specs.Steps.{step, answered}
use Rattle.filter.proofs.Filter.close_correction_flat.Kinds as flat_of
use Rattle.filter.proofs.Filter.close_correction_flat.Reads as flat
use Rattle.demands.specs.Rows.{Some, Fails, FirstBad, searches, IsOpen, IsTurn, IsFlat, IsSave, Measurable, Cause, Applies, Due, Free, Placed, Neither}
use Rattle.demands.specs.Listed.{listed_at_head, listed_at_correction, state, covariance}
use Rattle.demands.specs.Runs.{told, ran_to, Alike, StaysOpen, Struck, rest}
use Rattle.demands.specs.Settings.{sheet_marks, marks}
use Rattle.demands.specs.Sound.{Sound, Tidy, Yielded, Reached, handed_out, Each}
use Rattle.demands.proofs.Instances.{f32}
use Rattle.demands.proofs.Complete.{Allows, AtMore}
use Rattle.demands.proofs.Demand1 as demand1
use Rattle.demands.proofs.Demand2 as demand2
use Rattle.demands.proofs.Demand3 as demand3
use Rattle.demands.proofs.Settings as settings
use Rattle.demands32.specs.Runs.{FlatReached, Yielded as YieldedOwn}
use Rattle.demands32.proofs.Carried as carried
use Rattle.demands32.proofs.Carried.{flat_reached_carried, yielded_carried}

-- ---- From the code to here

-- An answer that meets the contract of a call on s has the filter, the number and the place of the step at binary32.
pub handed_back : (s : Filter) (c : Call) (a : Answer) → a ≡ answered (step binary32 s c) → (a.filter ≡ (step binary32 s c).filter) × (a.refusal ≡ (step binary32 s c).reply.refusal)
handed_back s c a e = (ap (λ (v : Answer). v.filter) e, ap (λ (v : Answer). v.refusal) e)

-- What a call of `close_correction_flat` at f32 hands back is, by its contract, the answer of that step, by its own filter and m, and by z, R and the observed points as they are lent.
pub flat_answers : (more : Rooted.Ghosts f32.row.Denot) (more_at : Dict) (κs : Lfts 4) (a : Dens κs (flat_of.ps f32.row f32.laws f32.copies)) (z : Answer) (w : Lasts (ended_of 4 (flat_of.ps f32.row f32.laws f32.copies) (flat_of.r f32.row f32.laws f32.copies)) κs a)
    → Allows (flat_of.ps f32.row f32.laws f32.copies) (flat_of.r f32.row f32.laws f32.copies) (AtMore Rooted.Ghosts flat_of.ps flat_of.r flat.Learnt f32 more more_at) κs a z w
    → z ≡ answered (step binary32 a.0 (closing (close_correction_flat a.1.0 a.1.1.0.now a.1.1.1.0.now a.1.1.1.1.0.now)))
flat_answers more more_at κs a z w p = p

-- The filters that New, the f32 calls and flat closes reach are among those of here, and so are those that `Demands` speaks of.
pub flat_reached_here : {s : Filter} → FlatReached s → Reached binary32 s
flat_reached_here = flat_reached_carried

pub yielded_here : {s : Filter} → YieldedOwn s → Yielded binary32 s
yielded_here = yielded_carried

-- A flat close keeps no image, so that they keep none either.
pub flat_keeps_nothing : (s : Filter) (m : ℕ) (z r observed : List Float) → s.track.kept ≡ nothing_kept → (step binary32 s (closing (close_correction_flat m z r observed))).filter.track.kept ≡ nothing_kept
flat_keeps_nothing = carried.flat_keeps_nothing

pub flat_reached_keeps_nothing : {s : Filter} → FlatReached s → s.track.kept ≡ nothing_kept
flat_reached_keeps_nothing = carried.flat_reached_keeps_nothing

-- ---- Demand 1

-- Any call on any bits ends with 0 at place 0, or with a refusal's number at its place; a number at its place is given exactly when its row applies there and none before it, and the call is taken exactly when none does.
pub a_result_or_a_refusal : (s : Filter) (c : Call) → ((step binary32 s c).reply.refusal ≡ taken) ⊎ ((r : Refusal) × ((step binary32 s c).reply.refusal ≡ verdict r))
a_result_or_a_refusal = demand1.a_result_or_a_refusal binary32

pub exactly_when : (s : Filter) (c : Call) (r : Refusal) → ((step binary32 s c).reply.refusal ≡ verdict r) ↔ Due binary32 (asks (seen s) c) (planned (plan binary32 (seen s) c)) r
exactly_when = demand1.exactly_when binary32

pub taken_when : (s : Filter) (c : Call) → ((step binary32 s c).reply.refusal ≡ taken) ↔ ((d : Cause) → Applies binary32 (asks (seen s) c) (planned (plan binary32 (seen s) c)) d → ⊥)
taken_when = demand1.taken_when binary32

-- From every call but the opens, 51 to 56 tell the first bad number in the order of the search, and 8 by the flat close the row of the first bad pivot of its S;
pub number_when : (s : Filter) (c : Call) → (IsOpen c → ⊥) → (t : Slice) (i : ℕ) → ((step binary32 s c).reply.refusal ≡ verdict (NUMBER t i)) ↔ (Free binary32 6 s c × FirstBad t i (searches s c))
number_when = demand1.number_when binary32

pub pivot_at_flat_correction : (s : Filter) (m : ℕ) (z r observed : List Float) (j : ℕ) → let c = closing (close_correction_flat m z r observed) in let h = flat_from binary32 (seen s) m z r observed in
    ((step binary32 s c).reply.refusal ≡ verdict (INNOV j)) ↔ (Free binary32 9 s c × ((Some Fails (listed_at_head binary32 h) → ⊥) × BadPivot binary32 h.s m j))
pivot_at_flat_correction = demand1.pivot_at_flat_correction binary32

-- beside every other answer stands place 0.
pub no_other_place : (s : Filter) (c : Call) → Placed (step binary32 s c).reply.refusal
no_other_place = demand1.no_other_place binary32

-- 10 is given by the flat close alone, and exactly when a correction is open, there are 1 to 8 states and 1 to 4 measurements, the slices are long enough and their numbers finite, and one of the first n kinds is a turn. It never gives 4 or 6.
pub kind_by_flat_alone : (s : Filter) (c : Call) → (step binary32 s c).reply.refusal.number ≡ 10 → IsFlat c
kind_by_flat_alone = demand1.kind_by_flat_alone binary32

pub kind_when : (s : Filter) (m : ℕ) (z r observed : List Float) → ((step binary32 s (closing (close_correction_flat m z r observed))).reply.refusal ≡ verdict KIND) ↔ (Measurable s m z r observed × Some IsTurn (take s.sheet.n s.sheet.kinds))
kind_when = demand1.kind_when binary32

pub flat_correction_never : (s : Filter) (m : ℕ) (z r observed : List Float) → let k = (step binary32 s (closing (close_correction_flat m z r observed))).reply.refusal.number in (k ≢ 4) × (k ≢ 6)
flat_correction_never = demand1.flat_correction_never binary32

-- 11 is given by save alone, which f32 hasn't, and 12 by no call;
pub fresh_by_save_alone : (s : Filter) (c : Call) → (step binary32 s c).reply.refusal.number ≡ 11 → IsSave c
fresh_by_save_alone = demand1.fresh_by_save_alone binary32

pub no_call_gives_12 : (s : Filter) (c : Call) → (step binary32 s c).reply.refusal.number ≢ 12
no_call_gives_12 = demand1.no_call_gives_12 binary32

-- and opening gives none of 51 to 56 and not 6, on any filter that the demands speak of, after flat closes too.
pub opening_gives_neither : {s : Filter} → Yielded binary32 s → {c : Call} → IsOpen c → Neither (step binary32 s c).reply.refusal.number
opening_gives_neither = demand1.opening_gives_neither binary32

-- A refused call leaves the filter and a lent buffer as they were.
pub refused_changes_nothing : (s : Filter) (c : Call) → (step binary32 s c).reply.refusal.number ≢ 0 → ((step binary32 s c).filter ≡ s) × ((b : List Float) → over (step binary32 s c).reply.given b ≡ b) × ((b : List ℕ) → over (step binary32 s c).reply.bytes b ≡ b)
refused_changes_nothing = demand1.refused_changes_nothing binary32

-- Every number handed out, and x and P after every call, is finite, over any run on any filter that the demands speak of; such a filter is sound, and one that New and calls yield is tidy too.
pub every_number_is_finite : (s : Filter) → Yielded binary32 s → (cs : List Call) → Each (λ t. all_finite (handed_out t) ≡ true) (told binary32 s cs)
every_number_is_finite = demand1.every_number_is_finite binary32

pub yielded_is_sound : {s : Filter} → Yielded binary32 s → Sound binary32 s
yielded_is_sound = demand1.yielded_is_sound binary32

pub reached_is_tidy : {s : Filter} → Reached binary32 s → Sound binary32 s × Tidy s
reached_is_tidy = demand1.reached_is_tidy binary32

-- ---- Demand 2: what the flat close makes, listed in document 01's order, and what it leaves

pub listed_at_flat_correction : (s : Filter) (m : ℕ) (z r observed : List Float) → planned (plan binary32 s (closing (close_correction_flat m z r observed))) ≡ listed_at_correction binary32 (flat_from binary32 s m z r observed)
listed_at_flat_correction = demand1.listed_at_flat_correction binary32

pub flat_correction_installs : (s : Filter) (m : ℕ) (z r observed : List Float) → (step binary32 s (closing (close_correction_flat m z r observed))).reply.refusal.number ≡ 0
    → (step binary32 s (closing (close_correction_flat m z r observed))).filter ≡ (let h = flat_from binary32 s m z r observed in closed_with s s.track.drawn_points true (state binary32 h) (covariance binary32 h))
flat_correction_installs = demand2.flat_correction_installs binary32

-- ---- Settings (A3)

-- An accepted setting of x, P, the parameters or a kind marks the filter stale, one of Q does not;
pub setting_marks : (s : Filter) (c : SetCall) → (step binary32 s (setting c)).reply.refusal.number ≡ 0 → (step binary32 s (setting c)).filter.track.stale ≡ (marks c || s.track.stale)
setting_marks = settings.setting_marks binary32

pub writing_marks : (s : Filter) (c : SheetCall) → (step binary32 s (writing c)).reply.refusal.number ≡ 0 → (step binary32 s (writing c)).filter.track.stale ≡ (sheet_marks c || s.track.stale)
writing_marks = settings.writing_marks binary32

-- so the weights that count, current or drawn, are those of the parameters as they stand, after flat closes too.
pub current_weights : {s : Filter} → Yielded binary32 s → s.track.stale ≡ false → s.track.weights ≡ weights_of binary32 s.sheet.n s.sheet.params
current_weights = settings.current_weights binary32

pub drawn_weights_lem : {s : Filter} → Yielded binary32 s → is_shut s.track.stage ≡ false → s.track.drawn_weights ≡ weights_of binary32 s.sheet.n s.sheet.params
drawn_weights_lem = settings.drawn_weights_lem binary32

-- ---- Demand 3

-- Two filters of one size, nothing open, both stale, alike but for points, weights and scratch: any same calls, refused ones included, tell the same.
pub same_told : (s t : Filter) → Alike s t → (cs : List Call) → told binary32 s cs ≡ told binary32 t cs
same_told = demand3.same_told binary32

-- Striking refused calls, or an open with everything up to its abandon, changes none of the rest.
pub same_rest : {s : Filter} {cs ds : List Call} (k : Struck binary32 s cs ds) → rest binary32 k ≡ told binary32 s ds
same_rest k = demand3.same_rest binary32 k

-- For an open call, abandoned, leaves the filter as it was in every bit but scratch, which is +0.
pub abandon_restores : (s : Filter) (c : Call) (mid : List Call) → is_shut s.track.stage ≡ true → StaysOpen binary32 (step binary32 s c).filter mid → ran_to binary32 s (c ∷ mid ++ (abandon ∷ [])) ≡ abandoned s
abandon_restores = demand3.abandon_restores binary32
