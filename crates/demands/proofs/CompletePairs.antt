-- Complete contracts of a pair's calls, as Complete.antt has them of the others: a line for each function of `pairs` that can be called from outside. Assumes nothing.
use Prim.Native.Nat.{ℕ}
use mathlib.Core.Path.{◌≡◌, refl, ap}
use mathlib.Core.List.{List}
use Rattle.pairs.specs.declared.Side.TheVariants.{First}
use Rattle.demands.proofs.Complete.{OneAnswer, by}
use Rattle.pairs.proofs.Pair.new.Kinds as new_of
use Rattle.pairs.proofs.Pair.new.Reads as new
use Rattle.pairs.proofs.Pair.set_x.Kinds as set_x_of
use Rattle.pairs.proofs.Pair.set_x.Reads as set_x
use Rattle.pairs.proofs.Pair.set_p.Kinds as set_p_of
use Rattle.pairs.proofs.Pair.set_p.Reads as set_p
use Rattle.pairs.proofs.Pair.set_q.Kinds as set_q_of
use Rattle.pairs.proofs.Pair.set_q.Reads as set_q
use Rattle.pairs.proofs.Pair.set_params.Kinds as set_params_of
use Rattle.pairs.proofs.Pair.set_params.Reads as set_params
use Rattle.pairs.proofs.Pair.set_kind.Kinds as set_kind_of
use Rattle.pairs.proofs.Pair.set_kind.Reads as set_kind
use Rattle.pairs.proofs.Pair.open_prediction.Kinds as open_prediction_of
use Rattle.pairs.proofs.Pair.open_prediction.Reads as open_prediction
use Rattle.pairs.proofs.Pair.open_correction.Kinds as open_correction_of
use Rattle.pairs.proofs.Pair.open_correction.Reads as open_correction
use Rattle.pairs.proofs.Pair.close_prediction.Kinds as close_prediction_of
use Rattle.pairs.proofs.Pair.close_prediction.Reads as close_prediction
use Rattle.pairs.proofs.Pair.close_correction.Kinds as close_correction_of
use Rattle.pairs.proofs.Pair.close_correction.Reads as close_correction
use Rattle.pairs.proofs.Pair.close_correction_flat.Kinds as close_correction_flat_of
use Rattle.pairs.proofs.Pair.close_correction_flat.Reads as close_correction_flat
use Rattle.pairs.proofs.Pair.open_prediction_stepped.Kinds as open_prediction_stepped_of
use Rattle.pairs.proofs.Pair.open_prediction_stepped.Reads as open_prediction_stepped
use Rattle.pairs.proofs.Pair.open_correction_stepped.Kinds as open_correction_stepped_of
use Rattle.pairs.proofs.Pair.open_correction_stepped.Reads as open_correction_stepped
use Rattle.pairs.proofs.Pair.ask.Kinds as ask_of
use Rattle.pairs.proofs.Pair.ask.Reads as ask
use Rattle.pairs.proofs.Pair.image_prediction.Kinds as image_prediction_of
use Rattle.pairs.proofs.Pair.image_prediction.Reads as image_prediction
use Rattle.pairs.proofs.Pair.image_correction.Kinds as image_correction_of
use Rattle.pairs.proofs.Pair.image_correction.Reads as image_correction
use Rattle.pairs.proofs.Pair.close_prediction_stepped.Kinds as close_prediction_stepped_of
use Rattle.pairs.proofs.Pair.close_prediction_stepped.Reads as close_prediction_stepped
use Rattle.pairs.proofs.Pair.close_correction_stepped.Kinds as close_correction_stepped_of
use Rattle.pairs.proofs.Pair.close_correction_stepped.Reads as close_correction_stepped
use Rattle.pairs.proofs.Pair.close_correction_flat_stepped.Kinds as close_correction_flat_stepped_of
use Rattle.pairs.proofs.Pair.close_correction_flat_stepped.Reads as close_correction_flat_stepped
use Rattle.pairs.proofs.Pair.abandon.Kinds as abandon_of
use Rattle.pairs.proofs.Pair.abandon.Reads as abandon
use Rattle.pairs.proofs.Pair.read_x.Kinds as read_x_of
use Rattle.pairs.proofs.Pair.read_x.Reads as read_x
use Rattle.pairs.proofs.Pair.read_p.Kinds as read_p_of
use Rattle.pairs.proofs.Pair.read_p.Reads as read_p
use Rattle.pairs.proofs.Pair.read_q.Kinds as read_q_of
use Rattle.pairs.proofs.Pair.read_q.Reads as read_q
use Rattle.pairs.proofs.Pair.read_points.Kinds as read_points_of
use Rattle.pairs.proofs.Pair.read_points.Reads as read_points
use Rattle.pairs.proofs.Pair.read_params.Kinds as read_params_of
use Rattle.pairs.proofs.Pair.read_params.Reads as read_params
use Rattle.pairs.proofs.Pair.read_stale.Kinds as read_stale_of
use Rattle.pairs.proofs.Pair.read_stale.Reads as read_stale
use Rattle.pairs.proofs.Pair.save.Kinds as save_of
use Rattle.pairs.proofs.Pair.save.Reads as save

-- the one lent buffer, after self and the side
lent : {A : Type 0} {l m : List A} → l ≡ m → ◌≡◌ {A = Unit {0} × (Unit {0} × (List A × Unit {0}))} (tt, (tt, (l, tt))) (tt, (tt, (m, tt)))
lent {A} e = ap (λ (l : List A). (tt, (tt, (l, tt)))) e

pub new_one : OneAnswer new_of.ps new_of.r new.Learnt
new_one κs a z z' w w' p q = (by p q, refl)

pub set_x_one : OneAnswer set_x_of.ps set_x_of.r set_x.Learnt
set_x_one κs a z z' w w' p q = (by p q, refl)

pub set_p_one : OneAnswer set_p_of.ps set_p_of.r set_p.Learnt
set_p_one κs a z z' w w' p q = (by p q, refl)

pub set_q_one : OneAnswer set_q_of.ps set_q_of.r set_q.Learnt
set_q_one κs a z z' w w' p q = (by (p First) (q First), refl)

pub set_params_one : OneAnswer set_params_of.ps set_params_of.r set_params.Learnt
set_params_one κs a z z' w w' p q = (by (p First) (q First), refl)

pub set_kind_one : OneAnswer set_kind_of.ps set_kind_of.r set_kind.Learnt
set_kind_one κs a z z' w w' p q = (by (p First) (q First), refl)

pub open_prediction_one : OneAnswer open_prediction_of.ps open_prediction_of.r open_prediction.Learnt
open_prediction_one κs a z z' w w' p q = (by p.0 q.0, lent (by p.1 q.1))

pub open_correction_one : OneAnswer open_correction_of.ps open_correction_of.r open_correction.Learnt
open_correction_one κs a z z' w w' p q = (by p.0 q.0, lent (by p.1 q.1))

pub close_prediction_one : OneAnswer close_prediction_of.ps close_prediction_of.r close_prediction.Learnt
close_prediction_one κs a z z' w w' p q = (by p q, refl)

pub close_correction_one : OneAnswer close_correction_of.ps close_correction_of.r close_correction.Learnt
close_correction_one κs a z z' w w' p q = (by p q, refl)

pub close_correction_flat_one : OneAnswer close_correction_flat_of.ps close_correction_flat_of.r close_correction_flat.Learnt
close_correction_flat_one κs a z z' w w' p q = (by p q, refl)

pub open_prediction_stepped_one : OneAnswer open_prediction_stepped_of.ps open_prediction_stepped_of.r open_prediction_stepped.Learnt
open_prediction_stepped_one κs a z z' w w' p q = (by p q, refl)

pub open_correction_stepped_one : OneAnswer open_correction_stepped_of.ps open_correction_stepped_of.r open_correction_stepped.Learnt
open_correction_stepped_one κs a z z' w w' p q = (by p q, refl)

pub ask_one : OneAnswer ask_of.ps ask_of.r ask.Learnt
ask_one κs a z z' w w' p q = (by p.0 q.0, lent (by p.1 q.1))

pub image_prediction_one : OneAnswer image_prediction_of.ps image_prediction_of.r image_prediction.Learnt
image_prediction_one κs a z z' w w' p q = (by p q, refl)

pub image_correction_one : OneAnswer image_correction_of.ps image_correction_of.r image_correction.Learnt
image_correction_one κs a z z' w w' p q = (by p q, refl)

pub close_prediction_stepped_one : OneAnswer close_prediction_stepped_of.ps close_prediction_stepped_of.r close_prediction_stepped.Learnt
close_prediction_stepped_one κs a z z' w w' p q = (by p q, refl)

pub close_correction_stepped_one : OneAnswer close_correction_stepped_of.ps close_correction_stepped_of.r close_correction_stepped.Learnt
close_correction_stepped_one κs a z z' w w' p q = (by p q, refl)

pub close_correction_flat_stepped_one : OneAnswer close_correction_flat_stepped_of.ps close_correction_flat_stepped_of.r close_correction_flat_stepped.Learnt
close_correction_flat_stepped_one κs a z z' w w' p q = (by p q, refl)

pub abandon_one : OneAnswer abandon_of.ps abandon_of.r abandon.Learnt
abandon_one κs a z z' w w' p q = (by p q, refl)

pub read_x_one : OneAnswer read_x_of.ps read_x_of.r read_x.Learnt
read_x_one κs a z z' w w' p q = (by p.0 q.0, lent (by p.1 q.1))

pub read_p_one : OneAnswer read_p_of.ps read_p_of.r read_p.Learnt
read_p_one κs a z z' w w' p q = (by p.0 q.0, lent (by p.1 q.1))

pub read_q_one : OneAnswer read_q_of.ps read_q_of.r read_q.Learnt
read_q_one κs a z z' w w' p q = (by p.0 q.0, lent (by p.1 q.1))

pub read_points_one : OneAnswer read_points_of.ps read_points_of.r read_points.Learnt
read_points_one κs a z z' w w' p q = (by p.0 q.0, lent (by p.1 q.1))

pub read_params_one : OneAnswer read_params_of.ps read_params_of.r read_params.Learnt
read_params_one κs a z z' w w' p q = (by p q, refl)

pub read_stale_one : OneAnswer read_stale_of.ps read_stale_of.r read_stale.Learnt
read_stale_one κs a z z' w w' p q = (by p q, refl)

pub save_one : OneAnswer save_of.ps save_of.r save.Learnt
save_one κs a z z' w w' p q = (by p.0 q.0, ap (λ (l : List ℕ). (tt, (tt, (l, tt)))) (by p.1 q.1))
