-- Complete contracts: from two answers that one contract allows, their equality.
-- The contract is the function's own: `Kinds` is its signature and `Learnt` all that its `ensures` says, both as rattle reads them off the source. Nothing of it is typed again here. Of a function that is written once for every type with a bound, as `T: Number`, it is said at every such type, f64 and f32 among them. Assumes nothing.
use Prim.Native.Nat.{ℕ}
use mathlib.Core.Path.{◌≡◌, refl, sym, ap, ◌∙◌}
use mathlib.Core.List.{List, []}
use native.Mathlib.Omega.{arith}
use lib.Ieee.{Float, nan, binary64, lt, add}
use mir.Syntax.{Dict}
use contract.Lifetimes.{Lfts}
use denote.RattleType.{RattleType}
use denote.Param.Laws.{Laws, IsCopy}
use denote.Triple.Clauses.{Lasts, at_exit}
use denote.Ref.{Bor}
use borrow.Fn.Kinds.{ParamKind, ResultKind, Dens, Out, res_t, ended_of}
use Rattle.std.specs.declared.clone.Clone
use Rattle.std.specs.declared.cmp.PartialEq
use Rattle.std.specs.declared.cmp.PartialOrd
use Rattle.std.specs.declared.ops.Add
use Rattle.std.specs.declared.ops.Sub
use Rattle.std.specs.declared.ops.Mul
use Rattle.std.specs.declared.ops.Div
use Rattle.std.specs.declared.ops.Neg
use Rattle.std.specs.Prelude.{Option}
use Rattle.demands.proofs.Instances.{Instance, f64, seen_one, float_one, floats_one}
use Rattle.floats.specs.declared.number.Number
use Rattle.floats.specs.Refusal.{Outcome, accepted, refusal, or}
use Rattle.floats.specs.Numbers as Numbers
use Rattle.floats.specs.Numbers.{plus_zero, one as one_number}
use Rattle.root.specs.declared.Rooted
use Rattle.angles.specs.declared.Kind.{Kind}
use Rattle.angles.specs.Wrap
use Rattle.sigma.specs.declared.weights.Weighting.{Weighting}
use Rattle.sigma.specs.declared.Params.{Params}
use Rattle.sigma.specs.declared.Moments.{Moments}
use Rattle.filter.specs.declared.Sheet.{Sheet}
use Rattle.filter.specs.declared.Track.{Track}
use Rattle.filter.specs.declared.Answer.{Answer}
use Rattle.filter.specs.declared.ParamsRead.{ParamsRead}
use Rattle.filter.specs.declared.new.NewSheet.{NewSheet}
use Rattle.filter.specs.declared.new.NewTrack.{NewTrack}
use Rattle.filter.specs.declared.point.Spaced
use Rattle.words.specs.declared.worded.Worded
use Rattle.script.specs.declared.text.Read.{Read}
use Rattle.floats.proofs.is_finite.Kinds as is_finite_of
use Rattle.floats.proofs.is_finite.Reads as is_finite
use Rattle.floats.proofs.is_above_zero.Kinds as is_above_zero_of
use Rattle.floats.proofs.is_above_zero.Reads as is_above_zero
use Rattle.floats.proofs.all_finite.Kinds as all_finite_of
use Rattle.floats.proofs.all_finite.Reads as all_finite
use Rattle.floats.proofs.placeless.Kinds as placeless_of
use Rattle.floats.proofs.placeless.Reads as placeless
use Rattle.floats.proofs.earlier.Kinds as earlier_of
use Rattle.floats.proofs.earlier.Reads as earlier
use Rattle.floats.proofs.slice_number.Kinds as slice_number_of
use Rattle.floats.proofs.slice_number.Reads as slice_number
use Rattle.floats.proofs.number.Number.whole.Kinds as whole_of
use Rattle.floats.proofs.number.Number.whole.Reads as whole
use Rattle.floats.proofs.number.Number.held.Kinds as held_of
use Rattle.floats.proofs.number.Number.held.Reads as held
use Rattle.floats.proofs.Refusal.verdict.Kinds as verdict_of
use Rattle.floats.proofs.Refusal.verdict.Reads as verdict
use Rattle.floats.proofs.first_bad.Kinds as first_bad_of
use Rattle.floats.proofs.first_bad.Reads as first_bad
use Rattle.floats.proofs.next_bad.Kinds as next_bad_of
use Rattle.floats.proofs.next_bad.Reads as next_bad
use Rattle.root.proofs.square_root.Kinds as square_root_of
use Rattle.root.proofs.square_root.Reads as square_root
use Rattle.root.proofs.rooted.Rooted.bits.Kinds as root_bits_of
use Rattle.root.proofs.rooted.Rooted.bits.Reads as root_bits
use Rattle.root.proofs.rooted.Rooted.of_bits.Kinds as root_of_bits_of
use Rattle.root.proofs.rooted.Rooted.of_bits.Reads as root_of_bits
use Rattle.root.proofs.rooted.Rooted.nearest_root.Kinds as nearest_root_of
use Rattle.root.proofs.rooted.Rooted.nearest_root.Reads as nearest_root
use Rattle.angles.proofs.wrap.Kinds as wrap_of
use Rattle.angles.proofs.wrap.Reads as wrap
use Rattle.angles.proofs.shown.Kinds as shown_of
use Rattle.angles.proofs.shown.Reads as shown
use Rattle.angles.proofs.Kind.through.Kinds as through_of
use Rattle.angles.proofs.Kind.through.Reads as through
use Rattle.angles.proofs.Kind.half.Kinds as half_of
use Rattle.angles.proofs.Kind.half.Reads as half
use Rattle.angles.proofs.Kind.passes.Kinds as passes_of
use Rattle.angles.proofs.Kind.passes.Reads as passes
use Rattle.angles.proofs.kind_refusal.Kinds as kind_refusal_of
use Rattle.angles.proofs.kind_refusal.Reads as kind_refusal
use Rattle.matrix.proofs.layout.row.Kinds as row_of
use Rattle.matrix.proofs.layout.row.Reads as row
use Rattle.matrix.proofs.layout.cell.Kinds as cell_of
use Rattle.matrix.proofs.layout.cell.Reads as cell
use Rattle.matrix.proofs.sums.dot.Kinds as dot_of
use Rattle.matrix.proofs.sums.dot.Reads as dot
use Rattle.matrix.proofs.sums.less.Kinds as less_of
use Rattle.matrix.proofs.sums.less.Reads as less
use Rattle.matrix.proofs.sums.plus.Kinds as plus_of
use Rattle.matrix.proofs.sums.plus.Reads as plus
use Rattle.matrix.proofs.sums.minus.Kinds as minus_of
use Rattle.matrix.proofs.sums.minus.Reads as minus
use Rattle.matrix.proofs.pivots.refused_by.Kinds as refused_by_of
use Rattle.matrix.proofs.pivots.refused_by.Reads as refused_by
use Rattle.matrix.proofs.factor.cholesky_decompose_lower.Kinds as cholesky_decompose_lower_of
use Rattle.matrix.proofs.factor.cholesky_decompose_lower.Reads as cholesky_decompose_lower
use Rattle.matrix.proofs.inverse.invert_l_cholesky.Kinds as invert_l_cholesky_of
use Rattle.matrix.proofs.inverse.invert_l_cholesky.Reads as invert_l_cholesky
use Rattle.matrix.proofs.product.mult_transb.Kinds as mult_transb_of
use Rattle.matrix.proofs.product.mult_transb.Reads as mult_transb
use Rattle.sigma.proofs.place.Kinds as place_of
use Rattle.sigma.proofs.place.Reads as place
use Rattle.sigma.proofs.weights.compute_weights.Kinds as compute_weights_of
use Rattle.sigma.proofs.weights.compute_weights.Reads as compute_weights
use Rattle.sigma.proofs.weights.scale.Kinds as scale_of
use Rattle.sigma.proofs.weights.scale.Reads as scale
use Rattle.sigma.proofs.weights.center_weight.Kinds as center_weight_of
use Rattle.sigma.proofs.weights.center_weight.Reads as center_weight
use Rattle.sigma.proofs.weights.weights.Kinds as weights_of
use Rattle.sigma.proofs.weights.weights.Reads as weights
use Rattle.sigma.proofs.weights.weights_pass.Kinds as weights_pass_of
use Rattle.sigma.proofs.weights.weights_pass.Reads as weights_pass
use Rattle.sigma.proofs.draw.generate_sigma_points.Kinds as generate_sigma_points_of
use Rattle.sigma.proofs.draw.generate_sigma_points.Reads as generate_sigma_points
use Rattle.sigma.proofs.mean.anchored_mean.Kinds as anchored_mean_of
use Rattle.sigma.proofs.mean.anchored_mean.Reads as anchored_mean
use Rattle.sigma.proofs.spread.deviations.Kinds as deviations_of
use Rattle.sigma.proofs.spread.deviations.Reads as deviations
use Rattle.sigma.proofs.spread.spread.Kinds as spread_of
use Rattle.sigma.proofs.spread.spread.Reads as spread
use Rattle.sigma.proofs.predict.reconstruct_prediction.Kinds as reconstruct_prediction_of
use Rattle.sigma.proofs.predict.reconstruct_prediction.Reads as reconstruct_prediction
use Rattle.correction.proofs.correct_with_weights_residuals.Kinds as correct_with_weights_residuals_of
use Rattle.correction.proofs.correct_with_weights_residuals.Reads as correct_with_weights_residuals
use Rattle.correction.proofs.flat.correct_nonlinear.Kinds as correct_nonlinear_of
use Rattle.correction.proofs.flat.correct_nonlinear.Reads as correct_nonlinear
use Rattle.filter.proofs.checks.early_refusal.Kinds as early_refusal_of
use Rattle.filter.proofs.checks.early_refusal.Reads as early_refusal
use Rattle.filter.proofs.checks.first_refusal.Kinds as first_refusal_of
use Rattle.filter.proofs.checks.first_refusal.Reads as first_refusal
use Rattle.filter.proofs.checks.is_shut.Kinds as is_shut_of
use Rattle.filter.proofs.checks.is_shut.Reads as is_shut
use Rattle.filter.proofs.checks.is_predicting.Kinds as is_predicting_of
use Rattle.filter.proofs.checks.is_predicting.Reads as is_predicting
use Rattle.filter.proofs.checks.is_correcting.Kinds as is_correcting_of
use Rattle.filter.proofs.checks.is_correcting.Reads as is_correcting
use Rattle.filter.proofs.checks.in_range.Kinds as in_range_of
use Rattle.filter.proofs.checks.in_range.Reads as in_range
use Rattle.filter.proofs.checks.is_sized.Kinds as is_sized_of
use Rattle.filter.proofs.checks.is_sized.Reads as is_sized
use Rattle.filter.proofs.checks.is_state.Kinds as is_state_of
use Rattle.filter.proofs.checks.is_state.Reads as is_state
use Rattle.filter.proofs.checks.square.Kinds as square_of
use Rattle.filter.proofs.checks.square.Reads as square
use Rattle.filter.proofs.checks.point_numbers.Kinds as point_numbers_of
use Rattle.filter.proofs.checks.point_numbers.Reads as point_numbers
use Rattle.filter.proofs.checks.last_point.Kinds as last_point_of
use Rattle.filter.proofs.checks.last_point.Reads as last_point
use Rattle.filter.proofs.Sheet.new.Kinds as new_sheet_of
use Rattle.filter.proofs.Sheet.new.Reads as new_sheet
use Rattle.filter.proofs.Track.new.Kinds as new_track_of
use Rattle.filter.proofs.Track.new.Reads as new_track
use Rattle.filter.proofs.new.empty_sheet.Kinds as empty_sheet_of
use Rattle.filter.proofs.new.empty_sheet.Reads as empty_sheet
use Rattle.filter.proofs.new.empty_params.Kinds as empty_params_of
use Rattle.filter.proofs.new.empty_params.Reads as empty_params
use Rattle.filter.proofs.new.empty_track.Kinds as empty_track_of
use Rattle.filter.proofs.new.empty_track.Reads as empty_track
use Rattle.filter.proofs.new.refused.Kinds as refused_of
use Rattle.filter.proofs.new.refused.Reads as refused
use Rattle.filter.proofs.new.fresh_track.Kinds as fresh_track_of
use Rattle.filter.proofs.new.fresh_track.Reads as fresh_track
use Rattle.filter.proofs.new.sooner.Kinds as sooner_of
use Rattle.filter.proofs.new.sooner.Reads as sooner
use Rattle.filter.proofs.Filter.new.Kinds as new_of
use Rattle.filter.proofs.Filter.new.Reads as new
use Rattle.filter.proofs.Filter.set_x.Kinds as set_x_of
use Rattle.filter.proofs.Filter.set_x.Reads as set_x
use Rattle.filter.proofs.Filter.set_p.Kinds as set_p_of
use Rattle.filter.proofs.Filter.set_p.Reads as set_p
use Rattle.filter.proofs.Filter.set_q.Kinds as set_q_of
use Rattle.filter.proofs.Filter.set_q.Reads as set_q
use Rattle.filter.proofs.Filter.set_params.Kinds as set_params_of
use Rattle.filter.proofs.Filter.set_params.Reads as set_params
use Rattle.filter.proofs.Filter.set_kind.Kinds as set_kind_of
use Rattle.filter.proofs.Filter.set_kind.Reads as set_kind
use Rattle.filter.proofs.Filter.close_prediction.Kinds as close_prediction_of
use Rattle.filter.proofs.Filter.close_prediction.Reads as close_prediction
use Rattle.filter.proofs.Filter.close_correction.Kinds as close_correction_of
use Rattle.filter.proofs.Filter.close_correction.Reads as close_correction
use Rattle.filter.proofs.Filter.close_correction_flat.Kinds as close_correction_flat_of
use Rattle.filter.proofs.Filter.close_correction_flat.Reads as close_correction_flat
use Rattle.filter.proofs.Filter.abandon.Kinds as abandon_of
use Rattle.filter.proofs.Filter.abandon.Reads as abandon
use Rattle.filter.proofs.Filter.read_params.Kinds as read_params_of
use Rattle.filter.proofs.Filter.read_params.Reads as read_params
use Rattle.filter.proofs.Filter.read_stale.Kinds as read_stale_of
use Rattle.filter.proofs.Filter.read_stale.Reads as read_stale
use Rattle.filter.proofs.Filter.open_prediction.Kinds as open_prediction_of
use Rattle.filter.proofs.Filter.open_prediction.Reads as open_prediction
use Rattle.filter.proofs.Filter.open_correction.Kinds as open_correction_of
use Rattle.filter.proofs.Filter.open_correction.Reads as open_correction
use Rattle.filter.proofs.Filter.read_x.Kinds as read_x_of
use Rattle.filter.proofs.Filter.read_x.Reads as read_x
use Rattle.filter.proofs.Filter.read_p.Kinds as read_p_of
use Rattle.filter.proofs.Filter.read_p.Reads as read_p
use Rattle.filter.proofs.Filter.read_q.Kinds as read_q_of
use Rattle.filter.proofs.Filter.read_q.Reads as read_q
use Rattle.filter.proofs.Filter.read_points.Kinds as read_points_of
use Rattle.filter.proofs.Filter.read_points.Reads as read_points
use Rattle.filter.proofs.point.point_refusal.Kinds as point_refusal_of
use Rattle.filter.proofs.point.point_refusal.Reads as point_refusal
use Rattle.filter.proofs.point.Spaced.part.Kinds as part_of
use Rattle.filter.proofs.point.Spaced.part.Reads as part
use Rattle.filter.proofs.point.point.Kinds as point_of
use Rattle.filter.proofs.point.point.Reads as point
use Rattle.stepped.proofs.open_prediction.Kinds as stepped_open_prediction_of
use Rattle.stepped.proofs.open_prediction.Reads as stepped_open_prediction
use Rattle.stepped.proofs.open_correction.Kinds as stepped_open_correction_of
use Rattle.stepped.proofs.open_correction.Reads as stepped_open_correction
use Rattle.stepped.proofs.ask.Kinds as stepped_ask_of
use Rattle.stepped.proofs.ask.Reads as stepped_ask
use Rattle.stepped.proofs.image_prediction.Kinds as stepped_image_prediction_of
use Rattle.stepped.proofs.image_prediction.Reads as stepped_image_prediction
use Rattle.stepped.proofs.image_correction.Kinds as stepped_image_correction_of
use Rattle.stepped.proofs.image_correction.Reads as stepped_image_correction
use Rattle.stepped.proofs.close_prediction.Kinds as stepped_close_prediction_of
use Rattle.stepped.proofs.close_prediction.Reads as stepped_close_prediction
use Rattle.stepped.proofs.close_correction.Kinds as stepped_close_correction_of
use Rattle.stepped.proofs.close_correction.Reads as stepped_close_correction
use Rattle.stepped.proofs.close_correction_flat.Kinds as stepped_close_correction_flat_of
use Rattle.stepped.proofs.close_correction_flat.Reads as stepped_close_correction_flat
use Rattle.words.proofs.float_of.Kinds as float_of_of
use Rattle.words.proofs.float_of.Reads as float_of
use Rattle.words.proofs.bits_of.Kinds as bits_of_of
use Rattle.words.proofs.bits_of.Reads as bits_of
use Rattle.words.proofs.worded.Worded.from_word.Kinds as from_word_of
use Rattle.words.proofs.worded.Worded.from_word.Reads as from_word
use Rattle.words.proofs.worded.Worded.to_word.Kinds as to_word_of
use Rattle.words.proofs.worded.Worded.to_word.Reads as to_word
use Rattle.words.proofs.digit.Kinds as digit_of
use Rattle.words.proofs.digit.Reads as digit
use Rattle.words.proofs.word_at.Kinds as word_at_of
use Rattle.words.proofs.word_at.Reads as word_at
use Rattle.script.proofs.names.name_of.Kinds as name_of_of
use Rattle.script.proofs.names.name_of.Reads as name_of
use Rattle.script.proofs.names.call_at.Kinds as call_at_of
use Rattle.script.proofs.names.call_at.Reads as call_at
use Rattle.script.proofs.numbers.size_at.Kinds as size_at_of
use Rattle.script.proofs.numbers.size_at.Reads as size_at
use Rattle.script.proofs.numbers.number_at.Kinds as number_at_of
use Rattle.script.proofs.numbers.number_at.Reads as number_at
use Rattle.script.proofs.numbers.kind_at.Kinds as kind_at_of
use Rattle.script.proofs.numbers.kind_at.Reads as kind_at
use Rattle.script.proofs.text.is_blank.Kinds as is_blank_of
use Rattle.script.proofs.text.is_blank.Reads as is_blank
use Rattle.script.proofs.text.line_end.Kinds as line_end_of
use Rattle.script.proofs.text.line_end.Reads as line_end
use Rattle.script.proofs.text.token_at.Kinds as token_at_of
use Rattle.script.proofs.text.token_at.Reads as token_at
use Rattle.script.proofs.text.no_token.Kinds as no_token_of
use Rattle.script.proofs.text.no_token.Reads as no_token
use Rattle.script.proofs.text.same_bytes.Kinds as same_bytes_of
use Rattle.script.proofs.text.same_bytes.Reads as same_bytes
use Rattle.script.proofs.numbers.list_at.Kinds as list_at_of
use Rattle.script.proofs.numbers.list_at.Reads as list_at
use Rattle.script.proofs.write.put.Kinds as put_of
use Rattle.script.proofs.write.put.Reads as put
use Rattle.script.proofs.write.gather.Kinds as gather_of
use Rattle.script.proofs.write.gather.Reads as gather
use Rattle.script.proofs.counts.times.Kinds as times_of
use Rattle.script.proofs.counts.times.Reads as times
use Rattle.script.proofs.write.put_bit.Kinds as put_bit_of
use Rattle.script.proofs.write.put_bit.Reads as put_bit
use Rattle.script.proofs.write.put_stage.Kinds as put_stage_of
use Rattle.script.proofs.write.put_stage.Reads as put_stage
use Rattle.script.proofs.write.put_way.Kinds as put_way_of
use Rattle.script.proofs.write.put_way.Reads as put_way
use Rattle.script.proofs.write.put_number.Kinds as put_number_of
use Rattle.script.proofs.write.put_number.Reads as put_number
use Rattle.script.proofs.write.put_numbers.Kinds as put_numbers_of
use Rattle.script.proofs.write.put_numbers.Reads as put_numbers

-- a function of parameters ps and result r; Says is what its contract tells of a call: of the arguments, the result and the parameters at exit
module _ {n : ℕ} (ps : List (ParamKind n)) (r : ResultKind n) (Says : Out n ps r) where
  -- the contract allows the answer z with the lent places left as w
  abbrev pub Allows : (κs : Lfts n) (a : Dens κs ps) → (res_t r κs).Denot → Lasts (ended_of n ps r) κs a → Type 0
  Allows κs a z w = Says κs a z (at_exit (ended_of n ps r) κs a w)

  -- of any arguments it allows one answer: one value, and one content of every lent place
  abbrev pub OneAnswer : Type 0
  OneAnswer = (κs : Lfts n) (a : Dens κs ps) (z z' : (res_t r κs).Denot) (w w' : Lasts (ended_of n ps r) κs a) → Allows κs a z w → Allows κs a z' w' → (z ≡ z') × (w ≡ w')

  -- the same where the value is a part of a lent slice: where it lies, and its numbers (the reference has a ghost name besides, which no program sees)
  abbrev pub OnePart : {X : Type 0} → ((κs : Lfts n) → (res_t r κs).Denot → Bor X) → Type 0
  OnePart part =
      (κs : Lfts n) (a : Dens κs ps) (z z' : (res_t r κs).Denot) (w w' : Lasts (ended_of n ps r) κs a)
      → Allows κs a z w → Allows κs a z' w' → ((part κs z).ref_ptr ≡ (part κs z').ref_ptr) × ((part κs z).now ≡ (part κs z').now) × (w ≡ w')

-- a function that is generic over `T: Number`: its signature and its contract at a type with that bound
module _ {n : ℕ} (ps : (R : RattleType) → Laws R → IsCopy R → List (ParamKind n)) (r : (R : RattleType) → Laws R → IsCopy R → ResultKind n) where
  -- what rattle reads off the source takes the type, what is known of it, and each trait's members and dictionary
  abbrev pub OfNumber : Type 2
  OfNumber =
      (R : RattleType) (L : Laws R) (C : IsCopy R)
      → Number.Ghosts R.Denot → Dict → Clone.Ghosts R.Denot → Dict → PartialOrd.Ghosts R.Denot → Dict → PartialEq.Ghosts R.Denot → Dict
      → Add.Ghosts R.Denot R.Denot R.Denot → Dict → Sub.Ghosts R.Denot R.Denot R.Denot → Dict → Mul.Ghosts R.Denot R.Denot R.Denot → Dict
      → Div.Ghosts R.Denot R.Denot R.Denot → Dict → Neg.Ghosts R.Denot R.Denot → Dict → Out n (ps R L C) (r R L C)

  module _ (says : OfNumber) where
    abbrev pub At : (T : Instance) → Out n (ps T.row T.laws T.copies) (r T.row T.laws T.copies)
    At T = says T.row T.laws T.copies T.number T.number_at T.clone T.clone_at T.ord T.ord_at T.eq T.eq_at T.add T.add_at T.sub T.sub_at T.mul T.mul_at T.div T.div_at T.neg T.neg_at

    -- whatever the type, its contract allows one answer
    abbrev pub OneAnswerOf : Type 2
    OneAnswerOf = (T : Instance) → OneAnswer (ps T.row T.laws T.copies) (r T.row T.laws T.copies) (At T)

-- the same of one whose bound is a trait above Number, as `T: Rooted`, which has members of its own, More; and where the value is a part of a lent slice
module _ (More : Type 0 → Type 1) {n : ℕ} (ps : (R : RattleType) → Laws R → IsCopy R → List (ParamKind n)) (r : (R : RattleType) → Laws R → IsCopy R → ResultKind n) where
  abbrev pub OfMore : Type 2
  OfMore =
      (R : RattleType) (L : Laws R) (C : IsCopy R) → More R.Denot → Dict
      → Number.Ghosts R.Denot → Dict → Clone.Ghosts R.Denot → Dict → PartialOrd.Ghosts R.Denot → Dict → PartialEq.Ghosts R.Denot → Dict
      → Add.Ghosts R.Denot R.Denot R.Denot → Dict → Sub.Ghosts R.Denot R.Denot R.Denot → Dict → Mul.Ghosts R.Denot R.Denot R.Denot → Dict
      → Div.Ghosts R.Denot R.Denot R.Denot → Dict → Neg.Ghosts R.Denot R.Denot → Dict → Out n (ps R L C) (r R L C)

  module _ (says : OfMore) where
    abbrev pub AtMore : (T : Instance) → More T.row.Denot → Dict → Out n (ps T.row T.laws T.copies) (r T.row T.laws T.copies)
    AtMore T more more_at = says T.row T.laws T.copies more more_at T.number T.number_at T.clone T.clone_at T.ord T.ord_at T.eq T.eq_at T.add T.add_at T.sub T.sub_at T.mul T.mul_at T.div T.div_at T.neg T.neg_at

    abbrev pub OneAnswerMore : Type 2
    OneAnswerMore = (T : Instance) (more : More T.row.Denot) (more_at : Dict) → OneAnswer (ps T.row T.laws T.copies) (r T.row T.laws T.copies) (AtMore T more more_at)

    abbrev pub OnePartMore : ((R : RattleType) (L : Laws R) (C : IsCopy R) (κs : Lfts n) → (res_t (r R L C) κs).Denot → Bor (List R.Denot)) → Type 2
    OnePartMore part = (T : Instance) (more : More T.row.Denot) (more_at : Dict) → OnePart (ps T.row T.laws T.copies) (r T.row T.laws T.copies) (AtMore T more more_at) (part T.row T.laws T.copies)

-- p and q: each of two is what the definition says
pub by : {A : Type 0} {x y d : A} → x ≡ d → y ≡ d → x ≡ y
by p q = p ∙ sym q

-- the same of what each of two is seen as: of whatever is made of values, of a value and of a list
module _ (T : Instance) where
  pub by_seen : (F : Type 0 → Type 0) {x y : F T.row.Denot} {d : F Float} → T.number.seen F x ≡ d → T.number.seen F y ≡ d → x ≡ y
  by_seen F p q = seen_one T F (by p q)

  pub by_float : {x y : T.row.Denot} {d : Float} → T.number.float x ≡ d → T.number.float y ≡ d → x ≡ y
  by_float p q = float_one T (by p q)

  pub by_floats : {x y : List T.row.Denot} {d : List Float} → T.number.floats x ≡ d → T.number.floats y ≡ d → x ≡ y
  by_floats p q = floats_one T (by p q)

-- the one lent buffer, after self
pub lent : {A : Type 0} {l m : List A} → l ≡ m → ◌≡◌ {A = Unit {0} × (List A × Unit {0})} (tt, (l, tt)) (tt, (m, tt))
lent {A} e = ap (λ (l : List A). (tt, (l, tt))) e

-- ---- THE TABLE: a line for each public function

pub is_finite_one : OneAnswerOf is_finite_of.ps is_finite_of.r is_finite.Learnt
is_finite_one T κs a z z' w w' p q = (by p q, refl)

pub is_above_zero_one : OneAnswerOf is_above_zero_of.ps is_above_zero_of.r is_above_zero.Learnt
is_above_zero_one T κs a z z' w w' p q = (by p q, refl)

pub all_finite_one : OneAnswerOf all_finite_of.ps all_finite_of.r all_finite.Learnt
all_finite_one T κs a z z' w w' p q = (by p q, refl)

pub placeless_one : OneAnswer placeless_of.ps placeless_of.r placeless.Learnt
placeless_one κs a z z' w w' p q = (by p q, refl)

pub earlier_one : OneAnswer earlier_of.ps earlier_of.r earlier.Learnt
earlier_one κs a z z' w w' p q = (by p q, refl)

pub slice_number_one : OneAnswer slice_number_of.ps slice_number_of.r slice_number.Learnt
slice_number_one κs a z z' w w' p q = (by p q, refl)

pub verdict_one : OneAnswer verdict_of.ps verdict_of.r verdict.Learnt
verdict_one κs a z z' w w' p q = (by p q, refl)

pub whole_one : OneAnswerOf whole_of.ps whole_of.r whole.Learnt
whole_one T κs a z z' w w' p q = (by_float T p q, refl)

pub held_one : OneAnswerOf held_of.ps held_of.r held.Learnt
held_one T κs a z z' w w' p q = (refl, refl)

pub first_bad_one : OneAnswerOf first_bad_of.ps first_bad_of.r first_bad.Learnt
first_bad_one T κs a z z' w w' p q = (by p q, refl)

pub next_bad_one : OneAnswerOf next_bad_of.ps next_bad_of.r next_bad.Learnt
next_bad_one T κs a z z' w w' p q = (by p q, refl)

pub root_bits_one : OneAnswerMore Rooted.Ghosts root_bits_of.ps root_bits_of.r root_bits.Learnt
root_bits_one T R d κs a z z' w w' p q = (by p.0 q.0, refl)

pub root_of_bits_one : OneAnswerMore Rooted.Ghosts root_of_bits_of.ps root_of_bits_of.r root_of_bits.Learnt
root_of_bits_one T R d κs a z z' w w' p q = (by_float T p q, refl)

pub nearest_root_one : OneAnswerMore Rooted.Ghosts nearest_root_of.ps nearest_root_of.r nearest_root.Learnt
nearest_root_one T R d κs a z z' w w' p q = (by p q, refl)

pub square_root_one : OneAnswerMore Rooted.Ghosts square_root_of.ps square_root_of.r square_root.Learnt
square_root_one T R d κs a z z' w w' p q = (by_seen T Outcome p q, refl)

pub wrap_one : OneAnswerOf wrap_of.ps wrap_of.r wrap.Learnt
wrap_one T κs a z z' w w' p q = (by_seen T Outcome p q, refl)

pub shown_one : OneAnswerOf shown_of.ps shown_of.r shown.Learnt
shown_one T κs a z z' w w' p q = (by_float T p q, refl)

pub through_one : OneAnswerOf through_of.ps through_of.r through.Learnt
through_one T κs a z z' w w' p q = (by_float T p q, refl)

pub half_one : OneAnswerOf half_of.ps half_of.r half.Learnt
half_one T κs a z z' w w' p q = (by_float T p q, refl)

pub passes_one : OneAnswerOf passes_of.ps passes_of.r passes.Learnt
passes_one T κs a z z' w w' p q = (by p q, refl)

pub kind_refusal_one : OneAnswerOf kind_refusal_of.ps kind_refusal_of.r kind_refusal.Learnt
kind_refusal_one T κs a z z' w w' p q = (by_seen T (λ A. Outcome (Kind A)) p q, refl)

pub row_one : OneAnswer row_of.ps row_of.r row.Learnt
row_one κs a z z' w w' p q = (by p.0 q.0, refl)

pub cell_one : OneAnswer cell_of.ps cell_of.r cell.Learnt
cell_one κs a z z' w w' p q = (by p.0 q.0, refl)

pub dot_one : OneAnswerOf dot_of.ps dot_of.r dot.Learnt
dot_one T κs a z z' w w' p q = (by_float T p q, refl)

pub less_one : OneAnswerOf less_of.ps less_of.r less.Learnt
less_one T κs a z z' w w' p q = (by_float T p q, refl)

pub plus_one : OneAnswerOf plus_of.ps plus_of.r plus.Learnt
plus_one T κs a z z' w w' p q = (by_floats T p q, refl)

pub minus_one : OneAnswerOf minus_of.ps minus_of.r minus.Learnt
minus_one T κs a z z' w w' p q = (by_floats T p q, refl)

pub refused_by_one : OneAnswer refused_by_of.ps refused_by_of.r refused_by.Learnt
refused_by_one κs a z z' w w' p q = (by p q, refl)

pub cholesky_decompose_lower_one : OneAnswerMore Rooted.Ghosts cholesky_decompose_lower_of.ps cholesky_decompose_lower_of.r cholesky_decompose_lower.Learnt
cholesky_decompose_lower_one T R d κs a z z' w w' p q = (by_seen T (λ A. Outcome (List A)) p q, refl)

pub invert_l_cholesky_one : OneAnswerOf invert_l_cholesky_of.ps invert_l_cholesky_of.r invert_l_cholesky.Learnt
invert_l_cholesky_one T κs a z z' w w' p q = (by_floats T p q, refl)

pub mult_transb_one : OneAnswerOf mult_transb_of.ps mult_transb_of.r mult_transb.Learnt
mult_transb_one T κs a z z' w w' p q = (by_floats T p q, refl)

pub place_one : OneAnswer place_of.ps place_of.r place.Learnt
place_one κs a z z' w w' p q = (by p.0 q.0, refl)

pub compute_weights_one : OneAnswerOf compute_weights_of.ps compute_weights_of.r compute_weights.Learnt
compute_weights_one T κs a z z' w w' p q = (by_seen T Weighting p q, refl)

pub scale_one : OneAnswerOf scale_of.ps scale_of.r scale.Learnt
scale_one T κs a z z' w w' p q = (by_float T p q, refl)

pub center_weight_one : OneAnswerOf center_weight_of.ps center_weight_of.r center_weight.Learnt
center_weight_one T κs a z z' w w' p q = (by_float T p q, refl)

pub weights_one : OneAnswerOf weights_of.ps weights_of.r weights.Learnt
weights_one T κs a z z' w w' p q = (by_floats T p q, refl)

pub weights_pass_one : OneAnswerOf weights_pass_of.ps weights_pass_of.r weights_pass.Learnt
weights_pass_one T κs a z z' w w' p q = (by p q, refl)

pub generate_sigma_points_one : OneAnswerMore Rooted.Ghosts generate_sigma_points_of.ps generate_sigma_points_of.r generate_sigma_points.Learnt
generate_sigma_points_one T R d κs a z z' w w' p q = (by_seen T (λ A. Outcome (List A)) p q, refl)

pub anchored_mean_one : OneAnswerOf anchored_mean_of.ps anchored_mean_of.r anchored_mean.Learnt
anchored_mean_one T κs a z z' w w' p q = (by_floats T p q, refl)

pub deviations_one : OneAnswerOf deviations_of.ps deviations_of.r deviations.Learnt
deviations_one T κs a z z' w w' p q = (by_floats T p q, refl)

pub spread_one : OneAnswerOf spread_of.ps spread_of.r spread.Learnt
spread_one T κs a z z' w w' p q = (by_floats T p q, refl)

pub reconstruct_prediction_one : OneAnswerOf reconstruct_prediction_of.ps reconstruct_prediction_of.r reconstruct_prediction.Learnt
reconstruct_prediction_one T κs a z z' w w' p q = (by_seen T (λ A. Outcome (Moments A)) p q, refl)

pub correct_with_weights_residuals_one : OneAnswerMore Rooted.Ghosts correct_with_weights_residuals_of.ps correct_with_weights_residuals_of.r correct_with_weights_residuals.Learnt
correct_with_weights_residuals_one T R d κs a z z' w w' p q = (by_seen T (λ A. Outcome (Moments A)) p q, refl)

pub correct_nonlinear_one : OneAnswerMore Rooted.Ghosts correct_nonlinear_of.ps correct_nonlinear_of.r correct_nonlinear.Learnt
correct_nonlinear_one T R d κs a z z' w w' p q = (by_seen T (λ A. Outcome (Moments A)) p q, refl)

pub early_refusal_one : OneAnswer early_refusal_of.ps early_refusal_of.r early_refusal.Learnt
early_refusal_one κs a z z' w w' p q = (by p q, refl)

pub first_refusal_one : OneAnswer first_refusal_of.ps first_refusal_of.r first_refusal.Learnt
first_refusal_one κs a z z' w w' p q = (by p q, refl)

pub is_shut_one : OneAnswer is_shut_of.ps is_shut_of.r is_shut.Learnt
is_shut_one κs a z z' w w' p q = (by p q, refl)

pub is_predicting_one : OneAnswer is_predicting_of.ps is_predicting_of.r is_predicting.Learnt
is_predicting_one κs a z z' w w' p q = (by p q, refl)

pub is_correcting_one : OneAnswer is_correcting_of.ps is_correcting_of.r is_correcting.Learnt
is_correcting_one κs a z z' w w' p q = (by p q, refl)

pub in_range_one : OneAnswer in_range_of.ps in_range_of.r in_range.Learnt
in_range_one κs a z z' w w' p q = (by p q, refl)

pub is_sized_one : OneAnswer is_sized_of.ps is_sized_of.r is_sized.Learnt
is_sized_one κs a z z' w w' p q = (by p q, refl)

pub is_state_one : OneAnswer is_state_of.ps is_state_of.r is_state.Learnt
is_state_one κs a z z' w w' p q = (by p q, refl)

pub square_one : OneAnswer square_of.ps square_of.r square.Learnt
square_one κs a z z' w w' p q = (by p q, refl)

pub point_numbers_one : OneAnswer point_numbers_of.ps point_numbers_of.r point_numbers.Learnt
point_numbers_one κs a z z' w w' p q = (by p q, refl)

pub last_point_one : OneAnswer last_point_of.ps last_point_of.r last_point.Learnt
last_point_one κs a z z' w w' p q = (by p q, refl)

pub new_sheet_one : OneAnswerOf new_sheet_of.ps new_sheet_of.r new_sheet.Learnt
new_sheet_one T κs a z z' w w' p q = (by_seen T NewSheet p q, refl)

pub new_track_one : OneAnswerOf new_track_of.ps new_track_of.r new_track.Learnt
new_track_one T κs a z z' w w' p q = (by_seen T NewTrack p q, refl)

pub empty_sheet_one : OneAnswerOf empty_sheet_of.ps empty_sheet_of.r empty_sheet.Learnt
empty_sheet_one T κs a z z' w w' p q = (by_seen T Sheet p q, refl)

pub empty_params_one : OneAnswerOf empty_params_of.ps empty_params_of.r empty_params.Learnt
empty_params_one T κs a z z' w w' p q = (by_seen T Params p q, refl)

pub empty_track_one : OneAnswerOf empty_track_of.ps empty_track_of.r empty_track.Learnt
empty_track_one T κs a z z' w w' p q = (by_seen T Track p q, refl)

pub refused_one : OneAnswerOf refused_of.ps refused_of.r refused.Learnt
refused_one T κs a z z' w w' p q = (by_seen T Answer p q, refl)

pub fresh_track_one : OneAnswerOf fresh_track_of.ps fresh_track_of.r fresh_track.Learnt
fresh_track_one T κs a z z' w w' p q = (by_seen T Track p q, refl)

pub sooner_one : OneAnswer sooner_of.ps sooner_of.r sooner.Learnt
sooner_one κs a z z' w w' p q = (by p q, refl)

pub new_one : OneAnswerOf new_of.ps new_of.r new.Learnt
new_one T κs a z z' w w' p q = (by_seen T Answer p q, refl)

pub set_x_one : OneAnswerOf set_x_of.ps set_x_of.r set_x.Learnt
set_x_one T κs a z z' w w' p q = (by_seen T Answer p q, refl)

pub set_p_one : OneAnswerOf set_p_of.ps set_p_of.r set_p.Learnt
set_p_one T κs a z z' w w' p q = (by_seen T Answer p q, refl)

pub set_q_one : OneAnswerOf set_q_of.ps set_q_of.r set_q.Learnt
set_q_one T κs a z z' w w' p q = (by_seen T Answer p q, refl)

pub set_params_one : OneAnswerOf set_params_of.ps set_params_of.r set_params.Learnt
set_params_one T κs a z z' w w' p q = (by_seen T Answer p q, refl)

pub set_kind_one : OneAnswerOf set_kind_of.ps set_kind_of.r set_kind.Learnt
set_kind_one T κs a z z' w w' p q = (by_seen T Answer p q, refl)

pub close_prediction_one : OneAnswerMore Rooted.Ghosts close_prediction_of.ps close_prediction_of.r close_prediction.Learnt
close_prediction_one T R d κs a z z' w w' p q = (by_seen T Answer p q, refl)

pub close_correction_one : OneAnswerMore Rooted.Ghosts close_correction_of.ps close_correction_of.r close_correction.Learnt
close_correction_one T R d κs a z z' w w' p q = (by_seen T Answer p q, refl)

pub close_correction_flat_one : OneAnswerMore Rooted.Ghosts close_correction_flat_of.ps close_correction_flat_of.r close_correction_flat.Learnt
close_correction_flat_one T R d κs a z z' w w' p q = (by_seen T Answer p q, refl)

pub abandon_one : OneAnswerMore Rooted.Ghosts abandon_of.ps abandon_of.r abandon.Learnt
abandon_one T R d κs a z z' w w' p q = (by_seen T Answer p q, refl)

-- the stepped calls

pub stepped_open_prediction_one : OneAnswer stepped_open_prediction_of.ps stepped_open_prediction_of.r stepped_open_prediction.Learnt
stepped_open_prediction_one κs a z z' w w' p q = (by p q, refl)

pub stepped_open_correction_one : OneAnswer stepped_open_correction_of.ps stepped_open_correction_of.r stepped_open_correction.Learnt
stepped_open_correction_one κs a z z' w w' p q = (by p q, refl)

pub stepped_ask_one : OneAnswer stepped_ask_of.ps stepped_ask_of.r stepped_ask.Learnt
stepped_ask_one κs a z z' w w' p q = (by p.0 q.0, lent (by p.1 q.1))

pub stepped_image_prediction_one : OneAnswer stepped_image_prediction_of.ps stepped_image_prediction_of.r stepped_image_prediction.Learnt
stepped_image_prediction_one κs a z z' w w' p q = (by p q, refl)

pub stepped_image_correction_one : OneAnswer stepped_image_correction_of.ps stepped_image_correction_of.r stepped_image_correction.Learnt
stepped_image_correction_one κs a z z' w w' p q = (by p q, refl)

pub stepped_close_prediction_one : OneAnswer stepped_close_prediction_of.ps stepped_close_prediction_of.r stepped_close_prediction.Learnt
stepped_close_prediction_one κs a z z' w w' p q = (by p q, refl)

pub stepped_close_correction_one : OneAnswer stepped_close_correction_of.ps stepped_close_correction_of.r stepped_close_correction.Learnt
stepped_close_correction_one κs a z z' w w' p q = (by p q, refl)

pub stepped_close_correction_flat_one : OneAnswer stepped_close_correction_flat_of.ps stepped_close_correction_flat_of.r stepped_close_correction_flat.Learnt
stepped_close_correction_flat_one κs a z z' w w' p q = (by p q, refl)

pub read_params_one : OneAnswerOf read_params_of.ps read_params_of.r read_params.Learnt
read_params_one T κs a z z' w w' p q = (by_seen T ParamsRead p q, refl)

pub read_stale_one : OneAnswerOf read_stale_of.ps read_stale_of.r read_stale.Learnt
read_stale_one T κs a z z' w w' p q = (by p q, refl)

pub open_prediction_one : OneAnswerMore Rooted.Ghosts open_prediction_of.ps open_prediction_of.r open_prediction.Learnt
open_prediction_one T R d κs a z z' w w' p q = (by_seen T Answer p.0 q.0, lent (by_floats T p.1 q.1))

pub open_correction_one : OneAnswerMore Rooted.Ghosts open_correction_of.ps open_correction_of.r open_correction.Learnt
open_correction_one T R d κs a z z' w w' p q = (by_seen T Answer p.0 q.0, lent (by_floats T p.1 q.1))

pub read_x_one : OneAnswerOf read_x_of.ps read_x_of.r read_x.Learnt
read_x_one T κs a z z' w w' p q = (by p.0 q.0, lent (by_floats T p.1 q.1))

pub read_p_one : OneAnswerOf read_p_of.ps read_p_of.r read_p.Learnt
read_p_one T κs a z z' w w' p q = (by p.0 q.0, lent (by_floats T p.1 q.1))

pub read_q_one : OneAnswerOf read_q_of.ps read_q_of.r read_q.Learnt
read_q_one T κs a z z' w w' p q = (by p.0 q.0, lent (by_floats T p.1 q.1))

pub read_points_one : OneAnswerOf read_points_of.ps read_points_of.r read_points.Learnt
read_points_one T κs a z z' w w' p q = (by p.0 q.0, lent (by_floats T p.1 q.1))

pub point_refusal_one : OneAnswerOf point_refusal_of.ps point_refusal_of.r point_refusal.Learnt
point_refusal_one T κs a z z' w w' p q = (by p q, refl)

pub part_one : OnePartMore Spaced.Ghosts part_of.ps part_of.r part.Learnt (λ R L C κs z. z)
part_one T R d κs a z z' w w' p q = (by p.1 q.1, by p.0 q.0, refl)

pub point_one : OnePartMore Spaced.Ghosts point_of.ps point_of.r point.Learnt (λ R L C κs z. z)
point_one T R d κs a z z' w w' p q = (by p.1 q.1, by_floats T p.0 q.0, refl)

pub from_word_one : OneAnswerMore Worded.Ghosts from_word_of.ps from_word_of.r from_word.Learnt
from_word_one T R d κs a z z' w w' p q = (by_float T p q, refl)

pub to_word_one : OneAnswerMore Worded.Ghosts to_word_of.ps to_word_of.r to_word.Learnt
to_word_one T R d κs a z z' w w' p q = (by p q, refl)

pub float_of_one : OneAnswerMore Worded.Ghosts float_of_of.ps float_of_of.r float_of.Learnt
float_of_one T R d κs a z z' w w' p q = (by_float T p q, refl)

pub bits_of_one : OneAnswerMore Worded.Ghosts bits_of_of.ps bits_of_of.r bits_of.Learnt
bits_of_one T R d κs a z z' w w' p q = (by p.0 q.0, refl)

pub digit_one : OneAnswer digit_of.ps digit_of.r digit.Learnt
digit_one κs a z z' w w' p q = (by p q, refl)

pub word_at_one : OneAnswerMore Worded.Ghosts word_at_of.ps word_at_of.r word_at.Learnt
word_at_one T R d κs a z z' w w' p q = (by p q, refl)

pub name_of_one : OneAnswer name_of_of.ps name_of_of.r name_of.Learnt
name_of_one κs a z z' w w' p q = (by p q, refl)

pub call_at_one : OneAnswer call_at_of.ps call_at_of.r call_at.Learnt
call_at_one κs a z z' w w' p q = (by p q, refl)

pub size_at_one : OneAnswer size_at_of.ps size_at_of.r size_at.Learnt
size_at_one κs a z z' w w' p q = (by p q, refl)

pub number_at_one : OneAnswerMore Worded.Ghosts number_at_of.ps number_at_of.r number_at.Learnt
number_at_one T R d κs a z z' w w' p q = (by_seen T (λ A. Option (Read A)) p q, refl)

pub kind_at_one : OneAnswerMore Worded.Ghosts kind_at_of.ps kind_at_of.r kind_at.Learnt
kind_at_one T R d κs a z z' w w' p q = (by_seen T (λ A. Option (Read (Kind A))) p q, refl)

pub is_blank_one : OneAnswer is_blank_of.ps is_blank_of.r is_blank.Learnt
is_blank_one κs a z z' w w' p q = (by p q, refl)

pub line_end_one : OneAnswer line_end_of.ps line_end_of.r line_end.Learnt
line_end_one κs a z z' w w' p q = (by p q, refl)

pub token_at_one : OneAnswer token_at_of.ps token_at_of.r token_at.Learnt
token_at_one κs a z z' w w' p q = (by p q, refl)

pub no_token_one : OneAnswer no_token_of.ps no_token_of.r no_token.Learnt
no_token_one κs a z z' w w' p q = (by p q, refl)

pub same_bytes_one : OneAnswer same_bytes_of.ps same_bytes_of.r same_bytes.Learnt
same_bytes_one κs a z z' w w' p q = (by p q, refl)

pub list_at_one : OneAnswerMore Worded.Ghosts list_at_of.ps list_at_of.r list_at.Learnt
list_at_one T R d κs a z z' w w' p q = (by p.0 q.0, ap (λ (l : List T.row.Denot). (tt, (tt, (l, tt)))) (by_floats T p.1 q.1))

pub put_one : OneAnswer put_of.ps put_of.r put.Learnt
put_one κs a z z' w w' p q = (by p.0 q.0, ap (λ (l : List ℕ). (l, (tt, (tt, tt)))) (by p.1 q.1))

pub gather_one : OneAnswer gather_of.ps gather_of.r gather.Learnt
gather_one κs a z z' w w' p q = (by p.0 q.0, ap (λ (l : List ℕ). (l, (tt, (tt, tt)))) (by p.1 q.1))

pub times_one : OneAnswer times_of.ps times_of.r times.Learnt
times_one κs a z z' w w' p q = (by p q, refl)

pub put_bit_one : OneAnswer put_bit_of.ps put_bit_of.r put_bit.Learnt
put_bit_one κs a z z' w w' p q = (by p.0 q.0, ap (λ (l : List ℕ). (l, (tt, (tt, tt)))) (by p.1 q.1))

pub put_stage_one : OneAnswer put_stage_of.ps put_stage_of.r put_stage.Learnt
put_stage_one κs a z z' w w' p q = (by p.0 q.0, ap (λ (l : List ℕ). (l, (tt, (tt, tt)))) (by p.1 q.1))

pub put_way_one : OneAnswer put_way_of.ps put_way_of.r put_way.Learnt
put_way_one κs a z z' w w' p q = (by p.0 q.0, ap (λ (l : List ℕ). (l, (tt, (tt, tt)))) (by p.1 q.1))

pub put_number_one : OneAnswerMore Worded.Ghosts put_number_of.ps put_number_of.r put_number.Learnt
put_number_one T R d κs a z z' w w' p q = (by p.0 q.0, ap (λ (l : List ℕ). (l, (tt, (tt, tt)))) (by p.1 q.1))

pub put_numbers_one : OneAnswerMore Worded.Ghosts put_numbers_of.ps put_numbers_of.r put_numbers.Learnt
put_numbers_one T R d κs a z z' w w' p q = (by p.0 q.0, ap (λ (l : List ℕ). (l, (tt, (tt, (tt, tt))))) (by p.1 q.1))

-- ---- A WEAKER CONTRACT FAILS IT: of the wrap, what it is refused for, and nothing of the value

abbrev refusals : OfNumber wrap_of.ps wrap_of.r
refusals R L C number _ _ _ _ _ _ _ _ _ _ _ _ _ _ _ _ _ κs a z s = refusal (number.seen Outcome z) ≡ refusal (Wrap.wrap_of number.format (number.float a.0) (number.float a.1.0))

pub refusals_several : OneAnswerOf wrap_of.ps wrap_of.r refusals → ⊥
unfolding Wrap.wrap_of Numbers.all_finite lt add
refusals_several one = apart (ap (λ (z : Outcome Float). or plus_zero z) (one f64 ([], tt) (plus_zero, (one_number, tt)) (accepted plus_zero) (accepted nan) (tt, (tt, tt)) (tt, (tt, tt)) passes passes).0)
  where
    passes : refusal (accepted plus_zero) ≡ refusal (Wrap.wrap_of binary64 plus_zero one_number)
    passes = refl

    apart : plus_zero ≡ nan → ⊥
    apart e = let z : ◌≡◌ {A = ℕ} 0 1 = cc in omega arith
