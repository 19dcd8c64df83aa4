-- The calls of the f32 filter with their inputs, and each as a call of any filter. They are document 01's, which A6 asks for: no flat close is among them, no stepped call and no save. Definitions only.
use Rattle.std.specs.Prelude.{ℕ, List, Float}
use Rattle.filter.specs.Calls as calls
use Rattle.angles.specs.Kinds.{Kind}
use Rattle.sigma.specs.Weights.{Params}

-- ---- by sorts, as crates/filter/specs/Calls.antt has them. A list is a lent slice

-- with nothing open, those that change the sheet
pub data SheetCall : Type 0 where
  set_q : List Float → SheetCall
  set_params : Params → SheetCall
  set_kind : ℕ → Kind → SheetCall

-- with nothing open, those that change the track
pub data SetCall : Type 0 where
  set_x set_p : List Float → SetCall
  open_prediction open_correction : List Float → SetCall

-- with their own open
pub data CloseCall : Type 0 where
  close_prediction : List Float → CloseCall
  -- m, z, R, the four measurement kinds, the observed points
  close_correction : ℕ → List Float → List Float → List Kind → List Float → CloseCall

-- at any time
pub data ReadCall : Type 0 where
  read_x read_p read_q read_points : List Float → ReadCall
  read_params read_stale : ReadCall

pub data Call : Type 0 where
  writing : SheetCall → Call
  setting : SetCall → Call
  closing : CloseCall → Call
  abandon : Call
  reading : ReadCall → Call

-- ---- the call of the same name

abbrev pub as_sheet_call : SheetCall → calls.SheetCall
as_sheet_call (set_q v) = calls.set_q v
as_sheet_call (set_params p) = calls.set_params p
as_sheet_call (set_kind i k) = calls.set_kind i k

abbrev pub as_set_call : SetCall → calls.SetCall
as_set_call (set_x v) = calls.set_x v
as_set_call (set_p v) = calls.set_p v
as_set_call (open_prediction b) = calls.open_prediction b
as_set_call (open_correction b) = calls.open_correction b

abbrev pub as_close_call : CloseCall → calls.CloseCall
as_close_call (close_prediction v) = calls.close_prediction v
as_close_call (close_correction m z r kinds observed) = calls.close_correction m z r kinds observed

abbrev pub as_read_call : ReadCall → calls.ReadCall
as_read_call (read_x b) = calls.read_x b
as_read_call (read_p b) = calls.read_p b
as_read_call (read_q b) = calls.read_q b
as_read_call (read_points b) = calls.read_points b
as_read_call read_params = calls.read_params
as_read_call read_stale = calls.read_stale

abbrev pub as_call : Call → calls.Call
as_call (writing c) = calls.writing (as_sheet_call c)
as_call (setting c) = calls.setting (as_set_call c)
as_call (closing c) = calls.closing (as_close_call c)
as_call abandon = calls.abandon
as_call (reading c) = calls.reading (as_read_call c)
