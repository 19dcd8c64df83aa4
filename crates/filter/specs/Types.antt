-- A filter, its parts and its answers, as the definitions speak of them: those of the code, made of floats. Definitions only.
use Rattle.std.specs.Prelude.{Float}
use Rattle.filter.specs.declared.Weighted.{Weighted as WeightedOf}
use Rattle.filter.specs.declared.Sheet.{Sheet as SheetOf}
use Rattle.filter.specs.declared.Kept.{Kept as KeptOf}
use Rattle.filter.specs.declared.Track.{Track as TrackOf}
use Rattle.filter.specs.declared.Filter.{Filter as FilterOf}
use Rattle.filter.specs.declared.Answer.{Answer as AnswerOf}
use Rattle.filter.specs.declared.ParamsRead.{ParamsRead as ParamsReadOf}
use Rattle.filter.specs.declared.measurement.Intake.{Intake as IntakeOf}
use Rattle.filter.specs.declared.new.NewSheet.{NewSheet as NewSheetOf}
use Rattle.filter.specs.declared.new.NewTrack.{NewTrack as NewTrackOf}

abbrev pub Weighted : Type 0
Weighted = WeightedOf Float

abbrev pub Sheet : Type 0
Sheet = SheetOf Float

abbrev pub Kept : Type 0
Kept = KeptOf Float

abbrev pub Track : Type 0
Track = TrackOf Float

abbrev pub Filter : Type 0
Filter = FilterOf Float

abbrev pub Answer : Type 0
Answer = AnswerOf Float

abbrev pub ParamsRead : Type 0
ParamsRead = ParamsReadOf Float

abbrev pub Intake : Type 0
Intake = IntakeOf Float

abbrev pub NewSheet : Type 0
NewSheet = NewSheetOf Float

abbrev pub NewTrack : Type 0
NewTrack = NewTrackOf Float
