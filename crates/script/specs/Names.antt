-- The names of the calls, each with the call that it names, of the two sides of a pair and of the f32 filter. Definitions only.
use Rattle.std.specs.Prelude.{ℕ, cond, List, [], ◌∷◌}
use Rattle.script.specs.Text.{token_of, part_of, same_bytes}
use Rattle.script.specs.declared.text.Token.{Token}
use Rattle.script.specs.declared.names.Name.{Name}
use Rattle.script.specs.declared.names.Name.TheVariants.{New, SetX, SetP, SetQ, SetParams, SetKind, OpenPrediction, OpenCorrection, ClosePrediction, CloseCorrection, CloseCorrectionFlat, Abandon, OpenPredictionStepped, OpenCorrectionStepped, Ask, ImagePrediction, ImageCorrection, ClosePredictionStepped, CloseCorrectionStepped, CloseCorrectionFlatStepped, ReadX, ReadP, ReadQ, ReadPoints, ReadParams, ReadStale, Save, Point, Wrap, Root, Dump, NewPair, Load, First, Second, Narrow, Unknown}
use Rattle.script.specs.declared.names.Call.{Call}

-- a name, in bytes, and its call
pub record Entry : Type 0 where
  pub word : List ℕ
  pub call : Name

-- the call of the first name that a token is
unfoldable pub named : List Entry → List ℕ → Name
named [] t = Unknown
named (e ∷ l) t = cond (same_bytes t e.word) e.call (named l t)

-- the table, in five parts, the last first
abbrev pub others : List Entry
others =
    record { word = 112 ∷ 111 ∷ 105 ∷ 110 ∷ 116 ∷ []; call = Point } ∷  -- point
    record { word = 119 ∷ 114 ∷ 97 ∷ 112 ∷ []; call = Wrap } ∷  -- wrap
    record { word = 114 ∷ 111 ∷ 111 ∷ 116 ∷ []; call = Root } ∷  -- root
    record { word = 100 ∷ 117 ∷ 109 ∷ 112 ∷ []; call = Dump } ∷  -- dump
    record { word = 110 ∷ 101 ∷ 119 ∷ 112 ∷ 97 ∷ 105 ∷ 114 ∷ []; call = NewPair } ∷  -- newpair
    record { word = 108 ∷ 111 ∷ 97 ∷ 100 ∷ []; call = Load } ∷  -- load
    record { word = 64 ∷ 49 ∷ []; call = First } ∷  -- @1
    record { word = 64 ∷ 50 ∷ []; call = Second } ∷  -- @2
    record { word = 64 ∷ 119 ∷ []; call = Narrow } ∷  -- @w
    []

abbrev pub readings : List Entry
readings =
    record { word = 114 ∷ 101 ∷ 97 ∷ 100 ∷ 120 ∷ []; call = ReadX } ∷  -- readx
    record { word = 114 ∷ 101 ∷ 97 ∷ 100 ∷ 112 ∷ []; call = ReadP } ∷  -- readp
    record { word = 114 ∷ 101 ∷ 97 ∷ 100 ∷ 113 ∷ []; call = ReadQ } ∷  -- readq
    record { word = 114 ∷ 101 ∷ 97 ∷ 100 ∷ 112 ∷ 116 ∷ 115 ∷ []; call = ReadPoints } ∷  -- readpts
    record { word = 114 ∷ 101 ∷ 97 ∷ 100 ∷ 112 ∷ 97 ∷ 114 ∷ []; call = ReadParams } ∷  -- readpar
    record { word = 114 ∷ 101 ∷ 97 ∷ 100 ∷ 115 ∷ 116 ∷ 97 ∷ 108 ∷ 101 ∷ []; call = ReadStale } ∷  -- readstale
    record { word = 115 ∷ 97 ∷ 118 ∷ 101 ∷ []; call = Save } ∷  -- save
    others

abbrev pub stepped : List Entry
stepped =
    record { word = 115 ∷ 111 ∷ 112 ∷ 101 ∷ 110 ∷ 112 ∷ []; call = OpenPredictionStepped } ∷  -- sopenp
    record { word = 115 ∷ 111 ∷ 112 ∷ 101 ∷ 110 ∷ 99 ∷ []; call = OpenCorrectionStepped } ∷  -- sopenc
    record { word = 97 ∷ 115 ∷ 107 ∷ []; call = Ask } ∷  -- ask
    record { word = 105 ∷ 109 ∷ 97 ∷ 103 ∷ 101 ∷ 112 ∷ []; call = ImagePrediction } ∷  -- imagep
    record { word = 105 ∷ 109 ∷ 97 ∷ 103 ∷ 101 ∷ 99 ∷ []; call = ImageCorrection } ∷  -- imagec
    record { word = 115 ∷ 99 ∷ 108 ∷ 111 ∷ 115 ∷ 101 ∷ 112 ∷ []; call = ClosePredictionStepped } ∷  -- sclosep
    record { word = 115 ∷ 99 ∷ 108 ∷ 111 ∷ 115 ∷ 101 ∷ 99 ∷ []; call = CloseCorrectionStepped } ∷  -- sclosec
    record { word = 115 ∷ 99 ∷ 108 ∷ 111 ∷ 115 ∷ 101 ∷ 102 ∷ []; call = CloseCorrectionFlatStepped } ∷  -- sclosef
    readings

abbrev pub steps : List Entry
steps =
    record { word = 111 ∷ 112 ∷ 101 ∷ 110 ∷ 112 ∷ []; call = OpenPrediction } ∷  -- openp
    record { word = 111 ∷ 112 ∷ 101 ∷ 110 ∷ 99 ∷ []; call = OpenCorrection } ∷  -- openc
    record { word = 99 ∷ 108 ∷ 111 ∷ 115 ∷ 101 ∷ 112 ∷ []; call = ClosePrediction } ∷  -- closep
    record { word = 99 ∷ 108 ∷ 111 ∷ 115 ∷ 101 ∷ 99 ∷ []; call = CloseCorrection } ∷  -- closec
    record { word = 99 ∷ 108 ∷ 111 ∷ 115 ∷ 101 ∷ 102 ∷ []; call = CloseCorrectionFlat } ∷  -- closef
    record { word = 97 ∷ 98 ∷ 97 ∷ 110 ∷ 100 ∷ 111 ∷ 110 ∷ []; call = Abandon } ∷  -- abandon
    stepped

abbrev pub settings : List Entry
settings =
    record { word = 110 ∷ 101 ∷ 119 ∷ []; call = New } ∷  -- new
    record { word = 115 ∷ 101 ∷ 116 ∷ 120 ∷ []; call = SetX } ∷  -- setx
    record { word = 115 ∷ 101 ∷ 116 ∷ 112 ∷ []; call = SetP } ∷  -- setp
    record { word = 115 ∷ 101 ∷ 116 ∷ 113 ∷ []; call = SetQ } ∷  -- setq
    record { word = 115 ∷ 101 ∷ 116 ∷ 112 ∷ 97 ∷ 114 ∷ []; call = SetParams } ∷  -- setpar
    record { word = 115 ∷ 101 ∷ 116 ∷ 107 ∷ 105 ∷ 110 ∷ 100 ∷ []; call = SetKind } ∷  -- setkind
    steps

abbrev pub call_in : List ℕ → Token → Call
call_in s t = record { name = named settings (part_of s t); next = t.end }

-- the call that the token at place i or after it names
abbrev pub name_of : List ℕ → ℕ → Call
name_of s i = call_in s (token_of s i)
