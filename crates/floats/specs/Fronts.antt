-- The front of a list put over another list: how an array is filled from a lent slice, and a lent buffer from an array. Definitions only.
use Rattle.std.specs.Prelude.{ℕ, List, ◌++◌, length, take, drop}

-- the first k of s, then what d has from k up
unfoldable pub front : {A : Type 0} → ℕ → List A → List A → List A
front k s d = take k s ++ drop k d

-- w over the front of a lent buffer b; the rest of b stays
abbrev pub over : {A : Type 0} → List A → List A → List A
over w b = w ++ drop (length w) b
