-- THE RECORD OF A FILTER (document 02, A8): the mark 57 50 (hex), n, x, P, Q, alpha, beta and kappa, then a kind for each state. Points, weights and the stale mark aren't in it. Definitions only.
use Rattle.std.specs.Prelude.{ℕ, ◌+◌, ◌*◌, List, [], ◌∷◌, ◌++◌, take, Float}
use Rattle.pieces.specs.Bytes.{number_bytes, kind_bytes, written}
use Rattle.filter.specs.Types.{Filter}

abbrev pub numbers_of : Filter → List Float
numbers_of s =
    let n = s.sheet.n in
    let v = s.sheet.params in
    take n s.track.x ++ (take (n * n) s.track.p ++ (take (n * n) s.sheet.q ++ (v.alpha ∷ v.beta ∷ v.kappa ∷ [])))

-- 57 and 50 (hex) are 87 and 80
unfoldable pub bytes_of : Filter → List ℕ
unfolding written
bytes_of s = 87 ∷ 80 ∷ s.sheet.n ∷ written number_bytes (numbers_of s) ++ written kind_bytes (take s.sheet.n s.sheet.kinds)

-- how many numbers, and how many bytes
abbrev pub numbers : ℕ → ℕ
numbers n = n + (n * n + (n * n + 3))

abbrev pub record_length : ℕ → ℕ
record_length n = 27 + 17 * n + 16 * (n * n)
