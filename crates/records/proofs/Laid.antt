-- The parts of a record, laid one after the other from the front of a lent buffer on. Assumes nothing.
use Prim.Native.Nat.{ℕ, ◌+◌, ◌*◌, ◌≤◌}
use mathlib.Core.Path.{◌≡◌, sym, ap, ap₂, ◌∙◌}
use mathlib.Core.List.{List, ◌++◌, append_assoc}
use native.Mathlib.Omega.{arith}
use lib.ListN.{length, take, length-append}
use lib.Seq.{sets, length-sets, length-take-le}
use lib.Ieee.{Float}
use Rattle.floats.specs.Fronts.{over}
use Rattle.angles.specs.Kinds.{Kind}
use Rattle.std.proofs.lemmas.List.{length-take}
use Rattle.pieces.specs.Bytes.{number_bytes, number_at, kind_bytes, kind_at, written}
use Rattle.pieces.proofs.Laws.{written_append, length_written}
use Rattle.pieces.proofs.Turns.{sets_append, sets_over}
use Rattle.pieces.proofs.Back.{length_number, length_kind}

-- w is laid from the front of start on, up to place at
pub record Laid (start w : List ℕ) (at : ℕ) (out : List ℕ) : Type 0 where
  pub is : out ≡ sets start 0 w
  pub here : at ≡ length w

pub laid_more : {start w : List ℕ} {at : ℕ} {out : List ℕ} → Laid start w at out → {next : List ℕ} (v : List ℕ) {to : ℕ} → next ≡ sets out at v → to ≡ at + length v → Laid start (w ++ v) to next
laid_more {start} {w} {at} {out} r {next} v {to} e h =
    let z : at ≡ 0 + length w = omega (arith, r.here) in
    record {
      is = e ∙ ap₂ (λ (o : List ℕ) (i : ℕ). sets o i v) r.is z ∙ sym (sets_append start 0 w v);
      here = omega (arith, r.here, length-append w v);
    }

module _ {start w : List ℕ} {at : ℕ} {out : List ℕ} (r : Laid start w at out) where
  pub laid_long : length out ≡ length start
  laid_long = ap length r.is ∙ length-sets start 0 w

  pub laid_end : at ≤ length start → out ≡ over w start
  laid_end h = r.is ∙ sets_over start w (omega (arith, r.here))

pub joined : (h : List ℕ) (x p q v : List Float) (e : List ℕ)
    → ((((h ++ written number_bytes x) ++ written number_bytes p) ++ written number_bytes q) ++ written number_bytes v) ++ e ≡ h ++ (written number_bytes (x ++ (p ++ (q ++ v))) ++ e)
joined h x p q v e = simp (append_assoc, written_append number_bytes)

pub length_numbers : (k : ℕ) (l : List Float) → k ≤ length l → length (written number_bytes (take k l)) ≡ 8 * k
length_numbers k l h = length_written 8 number_bytes number_at length_number (take k l) ∙ ap (λ (n : ℕ). 8 * n) (length-take-le k l h)

-- no longer than nine bytes a state
take-le : {A : Type 0} (k : ℕ) (l : List A) → length (take k l) ≤ k
take-le k l = omega (arith, length-take k l)

pub length_kinds : (k : ℕ) (l : List Kind) → length (written kind_bytes (take k l)) ≤ 9 * k
length_kinds k l = omega (arith, length_written 9 kind_bytes kind_at length_kind (take k l), take-le k l)
