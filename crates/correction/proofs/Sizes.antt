-- The room that a list of kinds takes: eight kinds fit in memory where 136 numbers do. Assumes nothing.
use Prim.Native.Nat.{ℕ, ◌+◌, ◌-◌, ◌*◌, ◌%◌, ◌<◌, ◌≤◌, ◌^◌, max}
use mathlib.Core.Path.{sym, subst}
use mathlib.Core.List.{[]}
use native.Mathlib.Nat.{mod-le}
use native.Mathlib.Omega.{arith}
use mir.Syntax.{Width, w8, w16, w32, w64, w128, Ty, ty_enum, tnil, tcons, ttnil, ttcons}
use mir.Val.{bytes}
use prog.Memory.{size, align, up}
use prog.Align.{align_w, align-bytes}

-- no type is aligned to more than 16 bytes
bytes_small : (w : Width) → bytes w ≤ 16
bytes_small w8 = omega arith
bytes_small w16 = omega arith
bytes_small w32 = omega arith
bytes_small w64 = omega arith
bytes_small w128 = omega arith

align_small : (τ : Ty) → align τ ≤ 16
align_small τ = subst (λ (a : ℕ). a ≤ 16) (sym (align-bytes τ)) (bytes_small (align_w τ))

up_small : (k e : ℕ) → up k e ≤ e + k
up_small k e = omega (arith, mod-le (k - e % k) k)

-- the type of a kind of τ, by any name
abbrev pub kind_type : Ty → Ty
kind_type τ = ty_enum [] (ttcons tnil (ttcons (tcons τ tnil) ttnil))

pub kinds_fit : (τ : Ty) → 136 * size τ < 2 ^ 63 → 8 * size (kind_type τ) < 2 ^ 63
kinds_fit τ h =
    let a = align τ in
    let e = max 1 (max (up a 1 + size τ) 1) in
    omega (arith, h, align_small τ, up_small a 1, up_small (max 1 (max (max a 1) 1)) e)
