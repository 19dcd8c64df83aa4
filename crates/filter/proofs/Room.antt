-- The room that a filter takes in memory: where a filter fits, so do the arrays that a close hands on. Assumes nothing.
use Prim.Native.Nat.{ℕ, ◌+◌, ◌*◌, ◌-◌, ◌%◌, ◌<◌, ◌≤◌, ◌^◌}
use mathlib.Core.Path.{sym, subst}
use mathlib.Core.List.{[]}
use native.Mathlib.Nat.{mod-le}
use native.Mathlib.Omega.{arith}
use mir.Syntax.{Width, w8, w16, w32, w64, w128, Ty, Tys, ty_int, ty_bool, ty_array, ty_struct, ty_enum, tnil, tcons, ttnil, ttcons}
use mir.Val.{bytes}
use prog.Memory.{size, align, aligns, end_of, up}
use prog.Align.{align_w, align-bytes}
use Rattle.correction.proofs.Sizes.{kind_type, kinds_fit}

-- a struct is no smaller than its fields together
abbrev sizes : Tys → ℕ
sizes tnil = 0
sizes (tcons τ τs) = size τ + sizes τs

up_ge : (k e : ℕ) → e ≤ up k e
up_ge k e = omega arith

fields_le : (τs : Tys) (e : ℕ) → e + sizes τs ≤ end_of e τs
fields_le tnil e = omega arith
fields_le (tcons τ τs) e = omega (arith, up_ge (align τ) e, fields_le τs (up (align τ) e + size τ))

struct_le : (τs : Tys) → sizes τs ≤ size (ty_struct [] τs)
struct_le τs = omega (arith, fields_le τs 0, up_ge (aligns τs) (end_of 0 τs))

-- nothing is aligned to more than 16 bytes, so little is lost between the fields
bytes_small : (w : Width) → bytes w ≤ 16
bytes_small w8 = omega arith
bytes_small w16 = omega arith
bytes_small w32 = omega arith
bytes_small w64 = omega arith
bytes_small w128 = omega arith

align_small : (τ : Ty) → align τ ≤ 16
align_small τ = subst (λ (a : ℕ). a ≤ 16) (sym (align-bytes τ)) (bytes_small (align_w τ))

up_small : (τ : Ty) (e : ℕ) → up (align τ) e ≤ e + 16
up_small τ e = let k = align τ in omega (arith, align_small τ, mod-le (k - e % k) k)

abbrev gaps : Tys → ℕ
gaps tnil = 0
gaps (tcons τ τs) = 16 + gaps τs

fields_small : (τs : Tys) (e : ℕ) → end_of e τs ≤ e + (sizes τs + gaps τs)
fields_small tnil e = omega arith
fields_small (tcons τ τs) e = omega (arith, up_small τ e, fields_small τs (up (align τ) e + size τ))

struct_small : (τs : Tys) → size (ty_struct [] τs) ≤ sizes τs + gaps τs + 16
struct_small τs = omega (arith, fields_small τs 0, up_small (ty_struct [] τs) (end_of 0 τs))

-- ---- the types, by any name, of a number's type

abbrev params_type : Ty → Ty
params_type τ = ty_struct [] (tcons τ (tcons τ (tcons τ tnil)))

abbrev sheet_type : Ty → Ty
sheet_type τ = ty_struct [] (tcons (ty_int w64) (tcons (ty_array τ 64) (tcons (params_type τ) (tcons (ty_array (kind_type τ) 8) tnil))))

abbrev stage_type : Ty
stage_type = ty_enum [] (ttcons tnil (ttcons tnil (ttcons tnil (ttcons tnil (ttcons tnil ttnil)))))

abbrev kept_fields : Ty → Tys
kept_fields τ = tcons (ty_int w64) (tcons ty_bool (tcons (ty_int w64) (tcons (ty_array τ 136) tnil)))

abbrev track_fields : Ty → Tys
track_fields τ = tcons (ty_array τ 8) (tcons (ty_array τ 64) (tcons (ty_array τ 17) (tcons (ty_array τ 136) (tcons ty_bool (tcons stage_type (tcons (ty_array τ 17) (tcons (ty_array τ 136) (tcons (ty_struct [] (kept_fields τ)) tnil))))))))

abbrev filter_fields : Ty → Tys
filter_fields τ = tcons (sheet_type τ) (tcons (ty_struct [] (track_fields τ)) tnil)

abbrev pub filter_type : Ty → Ty
filter_type τ = ty_struct [] (filter_fields τ)

abbrev moments_fields : Ty → Tys
moments_fields τ = tcons (ty_array τ 8) (tcons (ty_array τ 64) tnil)

abbrev pub moments_type : Ty → Ty
moments_type τ = ty_struct [] (moments_fields τ)

abbrev intake_fields : Ty → Tys
intake_fields τ = tcons (ty_struct [] (tcons (ty_int w64) (tcons (ty_int w64) tnil))) (tcons (ty_array τ 8) (tcons (ty_array τ 64) (tcons (ty_array τ 136) tnil)))

abbrev pub intake_type : Ty → Ty
intake_type τ = ty_struct [] (intake_fields τ)

-- a filter holds more than 512 numbers
module _ (τ : Ty) (h : size (filter_type τ) < 2 ^ 63) where
  pub numbers_fit : 512 * size τ < 2 ^ 63
  numbers_fit = omega (arith, h, struct_le (filter_fields τ), struct_le (track_fields τ), struct_le (kept_fields τ))

  pub state_kinds_fit : 8 * size (kind_type τ) < 2 ^ 63
  state_kinds_fit = kinds_fit τ (omega (arith, numbers_fit))

  pub measurement_kinds_fit : 4 * size (kind_type τ) < 2 ^ 63
  measurement_kinds_fit = omega (arith, state_kinds_fit)

  pub moments_room : size (moments_type τ) < 2 ^ 63
  moments_room = omega (arith, numbers_fit, struct_small (moments_fields τ))

  pub intake_room : size (intake_type τ) < 2 ^ 63
  intake_room = omega (arith, numbers_fit, struct_small (intake_fields τ))
