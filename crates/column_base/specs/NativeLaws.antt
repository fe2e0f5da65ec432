-- The laws of `NativeType`: numbers are what their bytes are read as, and `==` is equality.
use Rattle.std.specs.Prelude.{◌≡◌, ℕ, zero, suc, ◌+◌, ◌-◌, ◌*◌, ◌/◌, ◌%◌, ◌^◌, ◌<◌, ◌++◌, replicate, true, ◌&&◌, ◌==◌, ℤ, FitsSigned}
use Rattle.std.specs.Ordering.{int_eq}
use Rattle.std.specs.Int.{Width, w8, w16, w32, w64, w128, byte_len, byte_at, byte_worth, sum_through, cast_signed, cast_unsigned, to_le_bytes, from_le_bytes}
use Rattle.std.proofs.Common.{Fits, ap, sym, ◌∙◌, add_comm, mul_comm, pow-suc, mod-eq_of_lt, arith}
use Rattle.std.proofs.Math.Arith.{mod-mul}
use Rattle.std.proofs.Math.Facts.{Fits-of_z}
use Rattle.std.proofs.lemmas.Int.{to_z-of_z}
use Rattle.std.proofs.lemmas.Bool.{and_parts, eqb-true}
use Rattle.std.proofs.lemmas.Bool.Decides.{Decides-int_eq}
use Rattle.column_base.specs.Native.{signed_bytes, signed_of}

above_zero : (k : ℕ) → 0 < 256 ^ k
above_zero zero = omega arith
above_zero (suc k) = omega (arith, pow-suc 256 k, above_zero k)

-- the bytes of a number up to a place are the number below a power of 256
low_bytes : (n k : ℕ) → sum_through (λ i. byte_worth i (byte_at i n)) k ≡ n % 256 ^ suc k
low_bytes n zero = omega arith
low_bytes n (suc k) =
    let c = 256 ^ suc k in
    ap (λ s. s + n / c % 256 * c) (low_bytes n k)
    ∙ add_comm (n % c) (n / c % 256 * c)
    ∙ sym (mod-mul n {m = 256} {c = c} (omega arith) (above_zero (suc k)))
    ∙ ap (λ p. n % p) (mul_comm 256 c ∙ sym (pow-suc 256 (suc k)))

-- unsigned numbers of 1, 2, 4, 8 and 16 bytes
pub unsigned_back : (w : Width) (n : ℕ) → n < 2 ^ (8 * byte_len w) → from_le_bytes w (to_le_bytes w n ++ replicate (16 - byte_len w) 0) ≡ n
unsigned_back w8 n fits = low_bytes n 0 ∙ mod-eq_of_lt fits
unsigned_back w16 n fits = low_bytes n 1 ∙ mod-eq_of_lt fits
unsigned_back w32 n fits = low_bytes n 3 ∙ mod-eq_of_lt fits
unsigned_back w64 n fits = low_bytes n 7 ∙ mod-eq_of_lt fits
unsigned_back w128 n fits = low_bytes n 15 ∙ mod-eq_of_lt fits

below : (w : Width) (n : ℕ) → Fits w n → n < 2 ^ (8 * byte_len w)
below w8 n fits = fits.fits
below w16 n fits = fits.fits
below w32 n fits = fits.fits
below w64 n fits = fits.fits
below w128 n fits = fits.fits

-- signed numbers of the same lengths
pub signed_back : (w : Width) (x : ℤ) → FitsSigned w x → signed_of w (signed_bytes w x ++ replicate (16 - byte_len w) 0) ≡ x
signed_back w x fits = ap (cast_signed w) (unsigned_back w (cast_unsigned w x) (below w _ (Fits-of_z fits))) ∙ to_z-of_z w x fits

-- `==` of signed numbers is equality
pub same_number : (x y : ℤ) → int_eq x y ≡ true → x ≡ y
same_number x y = (Decides-int_eq x y).0

-- the same of unsigned ones
pub same_count : (x y : ℕ) → x == y ≡ true → x ≡ y
same_count = eqb-true

-- the same of two and of three signed numbers
pub same_two : (a b c d : ℤ) → int_eq a b && int_eq c d ≡ true → (a ≡ b) × (c ≡ d)
same_two a b c d e = let parts = and_parts _ _ e in (same_number a b parts.0, same_number c d parts.1)

pub same_three : (a b c d e f : ℤ) → int_eq a b && (int_eq c d && int_eq e f) ≡ true → (a ≡ b) × (c ≡ d) × (e ≡ f)
same_three a b c d e f h =
    let parts = and_parts _ _ h in
    let rest = same_two c d e f parts.1 in
    (same_number a b parts.0, rest.0, rest.1)
