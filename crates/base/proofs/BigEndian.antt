-- The bytes of a number, and the number of bytes, as std's methods have them: they are the wire's, of a number of that width.
use Rattle.std.proofs.Common.{◌≡◌, ℕ, ◌^◌, ◌<◌, List, w16, w32, arith}
use Rattle.std.specs.Int.{to_be_bytes, from_be_bytes}
use Rattle.base.specs.Bytes.{be16, be32, u16_at, u32_at}

pub be16_is : (n : ℕ) → n < 2 ^ 16 → to_be_bytes w16 n ≡ be16 n
be16_is n fits = grind arith

pub be32_is : (n : ℕ) → n < 2 ^ 32 → to_be_bytes w32 n ≡ be32 n
be32_is n fits = grind arith

pub u16_is : (bytes : List ℕ) → from_be_bytes w16 bytes ≡ u16_at bytes 0
u16_is bytes = omega arith

pub u32_is : (bytes : List ℕ) → from_be_bytes w32 bytes ≡ u32_at bytes 0
u32_is bytes = omega arith
