-- Laws of a segment's pieces: what the SYN flag decides, and how long each piece is.
use Prim.Native.Nat.{ℕ, ◌+◌, ◌*◌, ◌/◌, ◌%◌, ◌<◌}
use mathlib.Core.Path.{◌≡◌, refl, ap, ◌∙◌}
use mathlib.Core.Bool.{Bool, true, false, cond}
use mathlib.Core.List.{List, []}
use native.Mathlib.Omega.{arith}
use borrow.Author.Tests.{eq-eqb, ne_eqb}
use lib.ListN.{length, length-append}
use lib.Bits.{bit_and, and_high}
use Rattle.tcp.specs.Rfc9293.{syn_set, options, syn_options, segment, summed_header_lem, segment_header_lem, tcp_frame}
use Rattle.frames.proofs.Lengths.{length_ip_frame}
use Rattle.tcp.specs.Builders.{data_limit_lem}
use Rattle.tcp.specs.declared.Endpoints.{Endpoints}

-- the mask 0x02 takes the SYN bit out
pub syn_mask : (flags : ℕ) → bit_and flags 2 ≡ flags / 2 % 2 * 2
syn_mask flags = and_high flags 1 1

pub with_syn : (flags : ℕ) → (bit_and flags 2 ≡ 0 → ⊥) → syn_set flags ≡ true
with_syn flags h = eq-eqb (flags / 2 % 2) 1 (by_parity (flags / 2 % 2) (omega arith) (λ e. h (syn_mask flags ∙ ap (λ (n : ℕ). n * 2) e)))
  where
    by_parity : (n : ℕ) → n < 2 → (n ≡ 0 → ⊥) → n ≡ 1
    by_parity n l z = omega arith

pub without_syn : (flags : ℕ) → bit_and flags 2 ≡ 0 → syn_set flags ≡ false
without_syn flags h = ne_eqb (flags / 2 % 2) 1 (λ e. omega (arith, syn_mask flags))

-- the SYN flag decides options and limit together: what holds in both cases holds
pub syn_cases : (P : List ℕ → ℕ → Type 0) (flags : ℕ) → P syn_options 65487 → P [] 65495 → P (options flags) (data_limit_lem flags)
unfolding options data_limit_lem
syn_cases P flags with-options with_none = go (syn_set flags)
  where
    go : (b : Bool) → P (cond b syn_options []) (cond b 65487 65495)
    go true = with-options
    go false = with_none

-- the options pair into words of 16 bits and of 32
pub options_even : (flags : ℕ) → length (options flags) % 2 ≡ 0
options_even flags = syn_cases (λ o n. length o % 2 ≡ 0) flags refl refl

pub options_words : (flags : ℕ) → length (options flags) % 4 ≡ 0
options_words flags = syn_cases (λ o n. length o % 4 ≡ 0) flags refl refl

-- data within its limit leaves the segment within 65,515 bytes
pub limit_holds : (flags : ℕ) → 20 + length (options flags) + data_limit_lem flags ≡ 65515
limit_holds flags = syn_cases (λ o n. 20 + length o + n ≡ 65515) flags refl refl

pub length_segment : (ends : Endpoints) (seq ack flags : ℕ) (body : List ℕ)
    → length (segment ends seq ack flags body) ≡ 20 + length (options flags) + length body
unfolding segment summed_header_lem segment_header_lem
length_segment ends seq ack flags body = simp length-append (omega arith)

pub length_tcp_frame : (id : ℕ) (ends : Endpoints) (seq ack flags : ℕ) (body : List ℕ)
    → length ends.dst_mac ≡ 6 → length ends.src_ip ≡ 4 → length ends.dst_ip ≡ 4
    → length (tcp_frame id ends seq ack flags body) ≡ 54 + length (options flags) + length body
unfolding tcp_frame
length_tcp_frame id ends seq ack flags body six four four' =
    omega (arith, length_ip_frame ends.src_ip ends.dst_ip four four' ends.dst_mac (segment ends seq ack flags body) id 6 six, length_segment ends seq ack flags body)
