-- What the Rust's `make_tcp_frame` gives: RFC 9293's segment in its frame, or a length that is cut.
use Prim.Native.Nat.{ℕ, ◌+◌, ◌*◌, ◌/◌, ◌%◌, ◌≤◌, ◌<◌}
use mathlib.Core.Path.{◌≡◌, refl, sym, ◌∙◌}
use mathlib.Core.Bool.{Bool, true, false, not, cond}
use mathlib.Core.List.{List, [], ◌∷◌, ◌++◌}
use native.Mathlib.Omega.{arith}
use borrow.Author.Tests.{lt-ltb, eqb-true, eqb-false}
use lib.Bits.{bit_and}
use lib.Dec.{ltb, eqb}
use lib.ListN.{length, length-append}
use Rattle.base.specs.Bytes.{be16, be32, bytes_at}
use Rattle.base.proofs.Lists.{all_bytes_lem}
use Rattle.wire.specs.Rfc768.{pseudo_header_lem, covered}
use Rattle.published.specs.Rust.{Run, gives, cuts, ◌>>=◌, Slice, whole, len_of, zeros, as_u16, u16_to_be}
use Rattle.published.specs.Frames.{Counted, make_ip_frame, make_tcp_frame, checksum as rustChecksum}
use Rattle.tcp.specs.Rfc9293.{syn_set, syn_options, options, segment_header_lem, summed_header_lem, segment, tcp_frame}
use Rattle.tcp.specs.Builders.{data_limit_lem}
use Rattle.wire.proofs.Covered.{length_pseudo_header}
use Rattle.tcp.proofs.TcpLaws.{with_syn, without_syn, syn_cases, limit_holds}
use Rattle.tcp.specs.declared.Endpoints.{Endpoints}
use Rattle.sums.specs.Rfc1071.{checksum}
use Rattle.equals_rust.specs.Alike.{the_ends}
use Rattle.equals_rust.specs.Types.{Bytes, EndsTyped}
use Rattle.equals_rust.proofs.Operations.{same_next, copy_over, copy_zeros, copy_rest, store_zeros, bytes_append, be16_bytes, be32_same}
use Rattle.equals_rust.proofs.Sum.{rust_checksum, rust_sum}
use Rattle.equals_rust.proofs.Builders.{ip_frame_cut, ip_frame_given}

mod_small : (x : ℕ) → x < 256 → x % 256 ≡ x
mod_small x h = omega arith

-- the options
opts : (flags : ℕ) → cond (not (eqb (bit_and flags 0x02) 0)) syn_options [] ≡ options flags
unfolding options
opts flags = go (eqb (bit_and flags 2) 0) refl
  where
    go : (none : Bool) → eqb (bit_and flags 2) 0 ≡ none → cond (not none) syn_options [] ≡ cond (syn_set flags) syn_options []
    go true e = rw (without_syn flags (eqb-true (bit_and flags 2) 0 e))
    go false e = rw (with_syn flags (eqb-false (bit_and flags 2) 0 e))

few_options : (flags : ℕ) → length (options flags) ≤ 8
few_options flags = syn_cases (λ o n. length o ≤ 8) flags (omega arith) (omega arith)

options_bytes : (flags : ℕ) → Bytes (options flags)
options_bytes flags = syn_cases (λ o n. Bytes o) flags (omega arith, (omega arith, (omega arith, (omega arith, (omega arith, (omega arith, (omega arith, (omega arith, tt)))))))) tt

-- the segment with this checksum
abbrev with_sum : Endpoints → (seq ack flags : ℕ) → Slice → (csum : ℕ) → List ℕ
with_sum ends seq ack flags «data» csum = segment_header_lem csum ends.src_port ends.dst_port seq ack flags ++ options flags ++ «data».bytes

-- the end of `make_tcp_frame`, once the segment is laid out
abbrev summed : (counter : ℕ) → Endpoints → (seq ack flags : ℕ) → Slice → Run Counted
summed counter ends seq ack flags «data» = do
  short ← as_u16 (20 + length (options flags) + len_of «data»)
  csum ← rustChecksum (whole (pseudo_header_lem ends.src_ip ends.dst_ip 6 short ++ with_sum ends seq ack flags «data» 0))
  make_ip_frame counter ends.dst_mac ends.src_ip ends.dst_ip 6 (whole (with_sum ends seq ack flags «data» csum))

module _ (counter : ℕ) (ends : Endpoints) (seq ack flags : ℕ) («data» : Slice) (four : length ends.src_ip ≡ 4) (four' : length ends.dst_ip ≡ 4) where
  tcp_steps : make_tcp_frame counter (the_ends ends) seq ack flags «data» ≡ summed counter ends seq ack flags «data»
  unfolding make_tcp_frame segment_header_lem pseudo_header_lem
  tcp_steps =
      let o = length (options flags) in
      let n = len_of «data» in
      let few = few_options flags in
      let ports = u16_to_be ends.src_port ++ u16_to_be ends.dst_port in
      let numbers = ports ++ be32 seq ++ be32 ack in
      let fixed = numbers ++ ((20 + o) / 4 * 16 ∷ flags ∷ []) ++ u16_to_be 65535 in
      let long : length (fixed ++ zeros 4 ++ options flags ++ «data».bytes) ≡ 20 + o + n = simp length-append (omega arith) in
      let addresses = bytes_at ends.src_ip 0 4 ++ bytes_at ends.dst_ip 0 4 in
      rw (
        opts flags,
        be32_same seq,
        be32_same ack,
        copy_zeros [] (u16_to_be ends.src_port) 0 (18 + o + n) (20 + o + n) 0 2 (omega arith) refl refl,
        copy_zeros (u16_to_be ends.src_port) (u16_to_be ends.dst_port) 0 (16 + o + n) (18 + o + n) 2 4 (omega arith) refl refl,
        copy_zeros ports (be32 seq) 0 (12 + o + n) (16 + o + n) 4 8 (omega arith) refl refl,
        copy_zeros (ports ++ be32 seq) (be32 ack) 0 (8 + o + n) (12 + o + n) 8 12 (omega arith) refl refl,
        lt-ltb ((20 + o) / 4) 256 (omega (arith, few)),
        mod_small ((20 + o) / 4 * 16) (omega (arith, few)),
        store_zeros numbers ((20 + o) / 4 * 16) 0 (7 + o + n) (8 + o + n) 12 (omega arith) refl,
        store_zeros (numbers ++ ((20 + o) / 4 * 16 ∷ [])) flags 0 (6 + o + n) (7 + o + n) 13 (omega arith) refl,
        copy_zeros (numbers ++ ((20 + o) / 4 * 16 ∷ flags ∷ [])) (u16_to_be 65535) 0 (4 + o + n) (6 + o + n) 14 16 (omega arith) refl refl,
        copy_zeros fixed (options flags) 4 n (4 + o + n) 20 (20 + o) refl refl refl,
        copy_rest (fixed ++ zeros 4 ++ options flags) «data».bytes n (20 + o) refl (omega arith),
        all_bytes_lem ends.src_ip 4 four,
        all_bytes_lem ends.dst_ip 4 four',
        copy_zeros [] (bytes_at ends.src_ip 0 4) 0 (28 + o + n) (12 + (20 + o + n)) 0 4 (omega arith) refl refl,
        copy_zeros (bytes_at ends.src_ip 0 4) (bytes_at ends.dst_ip 0 4) 0 (24 + o + n) (28 + o + n) 4 8 (omega arith) refl refl,
        store_zeros addresses 6 1 (22 + o + n) (24 + o + n) 9 (omega arith) refl,
      )
      (same_next (as_u16 (20 + o + n)) _ _ λ short.
      rw (
        copy_zeros (addresses ++ (0 ∷ 6 ∷ [])) (u16_to_be short) 0 (20 + o + n) (22 + o + n) 10 12 (omega arith) refl refl,
        copy_rest (addresses ++ (0 ∷ 6 ∷ []) ++ u16_to_be short) (fixed ++ zeros 4 ++ options flags ++ «data».bytes) (20 + o + n) 12 (sym long) refl,
      )
      (same_next (rustChecksum (whole (addresses ++ (0 ∷ 6 ∷ []) ++ u16_to_be short ++ (fixed ++ zeros 4 ++ options flags ++ «data».bytes)))) _ _ λ csum.
      rw (copy_over fixed (zeros 2) (zeros 2 ++ options flags ++ «data».bytes) (u16_to_be csum) 16 18 refl refl refl)))

module _ (counter : ℕ) (ends : Endpoints) (seq ack flags : ℕ) («data» : Slice) (typed : EndsTyped ends) where
  length_with_sum : (csum : ℕ) → length (with_sum ends seq ack flags «data» csum) ≡ 20 + length (options flags) + len_of «data»
  unfolding segment_header_lem
  length_with_sum csum = simp length-append (omega arith)

  pub tcp_frame_cut : data_limit_lem flags < len_of «data» → make_tcp_frame counter (the_ends ends) seq ack flags «data» ≡ cuts
  tcp_frame_cut h =
      tcp_steps counter ends seq ack flags «data» typed.source.long typed.target.long
      ∙ go (λ csum. omega (arith, h, limit_holds flags, length_with_sum csum)) (ltb (20 + length (options flags) + len_of «data») 65536) refl
    where
      go : ((csum : ℕ) → 65515 < length (with_sum ends seq ack flags «data» csum)) → (t : Bool) → ltb (20 + length (options flags) + len_of «data») 65536 ≡ t
          → summed counter ends seq ack flags «data» ≡ cuts
      go over true e =
          rw (e, rust_sum (pseudo_header_lem ends.src_ip ends.dst_ip 6 (20 + length (options flags) + len_of «data») ++ with_sum ends seq ack flags «data» 0))
          (ip_frame_cut counter 6 ends.dst_mac ends.src_ip ends.dst_ip (whole (with_sum ends seq ack flags «data» _)) (over _))
      go over false e = rw e

  header_bytes : seq < 4294967296 → ack < 4294967296 → flags < 256 → Bytes (segment_header_lem 0 ends.src_port ends.dst_port seq ack flags)
  unfolding segment_header_lem
  header_bytes s a f =
      let few = few_options flags in
      let from = typed.source_port_lem in
      let to = typed.target_port_lem in
      (omega arith, (omega arith, (omega arith, (omega arith, (omega arith, (omega arith, (omega arith, (omega arith, (omega arith, (omega arith, (omega arith, (omega arith, (omega arith, (omega arith, (omega arith, (omega arith, (omega arith, (omega arith, (omega arith, (omega arith, tt))))))))))))))))))))

  pseudo_bytes : (len : ℕ) → len < 65536 → Bytes (pseudo_header_lem ends.src_ip ends.dst_ip 6 len)
  unfolding pseudo_header_lem
  pseudo_bytes len h =
      bytes_append (ends.src_ip ++ ends.dst_ip ++ (0 ∷ 6 ∷ [])) (be16 len)
      (bytes_append (ends.src_ip ++ ends.dst_ip) (0 ∷ 6 ∷ []) (bytes_append ends.src_ip ends.dst_ip typed.source.bytes typed.target.bytes) (omega arith, (omega arith, tt)))
      (be16_bytes len h)

  segment_bytes : seq < 4294967296 → ack < 4294967296 → flags < 256 → Bytes «data».bytes → Bytes (with_sum ends seq ack flags «data» 0)
  segment_bytes s a f b =
      let head = segment_header_lem 0 ends.src_port ends.dst_port seq ack flags in
      bytes_append (head ++ options flags) «data».bytes (bytes_append head (options flags) (header_bytes s a f) (options_bytes flags)) b

  pub tcp_frame_given : counter < 65536 → seq < 4294967296 → ack < 4294967296 → flags < 256 → Bytes «data».bytes → len_of «data» ≤ data_limit_lem flags
      → make_tcp_frame counter (the_ends ends) seq ack flags «data» ≡ gives (record { frame = tcp_frame counter ends seq ack flags «data».bytes; counter = (counter + 1) % 65536 })
  unfolding tcp_frame segment summed_header_lem covered
  tcp_frame_given c s a f b h =
      let within = limit_holds flags in
      let plain = with_sum ends seq ack flags «data» 0 in
      let long = length_with_sum 0 in
      let pseudo = pseudo_header_lem ends.src_ip ends.dst_ip 6 (length plain) in
      let sum = checksum (pseudo ++ plain) in
      tcp_steps counter ends seq ack flags «data» typed.source.long typed.target.long
      ∙ rw (
        lt-ltb (20 + length (options flags) + len_of «data») 65536 (omega arith),
        ← long,
        rust_checksum (pseudo ++ plain) (bytes_append pseudo plain (pseudo_bytes (length plain) (omega arith)) (segment_bytes s a f b))
            (omega (arith, length-append pseudo plain, length_pseudo_header ends.src_ip ends.dst_ip typed.source.long typed.target.long 6 (length plain))),
      )
      (ip_frame_given counter 6 ends.dst_mac ends.src_ip ends.dst_ip (whole (with_sum ends seq ack flags «data» sum))
      typed.mac.long typed.source.long typed.target.long c (omega arith) typed.source.bytes typed.target.bytes (omega (arith, length_with_sum sum)))
