-- An IPv4 frame around any payload is derived down to that payload: what the grammar asks of its fields is read back from the frame.
use Prim.Native.Nat.{ℕ, ◌+◌}
use mathlib.Core.Path.{◌≡◌, refl, ap, sym, subst, ◌∙◌}
use mathlib.Core.List.{List, ◌++◌}
use native.Mathlib.Omega.{arith}
use lib.ListN.{length, take, drop, length-drop}
use lib.Seq.{drop-drop, get_or-drop}
use Rattle.base.specs.Bytes.{u8_at, part}
use Rattle.wire.specs.Rfc768
use Rattle.wire.specs.Rfc791.{header, header_with_lem}
use Rattle.frames.specs.Frames.{ip_frame}
use Rattle.record.proofs.InBuffer.{InBuffer}
use Rattle.frames.proofs.Lengths.{drop_14, drop_34, length_ip_frame}
use Rattle.base.proofs.Lists.{all_bytes_lem}
use Rattle.frames.proofs.ReadBack.{ethernet_reads_back, frame_reads_back}
use Rattle.frames.proofs.SumsRight.{frame_header_sums_right}
use Rattle.grammar.specs.Grammar.{Ethernet, body, IPv4, header_length_lem, protocol, payload, pseudo_header_lem, laid, ethernet_layer, ip_layer, payload_at_lem, payload_layer}
use Rattle.grammar.proofs.Places.{placed}
use Rattle.sums.specs.Rfc1071.{SumsRight}

-- a frame of `n` bytes down to its IPv4 payload
pub record Packet (frame : List ℕ) (n proto : ℕ) (source target carried : List ℕ) : Type 0 where
  pub ethernet : Ethernet frame 0x0800
  pub ip : IPv4 (body frame)
  pub ethernet_placed : laid 0 14 n ≡ ethernet_layer frame
  pub ip_placed : laid 14 34 n ≡ ip_layer frame
  pub protocol_is : protocol (body frame) ≡ proto
  pub payload_at : payload_at_lem frame ≡ 34
  pub payload_is : payload (body frame) ≡ carried
  pub behind : drop 34 frame ≡ carried
  pub pseudo_is : pseudo_header_lem (body frame) ≡ Rfc768.pseudo_header_lem source target proto (length carried)
  pub long : n ≡ 34 + length carried

-- the layer that its payload is
pub payload_placed : {frame : List ℕ} {n proto : ℕ} {source target carried : List ℕ} → Packet frame n proto source target carried
    → (len mid : ℕ) → mid ≡ 34 + len → laid 34 mid n ≡ payload_layer len frame
payload_placed {frame} {n} p len mid e =
    let at : 34 ≡ payload_at_lem frame = sym p.payload_at in
    let middle : mid ≡ payload_at_lem frame + len = omega (arith, at) in
    let stop : n ≡ payload_at_lem frame + length (payload (body frame)) = omega (arith, at, p.long, ap length p.payload_is) in
    placed (payload_at_lem frame) len (payload (body frame)) 34 mid n at middle stop

-- a byte of its payload, by its place in the frame
pub payload_byte_law : {frame : List ℕ} {n proto : ℕ} {source target carried : List ℕ} → Packet frame n proto source target carried
    → (i : ℕ) → u8_at frame (34 + i) ≡ u8_at carried i
payload_byte_law {frame} p i = sym (get_or-drop 34 frame i 0) ∙ ap (λ (s : List ℕ). u8_at s i) p.behind

module _ (mac source target carried : List ℕ) (id proto : ℕ) (six : length mac ≡ 6) (four : length source ≡ 4) (four' : length target ≡ 4) where
  addresses : part (header (20 + length carried) id proto source target ++ carried) 12 8 ≡ source ++ target
  unfolding header header_with_lem
  addresses = rw (all_bytes_lem source 4 four, all_bytes_lem target 4 four')

  pub packet : (n : ℕ) → n ≡ length (ip_frame mac id proto source target carried) → Packet (ip_frame mac id proto source target carried) n proto source target carried
  unfolding Rfc768.pseudo_header_lem
  packet n e =
      let frame = ip_frame mac id proto source target carried in
      let long : length frame ≡ 34 + length carried = length_ip_frame source target four four' mac carried id proto six in
      let p = frame_reads_back source target four four' mac carried id proto six in
      let rest : length (body frame) ≡ 20 + length carried = omega (arith, length-drop 14 frame, long) in
      let at_20 : header_length_lem (body frame) ≡ 20 = p.header_20 in
      let behind : drop 34 frame ≡ carried = drop_34 mac source target carried id proto six four four' in
      let carried_is : payload (body frame) ≡ carried = drop-drop (header_length_lem (body frame)) 14 frame ∙ ap (λ (k : ℕ). drop (14 + k) frame) at_20 ∙ behind in
      record {
        ethernet = record { whole = omega arith; typed = (ethernet_reads_back mac source target carried id proto six).2 };
        ip =
            record {
              version = p.version_4;
              least_header = omega (arith, at_20);
              most_header = omega (arith, at_20);
              total = omega (arith, p.total, rest);
              inside = omega (arith, at_20, p.total);
              unfragmented = omega (arith, p.unfragmented);
              sums = subst (λ (k : ℕ). SumsRight (take k (body frame))) (sym at_20) (frame_header_sums_right source target four four' mac carried id proto six);
            };
        ethernet_placed = placed 0 14 frame 0 14 n refl refl (omega arith);
        ip_placed = placed 14 (header_length_lem (body frame)) (body frame) 14 34 n refl (omega (arith, at_20)) (omega (arith, rest));
        protocol_is = p.protocol_is;
        payload_at = omega (arith, at_20);
        payload_is = carried_is;
        behind = behind;
        pseudo_is = rw (carried_is, p.protocol_is, drop_14 mac source target carried id proto six four four', addresses);
        long = omega arith;
      }

  -- the same of the first n bytes of a buffer
  pub packet_in_buffer : {before after : List ℕ} {n : ℕ} → InBuffer (ip_frame mac id proto source target carried) before after n → Packet (take n after) n proto source target carried
  packet_in_buffer {n = n} b = rw b.front (packet n b.long)
