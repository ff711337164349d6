-- The frame in the pieces in which it is written, each in front of the one before: the reply, UDP's header, and the headers.
use Prim.Native.Nat.{ℕ, ◌+◌, ◌-◌, ◌≤◌}
use mathlib.Core.Path.{◌≡◌, refl, ap, ap₂, sym, ◌∙◌}
use mathlib.Core.List.{List, ◌++◌}
use native.Mathlib.Omega.{arith}
use lib.ListN.{length, take, drop}
use Rattle.base.proofs.Lists.{fits, length-put, part-put, put_in_part, put_in_front}
use Rattle.base.specs.Buffer.{put, put_if_fits}
use Rattle.datagrams.proofs.Datagram.{length_datagram, checksum_continued}
use Rattle.dhcp_message.proofs.ReadBack.{reply_reads_back}
use Rattle.dhcp_message.specs.Message.{reply}
use Rattle.dhcp_reply.specs.Reply.{reply_source, reply_target, dhcp_frame_to}
use Rattle.frames.proofs.Lengths.{length_headers, length_ip_frame}
use Rattle.frames.specs.Frames.{headers, ip_frame}
use Rattle.record.specs.Network.{broadcast_of, FourBytes}
use Rattle.record.specs.declared.network.Network.{Network}
use Rattle.sums.specs.Rfc1071.{total, fold}
use Rattle.wire.specs.Rfc768.{datagram_header, pseudo_header_lem, transmitted, checksum_of, datagram}

module _ (net : Network) (mac : List ℕ) (id : ℕ) (to : List ℕ) (xid kind : ℕ) (four : FourBytes net) (six : length mac ≡ 6) (six' : length to ≡ 6) where
  abbrev message : List ℕ
  message = reply net mac xid kind

  long : length message ≡ 300
  long = (reply_reads_back net mac xid kind four six).long

  -- its header
  its_header : List ℕ
  its_header = datagram_header (checksum_of net.gateway (broadcast_of net) reply_source reply_target message) reply_source reply_target 308

  abbrev its_datagram : List ℕ
  its_datagram = datagram net.gateway (broadcast_of net) reply_source reply_target message

  length_its_datagram : length its_datagram ≡ 308
  length_its_datagram = omega (arith, long, length_datagram net.gateway (broadcast_of net) reply_source reply_target message)

  its_headers : List ℕ
  its_headers = headers to 328 id 17 net.gateway (broadcast_of net)

  length_its_headers : length its_headers ≡ 34
  unfolding its_headers
  length_its_headers = length_headers net.gateway (broadcast_of net) four.gateway refl to 328 id 17 six'

  pub length_dhcp_frame_to : length (dhcp_frame_to net mac id to xid kind) ≡ 342
  unfolding dhcp_frame_to
  length_dhcp_frame_to =
      length_ip_frame net.gateway (broadcast_of net) four.gateway refl to its_datagram id 17 six'
      ∙ ap (λ (n : ℕ). 34 + n) length_its_datagram

  in_pieces : its_header ++ message ≡ its_datagram
  unfolding datagram its_header
  in_pieces = ap (λ (n : ℕ). datagram_header (checksum_of net.gateway (broadcast_of net) reply_source reply_target message) reply_source reply_target (8 + n) ++ message) (sym long)

  behind_headers : its_headers ++ its_datagram ≡ dhcp_frame_to net mac id to xid kind
  unfolding dhcp_frame_to ip_frame its_headers
  behind_headers = ap (λ (n : ℕ). headers to (20 + n) id 17 net.gateway (broadcast_of net) ++ its_datagram) (sym length_its_datagram)

  -- its checksum, by a sum that is begun with 308 for the length and continued over the message
  summed : (begun all : ℕ) → begun ≡ fold (total (pseudo_header_lem net.gateway (broadcast_of net) 17 308) + total (datagram_header 0 reply_source reply_target 308)) → all ≡ fold (begun + total message)
      → transmitted (65535 - all) ≡ checksum_of net.gateway (broadcast_of net) reply_source reply_target message
  summed begun all e =
      checksum_continued net.gateway (broadcast_of net) four.gateway refl reply_source reply_target message begun all
      (e ∙ ap (λ (n : ℕ). fold (total (pseudo_header_lem net.gateway (broadcast_of net) 17 (8 + n)) + total (datagram_header 0 reply_source reply_target (8 + n)))) (sym long))

  pub frame_put : (b target rest now : List ℕ) (begun all : ℕ) (header now' after : List ℕ) → 342 ≤ length b → target ≡ broadcast_of net
      → rest ≡ put_if_fits 0 message (take (length b - 42) (drop 42 b)) → now ≡ take 42 b ++ (rest ++ drop (length b - 42) (drop 42 b))
      → begun ≡ fold (total (pseudo_header_lem net.gateway target 17 308) + total (datagram_header 0 reply_source reply_target 308)) → all ≡ fold (begun + total (take 300 (drop 42 now)))
      → header ≡ datagram_header (transmitted (65535 - all)) reply_source reply_target 308 → now' ≡ put_if_fits 34 header now
      → after ≡ put_if_fits 0 (headers to 328 id 17 net.gateway target) now'
      → after ≡ put_if_fits 0 (dhcp_frame_to net mac id to xid kind) b
  unfolding its_header its_headers
  frame_put b target rest now begun all header now' after room e r p f g h q s =
      let one : now ≡ put 42 message b = put_in_part 42 message b rest now (omega (arith, long)) r p in
      let read : take 300 (drop 42 now) ≡ message = ap₂ (λ (n : ℕ) (l : List ℕ). take n (drop 42 l)) (sym long) one ∙ part-put 42 message b (omega (arith, long)) in
      let sent = summed begun all
      (f ∙ ap (λ (l : List ℕ). fold (total (pseudo_header_lem net.gateway l 17 308) + total (datagram_header 0 reply_source reply_target 308))) e)
      (g ∙ ap (λ (l : List ℕ). fold (begun + total l)) read) in
      let head : header ≡ its_header = h ∙ ap (λ (n : ℕ). datagram_header n reply_source reply_target 308) sent in
      let same : length now ≡ length b = ap length one ∙ length-put 42 message b (omega (arith, long)) in
      let two : now' ≡ put 34 its_datagram b =
      q
      ∙ ap (λ (l : List ℕ). put_if_fits 34 l now) head
      ∙ fits 34 its_header now (omega (arith, same))
      ∙ ap (put 34 its_header) one
      ∙ put_in_front 34 its_header message b (omega (arith, long))
      ∙ ap (λ (l : List ℕ). put 34 l b) in_pieces in
      let same' : length now' ≡ length b = ap length two ∙ length-put 34 its_datagram b (omega (arith, length_its_datagram)) in
      s
      ∙ ap (λ (l : List ℕ). put_if_fits 0 (headers to 328 id 17 net.gateway l) now') e
      ∙ fits 0 its_headers now' (omega (arith, same', length_its_headers))
      ∙ ap (put 0 its_headers) two
      ∙ ap (λ (n : ℕ). put 0 its_headers (put n its_datagram b)) (omega (arith, length_its_headers))
      ∙ put_in_front 0 its_headers its_datagram b (omega (arith, length_its_headers, length_its_datagram))
      ∙ ap (λ (l : List ℕ). put 0 l b) behind_headers
      ∙ sym (fits 0 (dhcp_frame_to net mac id to xid kind) b (omega (arith, length_dhcp_frame_to)))
