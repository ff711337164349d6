-- `amended`, run on the frames that the compiled Rust pushed (the table of its runs): each DHCP reply has document 01's UDP header of D0, 00 44 00 43 01 34 00 00, and gets document 02's,
-- 00 43 00 44 01 34 and the checksum that scapy gives it; each ARP reply and each echo stays as it is. And `summed`, run on the datagrams that it built.
use Prim.Native.Nat.{ℕ}
use mathlib.Core.List.{List, [], ◌∷◌, ◌++◌}
use mathlib.Core.Path.{◌≡◌, refl}
use lib.ListN.{length, take, replicate}
use Rattle.base.specs.Buffer.{put, put_if_fits}
use Rattle.base.specs.Bytes.{part}
use Rattle.published.specs.Rust.{gives, panics, cuts, unfinished}
use Rattle.published.specs.Runs.{Row, starts, sends, sums, types, frames, datagrams, segments, replies, arp, icmp, dhcp_replies, udp_payloads}
use Rattle.sums.specs.Rfc1071.{words, sum, total, fold, checksum}
use Rattle.wire.specs.Rfc768.{pseudo_header_lem, covered, transmitted, checksum_of}
use Rattle.equals_rust.specs.Amended.{carries_udp, turned, summed, amended}

-- what `send` pushed in a row, from a backend that had nothing pending
abbrev pub pushed_by : Row → List (List ℕ)
pushed_by (sends before frame (gives b)) = b.rx_pending
pushed_by (sends before frame panics) = []
pushed_by (sends before frame cuts) = []
pushed_by (sends before frame unfinished) = []
pushed_by (starts mac after) = []
pushed_by (sums bytes sum) = []
pushed_by (types dhcp ends) = []
pushed_by (frames counter mac source target proto payload ends) = []
pushed_by (datagrams source target bytes ends) = []
pushed_by (segments counter between seq ack flags bytes ends) = []
pushed_by (replies xid mac type ends) = []

abbrev pub pushed_in : List Row → List (List ℕ)
pushed_in [] = []
pushed_in (row ∷ rows) = pushed_by row ++ pushed_in rows

-- of each of these frames
abbrev pub each : (List ℕ → List ℕ) → List (List ℕ) → List (List ℕ)
each f [] = []
each f (frame ∷ rest) = f frame ∷ each f rest

pub d0_of_the_rust : each (λ (frame : List ℕ). part frame 34 8) (pushed_in dhcp_replies) ≡ replicate 8 (0x00 ∷ 0x44 ∷ 0x00 ∷ 0x43 ∷ 0x01 ∷ 0x34 ∷ 0x00 ∷ 0x00 ∷ [])
d0_of_the_rust = refl

pub d0_amended : each (λ (frame : List ℕ). part (amended frame) 34 6) (pushed_in dhcp_replies) ≡ replicate 8 (0x00 ∷ 0x43 ∷ 0x00 ∷ 0x44 ∷ 0x01 ∷ 0x34 ∷ [])
unfolding amended carries_udp turned summed put_if_fits put
d0_amended = refl

pub d0_summed : each (λ (frame : List ℕ). part (amended frame) 40 2) (pushed_in dhcp_replies)
    ≡ (0x6c ∷ 0xfc ∷ []) ∷ (0x69 ∷ 0xfc ∷ []) ∷ (0x69 ∷ 0xfc ∷ []) ∷ (0x6c ∷ 0xfc ∷ []) ∷ (0x6c ∷ 0xfc ∷ []) ∷ (0x6c ∷ 0xfc ∷ []) ∷ (0xe9 ∷ 0x9d ∷ []) ∷ (0x25 ∷ 0xd5 ∷ []) ∷ []
unfolding amended carries_udp turned summed put_if_fits put checksum_of transmitted covered pseudo_header_lem checksum total words sum fold
d0_summed = refl

pub others_stay : each amended (pushed_in arp ++ pushed_in icmp) ≡ pushed_in arp ++ pushed_in icmp
unfolding amended carries_udp
others_stay = refl

pub how_many_others : (length (pushed_in arp) ≡ 5) × (length (pushed_in icmp) ≡ 11)
how_many_others = (refl, refl)

-- what `make_udp_payload` built in a row
abbrev pub built_by : Row → List (List ℕ)
built_by (datagrams source target bytes (gives built)) = built ∷ []
built_by (datagrams source target bytes panics) = []
built_by (datagrams source target bytes cuts) = []
built_by (datagrams source target bytes unfinished) = []
built_by (sends before frame ends) = []
built_by (starts mac after) = []
built_by (sums bytes sum) = []
built_by (types dhcp ends) = []
built_by (frames counter mac source target proto payload ends) = []
built_by (segments counter between seq ack flags bytes ends) = []
built_by (replies xid mac type ends) = []

abbrev pub built_in : List Row → List (List ℕ)
built_in [] = []
built_in (row ∷ rows) = built_by row ++ built_in rows

-- from 10.0.2.2 to 10.0.2.15: the Rust's bytes, and in 6 and 7 the checksum that scapy gives them
pub datagrams_of_the_rust : each (take 8) (built_in udp_payloads)
    ≡ (0x01 ∷ 0x02 ∷ 0x03 ∷ 0x04 ∷ 0x00 ∷ 0x08 ∷ 0x00 ∷ 0x00 ∷ [])
    ∷ (0x00 ∷ 0x44 ∷ 0x00 ∷ 0x43 ∷ 0x00 ∷ 0x09 ∷ 0x00 ∷ 0x00 ∷ [])
    ∷ (0x00 ∷ 0x00 ∷ 0xff ∷ 0xff ∷ 0x00 ∷ 0x0a ∷ 0x00 ∷ 0x00 ∷ [])
    ∷ (0xff ∷ 0xff ∷ 0x00 ∷ 0x00 ∷ 0x01 ∷ 0x34 ∷ 0x00 ∷ 0x00 ∷ [])
    ∷ []
datagrams_of_the_rust = refl

pub datagrams_summed : each (λ (built : List ℕ). take 8 (summed (10 ∷ 0 ∷ 2 ∷ 2 ∷ []) (10 ∷ 0 ∷ 2 ∷ 15 ∷ []) built)) (built_in udp_payloads)
    ≡ (0x01 ∷ 0x02 ∷ 0x03 ∷ 0x04 ∷ 0x00 ∷ 0x08 ∷ 0xe3 ∷ 0xc7 ∷ [])
    ∷ (0x00 ∷ 0x44 ∷ 0x00 ∷ 0x43 ∷ 0x00 ∷ 0x09 ∷ 0x16 ∷ 0x44 ∷ [])
    ∷ (0x00 ∷ 0x00 ∷ 0xff ∷ 0xff ∷ 0x00 ∷ 0x0a ∷ 0x15 ∷ 0xf7 ∷ [])
    ∷ (0xff ∷ 0xff ∷ 0x00 ∷ 0x00 ∷ 0x01 ∷ 0x34 ∷ 0xe5 ∷ 0x75 ∷ [])
    ∷ []
unfolding summed put_if_fits put checksum_of transmitted covered pseudo_header_lem checksum total words sum fold
datagrams_summed = refl
