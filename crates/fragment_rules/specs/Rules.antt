-- Document 02's rules of the store (request 4/13): the order of refusals, and what is to be stored.
use Rattle.std.specs.Prelude.{ℕ, ◌-◌, ◌*◌, Bool, true, false, ◌&&◌, ◌||◌, not, cond, Option, Some, None, Result, Ok, Err, List, eqb, ltb, length}
use Rattle.bitmap.specs.Bitmap.{bit, count}
use Rattle.fragment_packets.specs.Packets.{packet_of, end_of, first_block, stop_block}
use Rattle.fragment_rules.specs.declared.answer.Refusal.{Refusal}
use Rattle.fragment_packets.specs.declared.packet.Datagram.{Datagram}
use Rattle.fragment_rules.specs.declared.answer.State.{State}
use Rattle.fragment_rules.specs.declared.answer.State.TheVariants.{Empty, Filling, Complete}
use Rattle.fragment_packets.specs.declared.packet.Fragment.{Fragment}
use Rattle.fragment_packets.specs.declared.packet.Packet.{Packet}
use Rattle.fragment_packets.specs.declared.packet.Packet.TheVariants.{Whole, Part}
use Rattle.fragment_rules.specs.declared.ruling.Ruling.{Ruling}
use Rattle.fragment_rules.specs.declared.ruling.Ruling.TheVariants.{Pass, Write}

-- "65,515 payload bytes, and 128 words of 64 bits"
unfoldable pub of_size_lem : (bytes bits : ℕ) → Bool
of_size_lem bytes bits = eqb bytes 65515 && eqb bits 128

-- "one datagram, named by source, target, protocol and id"
unfoldable pub same_datagram : Datagram → Datagram → Bool
same_datagram d e = eqb d.source e.source && (eqb d.target e.target && (eqb d.protocol e.protocol && eqb d.id e.id))

-- 11: "store holds a complete datagram or another one"
unfoldable pub is_held : State → Datagram → Bool
is_held Empty d = false
is_held (Filling held end) d = not (same_datagram held d)
is_held (Complete held length) d = true

-- the end as far as it is known
unfoldable pub known_end_lem : State → Option ℕ
known_end_lem Empty = None
known_end_lem (Filling held end) = end
known_end_lem (Complete held length) = Some length

-- 12: "a block is already there"
unfoldable pub overlaps : Fragment → (there : ℕ → ℕ) → Bool
overlaps f there = not (eqb (count there (first_block f) (stop_block f - first_block f)) 0)

-- 13: "a second last, a fragment past the known end, or a last that ends at or before a stored block's start"
unfoldable pub wrong_end : Fragment → Option ℕ → (there : ℕ → ℕ) → Bool
wrong_end f (Some end) there = f.last || ltb end (end_of f)
wrong_end f None there = f.last && not (eqb (count there (stop_block f) (128 * 64 - stop_block f)) 0)

-- the end once a fragment has come: a last one tells it
unfoldable pub end_with_lem : Fragment → Option ℕ → Option ℕ
end_with_lem f end = cond f.last (Some (end_of f)) end

-- what is to be done with a fit fragment: "for fragments only, 11 .. 12 .. 13"
unfoldable pub part_ruling : State → (there : ℕ → ℕ) → Fragment → Result Ruling Refusal
part_ruling state there f =
    cond (is_held state f.datagram) (Err Refusal.Held)
    (cond (overlaps f there) (Err Refusal.Overlap)
    (cond (wrong_end f (known_end_lem state) there) (Err Refusal.WrongEnd)
    (Ok (Write f (end_with_lem f (known_end_lem state))))))

-- "A frame with no fragmentation passes by without touching the store"
unfoldable pub packet_ruling : State → (there : ℕ → ℕ) → Option Packet → Result Ruling Refusal
packet_ruling state there None = Err Refusal.Unfit
packet_ruling state there (Some (Whole start length)) = Ok Pass
packet_ruling state there (Some (Part f)) = part_ruling state there f

-- "Refusals, in this order .. 10 a store lent at another size, a frame .."
unfoldable pub ruling : State → (frame : List ℕ) (bytes : ℕ) (bits : List ℕ) → Result Ruling Refusal
ruling state frame bytes bits =
    cond (not (of_size_lem bytes (length bits))) (Err Refusal.Unfit)
    (packet_ruling state (bit bits) (packet_of frame))
