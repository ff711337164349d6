-- A fragment that fits is stored whole: its payload is copied, its blocks are marked, and the answer goes by the blocks that are there then.
use Prim.Native.Nat.{ℕ, ◌+◌, ◌-◌, ◌*◌, ◌≤◌}
use mathlib.Core.Bool.{Bool, true, and-eq-true_iff, cond}
use mathlib.Core.List.{List}
use mathlib.Core.Path.{◌≡◌, ap, fun_ext, ◌∙◌}
use native.Mathlib.Omega.{arith}
use borrow.Author.Tests.{eqb-true, le-leb}
use lib.Dec.{eqb}
use lib.ListN.{length, take, drop, length-drop}
use lib.Seq.{length-take-le}
use Rattle.bitmap.specs.Bitmap.{bit, having, Marked, blocks_of_lem}
use Rattle.base.specs.Bytes.{part}
use Rattle.base.specs.Buffer.{put, put_if_fits}
use Rattle.fragment_rules.specs.Rules.{of_size_lem}
use Rattle.fragment_packets.specs.Packets.{end_of, first_block, stop_block}
use Rattle.fragment_packets.specs.declared.packet.Fragment.{Fragment}

-- a store of the right size
pub of_size : (bytes bits : ℕ) → of_size_lem bytes bits ≡ true → (bytes ≡ 65515) × (bits ≡ 128)
unfolding of_size_lem
of_size bytes bits e =
    let both = (and-eq-true_iff (eqb bytes 65515) (eqb bits 128)).0 e in
    (eqb-true bytes 65515 both.0, eqb-true bits 128 both.1)

-- the payload as code takes it out of the frame, copied to its place
pub copied : (f : Fragment) (frame bytes : List ℕ) → f.start + f.length ≤ length frame → end_of f ≤ 65515 → length bytes ≡ 65515
    → put_if_fits f.offset (take (f.start + f.length - f.start) (drop f.start frame)) bytes ≡ put f.offset (part frame f.start f.length) bytes
unfolding put_if_fits
copied f frame bytes inside short size =
    let payload = part frame f.start f.length in
    let long : length payload ≡ f.length = length-take-le f.length (drop f.start frame) (omega (arith, length-drop f.start frame)) in
    ap (λ (n : ℕ). put_if_fits f.offset (take n (drop f.start frame)) bytes) {x = f.start + f.length - f.start} {y = f.length} (omega arith)
    ∙ ap (λ (t : Bool). cond t (put f.offset payload bytes) bytes) (le-leb (f.offset + length payload) (length bytes) (omega (arith, long)))

-- the blocks that are there once the fragment's are marked
pub marked : (f : Fragment) (bits bits' : List ℕ) → end_of f ≤ 65515 → length bits ≡ 128 → Marked (first_block f) (stop_block f) bits bits'
    → bit bits' ≡ having (bit bits) (first_block f) (stop_block f)
unfolding blocks_of_lem
marked f bits bits' short size m =
    fun_ext (λ b.
    m.bits b
    ∙ ap (λ (t : Bool). cond t (having (bit bits) (first_block f) (stop_block f) b) (bit bits b))
    (le-leb (stop_block f) (length bits * 64) (omega (arith, short, size))))
