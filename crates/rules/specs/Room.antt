-- Room for every reply, so that 5 is never answered. Document 01 names the replies; this is what they take at most.
use Rattle.std.specs.Prelude.{ℕ, ◌+◌, ◌≤◌, List, length}

-- 65,549 bytes, whatever the frame; or the frame's length and 16 (a ping may state a header of 4 bytes, and its reply has one of 20), and 342 at least (a DHCP reply)
pub data Ample (frame : List ℕ) (room : ℕ) : Type 0 where
  for_all : 65549 ≤ room → Ample frame room
  for_this : 342 ≤ room → length frame + 16 ≤ room → Ample frame room
