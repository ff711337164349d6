-- `Segment::header_with` meets its contract: byte by byte the literal is the definition, but for the shift that puts the data offset in its high bits.
use Prim.Native.Nat.{ℕ, ◌+◌, ◌*◌, ◌/◌, ◌%◌}
use mathlib.Core.Path.{◌≡◌, ap, ◌∙◌}
use native.Mathlib.Omega.{arith}
use lib.ListN.{length}
use Rattle.base.proofs.BigEndian.{be16_is, be32_is}
use Rattle.tcp.specs.Rfc9293.{options, segment_header_lem}
use Rattle.tcp.proofs.Segment.header_with.Goals as goal

pub returns : goal.returns
unfolding segment_header_lem
returns c =
    let s = c.args.self in
    let lines = c.options.ensures in
    let offset : (20 + length c.options.result.now) / 4 * 16 % 256 ≡ (20 + length (options s.flags)) / 4 * 16 =
    ap (λ (n : ℕ). (20 + n) / 4 * 16 % 256) (ap length lines.0) ∙ omega (arith, lines.1, ap length lines.0) in
    rw (
      offset,
      c.to_be_bytes-source.ensures ∙ be16_is s.ends.src_port (omega arith),
      c.to_be_bytes-target.ensures ∙ be16_is s.ends.dst_port (omega arith),
      c.to_be_bytes-seq.ensures ∙ be32_is s.seq (omega arith),
      c.to_be_bytes-ack.ensures ∙ be32_is s.ack (omega arith),
      c.to_be_bytes-window.ensures,
      c.to_be_bytes-csum.ensures ∙ be16_is c.args.csum (omega arith),
    )
