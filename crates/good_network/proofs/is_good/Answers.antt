-- `is_good` meets its contract: each test that fails is a fact that a good network has, and all of them are what it has.
use native.Mathlib.Omega.{arith}
use Prim.Native.Nat.{◌-◌, ◌^◌, ◌≤◌}
use mathlib.Core.Path.{◌≡◌, sym, ◌∙◌}
use lib.Count.{ones}
use Rattle.base.proofs.Telling.{tells_same}
use Rattle.good_network.specs.Good.{size}
use Rattle.good_network.proofs.Masks.{found, ones_are, leading_are, share_to, share_of, between_to, between_of}
use Rattle.good_network.proofs.is_good.Goals as goal

pub returns-then-prefix-mask : goal.returns-then-prefix-mask
returns-then-prefix-mask c = λ g. c.if-prefix-mask.true (ones_are g.contiguous g.most ∙ sym (leading_are g.contiguous g.most))

pub returns-then-prefix-lt-SHORTEST_PREFIX : goal.returns-then-prefix-lt-SHORTEST_PREFIX
returns-then-prefix-lt-SHORTEST_PREFIX c = λ g. omega (arith, ones_are g.contiguous g.most)

pub returns-then-prefix-gt-LONGEST_PREFIX : goal.returns-then-prefix-gt-LONGEST_PREFIX
returns-then-prefix-gt-LONGEST_PREFIX c = λ g. omega (arith, ones_are g.contiguous g.most)

pub returns-then-gateway-mask : goal.returns-then-gateway-mask
returns-then-gateway-mask c = λ g. c.if-gateway-mask.true (share_to g.contiguous g.most (omega arith) (omega arith) g.share)

pub returns-then-not-is_between : goal.returns-then-not-is_between
returns-then-not-is_between c = λ g. c.if-not-is_between.ensures (between_to g.contiguous g.most _ g.gateway_between)

pub returns : goal.returns
returns c =
    let a = c.args in
    let mask : a.mask ≡ 2 ^ 32 - size (ones a.mask) = found a.mask (omega arith) c.if-prefix-mask.false in
    let most : ones a.mask ≤ 30 = omega arith in
    tells_same c.is_between-2.result c.is_between-2.ensures
    (λ b. record {
      prefix = ones a.mask;
      contiguous = mask;
      least = omega arith;
      most = most;
      differ = c.if-gateway-guest.false;
      share = share_of mask most (omega arith) (omega arith) c.if-gateway-mask.false;
      gateway_between = between_of mask most a.gateway c.if-not-is_between.ensures;
      guest_between = between_of mask most a.guest b;
    })
    (λ g. between_to g.contiguous g.most _ g.guest_between)
