-- What makes a network good (document 02, 1/13). An address is a number of 32 bits. Of a prefix of `p` bits the first p of them are the
-- network, and the other 32 - p the place in it.
use Rattle.std.specs.Prelude.{ℕ, ◌-◌, ◌/◌, ◌%◌, ◌^◌, ◌≤◌, ◌≡◌}

-- how many addresses a network of this prefix has
abbrev pub size : (prefix : ℕ) → ℕ
size prefix = 2 ^ (32 - prefix)

-- "neither its lowest nor its highest address": a place in a network whose last is `highest`
pub record Between (place highest : ℕ) : Type 0 where
  pub not_lowest : place ≡ 0 → ⊥
  pub not_highest : place ≡ highest → ⊥

pub record Good (gateway guest mask : ℕ) : Type 0 where
  pub prefix : ℕ
  -- "ones followed by zeros: its prefix length is the number of ones": that many ones, and zeros behind them
  pub contiguous : mask ≡ 2 ^ 32 - size prefix
  -- "and lie from 8 to 30"
  pub least : 8 ≤ prefix
  pub most : prefix ≤ 30
  -- "The two addresses must differ, share the network,
  pub differ : gateway ≡ guest → ⊥
  pub share : gateway / size prefix ≡ guest / size prefix
  -- and be neither its lowest nor its highest address."
  pub gateway_between : Between (gateway % size prefix) (size prefix - 1)
  pub guest_between : Between (guest % size prefix) (size prefix - 1)

-- the highest address of the network of `guest`: it is of that network, and no address of the network is higher
pub record Highest (prefix guest highest : ℕ) : Type 0 where
  pub of_network : highest / size prefix ≡ guest / size prefix
  pub none_higher : (address : ℕ) → address / size prefix ≡ guest / size prefix → address ≤ highest
