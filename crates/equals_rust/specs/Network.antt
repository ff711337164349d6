-- The network of the published Rust, whose addresses are constants of its text: demand 2 compares with it on a record of these values. They are written
-- out here, the lease too, so that no default of ours moves the comparison; that the addresses are the text's is proved
-- in `proofs/TheNetwork.antt`, and that the lease is, in `proofs/Lease.antt` (`build_reply_given`).
use Rattle.std.specs.Prelude.{[], ◌∷◌}
use Rattle.record.specs.declared.network.Network.{Network}

abbrev pub rust_network : Network
rust_network =
    record {
      gateway = 10 ∷ 0 ∷ 2 ∷ 2 ∷ [];
      guest = 10 ∷ 0 ∷ 2 ∷ 15 ∷ [];
      mask = 255 ∷ 255 ∷ 255 ∷ 0 ∷ [];
      lease = 86400;
    }
