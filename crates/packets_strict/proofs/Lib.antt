-- What the proofs of several tests use.
mod Reading
mod Pseudo
