pub mod RunsHold
