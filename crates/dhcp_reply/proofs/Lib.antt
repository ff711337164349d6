pub mod FramePieces
pub mod FrameReadBack
