mod Reading
mod Decoding
