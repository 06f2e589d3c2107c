mod Turn
mod Replayed
mod Begun
