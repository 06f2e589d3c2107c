mod Turn
mod Ended
mod Begun
