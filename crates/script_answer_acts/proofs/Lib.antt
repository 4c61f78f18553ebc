mod Common
mod Inverse
mod Parts
mod Passing
mod Splits
mod Tells
mod WordsOf
