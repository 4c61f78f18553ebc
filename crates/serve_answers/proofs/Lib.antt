mod NoLines
mod Shown
mod Stops
mod Tells
mod Shortened
