mod Talks
mod Wholes
