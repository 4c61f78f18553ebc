pub mod Common
mod Raising
