mod Again
mod Judged
mod Known
mod Repeated
mod Shown
mod Told
