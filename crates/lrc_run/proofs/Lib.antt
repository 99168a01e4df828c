mod Telling
mod Behind
mod Sources
mod Stopped
mod Halting
