mod Bare
mod Names
mod Tables
mod Tried
