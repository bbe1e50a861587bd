pub mod EndLaws
mod Feeding
