pub mod Fit
