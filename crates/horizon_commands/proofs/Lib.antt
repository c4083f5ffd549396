pub mod Horizons
mod LeastTexts
