pub mod Exchanges
pub mod Laws
pub mod Layout
pub mod Words
pub use Rattle.cpu_word.specs as cpu_word
