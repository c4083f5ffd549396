pub mod Orders
pub mod SourcesBegun
