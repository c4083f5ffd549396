pub mod Named
pub mod ReadBack
pub mod TextLemmas
pub mod StatusLemmas
pub mod KeptLemmas
