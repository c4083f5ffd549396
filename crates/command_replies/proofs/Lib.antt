pub mod ReadFiles
pub mod AnswerLemmas
pub mod FileLemmas
