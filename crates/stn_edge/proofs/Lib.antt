mod FrontLemmas
pub mod FileLemmas
mod StoredFiles
mod WrittenLemmas
mod FailingCalls
