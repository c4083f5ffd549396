pub mod KeptLogs
pub mod MergedNodes
pub mod SplitNodes
pub mod Steps
