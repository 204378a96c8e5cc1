pub mod Groups
pub mod MergeIn
