pub mod Text
pub mod Outcomes
pub mod Ends
pub mod Replies
pub mod Runs
