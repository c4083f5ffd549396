pub mod Requests
pub mod Replies
pub mod Done
pub mod Rooms
