pub mod AsDone
pub mod OneReply
