mod AsDone
mod OneReply
