-- Steps of the code, which no public contract cites.
pub mod HttpAnswering
pub mod LineSplitting
pub mod PieceWriting
pub mod ReplyItems
pub mod VrpWriting
