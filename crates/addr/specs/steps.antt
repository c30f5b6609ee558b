-- What the code's steps leave, which no public clause speaks of.
pub mod Parts
pub mod TotalOrders
