pub mod TablesRead
pub mod OldTablesRead
pub mod OldTrees
pub mod Opening
pub mod Laws
pub mod steps
