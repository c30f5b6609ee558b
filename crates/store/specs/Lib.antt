pub mod StoreRows
pub mod RefusedOpening
pub mod Given
pub mod PartLoaded
pub mod Laws
pub mod steps
