pub mod Rising
pub mod ValidityState
pub mod SearchDepths
pub mod steps
pub mod Visit
pub mod VrpSet
