pub mod Fields
pub mod HeadEnd
pub mod Input
pub mod Lengths
pub mod Methods
pub mod ResponseText
pub mod steps
