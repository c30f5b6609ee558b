pub mod RoaContent
pub mod ContentOctets
pub mod DecodeFault
pub mod steps
