pub mod Device
pub mod Printed
pub mod Streams
pub mod steps
