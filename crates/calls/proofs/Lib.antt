pub mod StaysInRange
pub mod Serial
pub mod Doors
pub mod Fit
