pub mod Asked
pub mod Bounds
pub mod Cuts
pub mod Figures
pub mod Signs
