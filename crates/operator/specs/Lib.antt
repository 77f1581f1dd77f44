pub mod Kept
pub mod Holding
pub mod Storable
pub mod StandsFor
pub mod Front
