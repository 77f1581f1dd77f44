pub mod Disjoint
pub mod Equations
pub mod Induction
pub mod NameFlags
pub mod Resolving
pub mod Senses
pub mod Small
