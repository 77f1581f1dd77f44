pub mod Program
pub mod Sound
