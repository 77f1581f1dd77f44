pub mod Core
