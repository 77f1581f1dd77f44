pub mod CatalogLemmas
pub mod OrderLemmas
