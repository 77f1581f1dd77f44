pub mod Folds
mod PlanMeanings
