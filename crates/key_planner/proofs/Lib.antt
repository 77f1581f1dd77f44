mod Columns
mod Parts
mod PlanStages
