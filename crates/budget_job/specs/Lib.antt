pub mod BudgetJob
pub mod Fitting
