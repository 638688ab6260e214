pub mod Rivals
pub mod Scale
pub mod Columns
pub mod Reasons
pub mod GoodBudget
pub mod BlockPlans
pub mod Budgets
