pub mod Transactions
pub mod Spends
pub mod Texts
pub mod Reports
pub mod Commands
