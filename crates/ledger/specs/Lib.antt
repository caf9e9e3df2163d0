pub mod Lines
pub mod Dues
pub mod Sums
pub mod Balances
pub mod Issues
pub mod Passes
pub mod Walks
pub mod Ledgers
