pub mod Options
pub mod RowsLeft
pub mod Runs
pub mod Cursors
pub mod FromRun
pub mod Stretches
pub mod Made
pub mod Some
