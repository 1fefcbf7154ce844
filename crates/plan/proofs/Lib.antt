pub mod Reading
pub mod Asking
pub mod Filled
pub mod Elements
pub mod IndexLaws
pub mod PlannedLaws
