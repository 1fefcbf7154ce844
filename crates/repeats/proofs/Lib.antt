pub mod GoingLaws
pub mod RowLaws
pub mod Adding
pub mod SoFar
