pub mod StreamLaws
pub mod NoteLaws
pub mod GroupLaws
pub mod RowLaws
pub mod FeedLaws
pub mod OrderLaws
